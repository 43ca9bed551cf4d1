-- The value of each case that a caller sees as a number or a byte.
use Rattle.std.specs.Prelude.{ℕ, cond, List, [], ◌∷◌, Some, None, Option, ◌==◌}
use Rattle.terms.specs.declared.refusal.Refusal.{Refusal}
use Rattle.terms.specs.declared.refusal.Refusal.TheVariants.{TapeTooLong, EndsEarly, UnknownLetter, BadNumber, OutsideLimits, UnfitQueue, WrongPhase, BadMember, BadPrice, BadLots, BadSpread, BadQuoteLots, ShortTradeTable, NotResting, NotOwner, HaltedRise, BeyondRange, QuoteRests, TurnsUsedUp, QueueFull, AlreadyHeld, BadCut, ListingTooLong}
use Rattle.terms.specs.declared.letter.Letter.{Letter}
use Rattle.terms.specs.declared.letter.Letter.TheVariants.{Buy, Sell, ImmediateBuy, ImmediateSell, Change, Cancel, Quote, Renew, Halt, Resume, End}
use Rattle.terms.specs.declared.letter.Make.{Make}
use Rattle.terms.specs.declared.letter.Make.TheVariants.{Sorted, Heaps}
use Rattle.terms.specs.declared.letter.Market.{Market}
use Rattle.terms.specs.declared.letter.Market.TheVariants.{Warrant, Stock}

abbrev pub refusal_number : Refusal → ℕ
refusal_number TapeTooLong = 1
refusal_number EndsEarly = 2
refusal_number UnknownLetter = 3
refusal_number BadNumber = 4
refusal_number OutsideLimits = 5
refusal_number UnfitQueue = 6
refusal_number WrongPhase = 7
refusal_number BadMember = 8
refusal_number BadPrice = 9
refusal_number BadLots = 10
refusal_number BadSpread = 11
refusal_number BadQuoteLots = 12
refusal_number ShortTradeTable = 13
refusal_number NotResting = 14
refusal_number NotOwner = 15
refusal_number HaltedRise = 16
refusal_number BeyondRange = 17
refusal_number QuoteRests = 18
refusal_number TurnsUsedUp = 19
refusal_number QueueFull = 20
refusal_number AlreadyHeld = 21
refusal_number BadCut = 22
refusal_number ListingTooLong = 23

-- the bytes are the letters B S I J A C Q R H U E
abbrev pub letter_byte : Letter → ℕ
letter_byte Buy = 66
letter_byte Sell = 83
letter_byte ImmediateBuy = 73
letter_byte ImmediateSell = 74
letter_byte Change = 65
letter_byte Cancel = 67
letter_byte Quote = 81
letter_byte Renew = 82
letter_byte Halt = 72
letter_byte Resume = 85
letter_byte End = 69

abbrev pub make_number : Make → ℕ
make_number Sorted = 0
make_number Heaps = 1

abbrev pub market_number : Market → ℕ
market_number Warrant = 0
market_number Stock = 1

-- the first of the cases whose value is n, if any
abbrev pub case_of : {A : Type 0} → (A → ℕ) → List A → ℕ → Option A
case_of value [] n = None
case_of value (a ∷ rest) n = cond (value a == n) (Some a) (case_of value rest n)

abbrev pub letters : List Letter
letters =
    Buy ∷ (Sell ∷ (ImmediateBuy ∷ (ImmediateSell ∷ (Change ∷ (Cancel ∷ (Quote ∷ (Renew ∷ (Halt ∷ (Resume ∷ (End ∷ []))))))))))

abbrev pub letter_of : ℕ → Option Letter
letter_of = case_of letter_byte letters

abbrev pub make_of : ℕ → Option Make
make_of = case_of make_number (Sorted ∷ (Heaps ∷ []))

abbrev pub market_of : ℕ → Option Market
market_of = case_of market_number (Warrant ∷ (Stock ∷ []))
