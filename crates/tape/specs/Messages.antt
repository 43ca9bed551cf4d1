-- A message: its letter, and the numbers of its body.
use Rattle.std.specs.Prelude.{◌≡◌, ℕ, List, [], ◌∷◌, Some, None, Ok, Err, Option, Result}
use Rattle.std.specs.List.{flat_map}
use Rattle.terms.specs.Messages.{letter_for, numbers_for, order_from, change_from, cancel_from, quote_from}
use Rattle.terms.specs.Values.{letter_byte, letter_of}
use Rattle.terms.specs.declared.letter.Letter.{Letter}
use Rattle.terms.specs.declared.letter.Letter.TheVariants as letter
use Rattle.terms.specs.declared.message.Message.{Message}
use Rattle.terms.specs.declared.message.Message.TheVariants.{Buy, Sell, ImmediateBuy, ImmediateSell, Change, Cancel, Quote, Renew, Halt, Resume, End}
use Rattle.terms.specs.declared.refusal.Refusal.{Refusal}
use Rattle.terms.specs.declared.refusal.Refusal.TheVariants.{EndsEarly, UnknownLetter}
use Rattle.tape.specs.Numbers.{encoded, read_numbers}

-- how many numbers stand behind a letter
abbrev pub arity : Letter → ℕ
arity letter.Buy = 3
arity letter.Sell = 3
arity letter.ImmediateBuy = 3
arity letter.ImmediateSell = 3
arity letter.Change = 4
arity letter.Cancel = 2
arity letter.Quote = 4
arity letter.Renew = 0
arity letter.Halt = 0
arity letter.Resume = 0
arity letter.End = 0

abbrev pub message_from : Letter → List ℕ → Message
message_from letter.Buy ns = Buy (order_from ns)
message_from letter.Sell ns = Sell (order_from ns)
message_from letter.ImmediateBuy ns = ImmediateBuy (order_from ns)
message_from letter.ImmediateSell ns = ImmediateSell (order_from ns)
message_from letter.Change ns = Change (change_from ns)
message_from letter.Cancel ns = Cancel (cancel_from ns)
message_from letter.Quote ns = Quote (quote_from ns)
message_from letter.Renew ns = Renew
message_from letter.Halt ns = Halt
message_from letter.Resume ns = Resume
message_from letter.End ns = End

-- the bytes of a message: its letter, and then its numbers
abbrev pub encoded_message : Message → List ℕ
encoded_message m = letter_byte (letter_for m) ∷ flat_map encoded (numbers_for m)

-- what f makes of the numbers that were read
abbrev pub body : {A : Type 0} → (List ℕ → A) → Result (List ℕ × List ℕ) Refusal → Result (A × List ℕ) Refusal
body f (Ok p) = Ok (f p.0, p.1)
body f (Err e) = Err e

-- a message of some kind, of a body that was made of the numbers that were read
abbrev pub MadeOf : {A : Type 0} → (List ℕ → A → Type 0) → (A → Message → Type 0) → Result (List ℕ × List ℕ) Refusal → Result (Message × List ℕ) Refusal → Type 0
MadeOf {A} made kind (Ok p) r = (a : A) × (m : Message) × made p.0 a × kind a m × (r ≡ Ok (m, p.1))
MadeOf made kind (Err e) r = r ≡ Err e

abbrev pub read_body : Letter → List ℕ → Result (Message × List ℕ) Refusal
read_body l bs = body (message_from l) (read_numbers (arity l) bs)

abbrev pub behind_letter : Option Letter → List ℕ → Result (Message × List ℕ) Refusal
behind_letter None bs = Err UnknownLetter
behind_letter (Some l) bs = read_body l bs

abbrev pub read_message : List ℕ → Result (Message × List ℕ) Refusal
read_message [] = Err EndsEarly
read_message (b ∷ bs) = behind_letter (letter_of b) bs
