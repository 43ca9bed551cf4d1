-- The values that a caller sees are small.
use Rattle.std.proofs.Common.{◌<◌, lit<}
use Rattle.terms.specs.Values.{refusal_number}
use Rattle.terms.specs.declared.refusal.Refusal.{Refusal}
use Rattle.terms.specs.declared.refusal.Refusal.TheVariants.{TapeTooLong, EndsEarly, UnknownLetter, BadNumber, OutsideLimits, UnfitQueue, WrongPhase, BadMember, BadPrice, BadLots, BadSpread, BadQuoteLots, ShortTradeTable, NotResting, NotOwner, HaltedRise, BeyondRange, QuoteRests, TurnsUsedUp, QueueFull, AlreadyHeld, BadCut, ListingTooLong}

pub refusal_small : (r : Refusal) → refusal_number r < 24
refusal_small TapeTooLong = lit< tt
refusal_small EndsEarly = lit< tt
refusal_small UnknownLetter = lit< tt
refusal_small BadNumber = lit< tt
refusal_small OutsideLimits = lit< tt
refusal_small UnfitQueue = lit< tt
refusal_small WrongPhase = lit< tt
refusal_small BadMember = lit< tt
refusal_small BadPrice = lit< tt
refusal_small BadLots = lit< tt
refusal_small BadSpread = lit< tt
refusal_small BadQuoteLots = lit< tt
refusal_small ShortTradeTable = lit< tt
refusal_small NotResting = lit< tt
refusal_small NotOwner = lit< tt
refusal_small HaltedRise = lit< tt
refusal_small BeyondRange = lit< tt
refusal_small QuoteRests = lit< tt
refusal_small TurnsUsedUp = lit< tt
refusal_small QueueFull = lit< tt
refusal_small AlreadyHeld = lit< tt
refusal_small BadCut = lit< tt
refusal_small ListingTooLong = lit< tt
