-- The first and the last of a day.
use Rattle.std.specs.Prelude.{◌+◌, Bool, not, ◌&&◌, ◌||◌, [], ◌∷◌, length, Option, ◌==◌}
use Rattle.terms.specs.Setups.{instrument_allowed, within}
use Rattle.terms.specs.declared.refusal.Refusal.{Refusal}
use Rattle.terms.specs.declared.refusal.Refusal.TheVariants.{OutsideLimits, UnfitQueue}
use Rattle.terms.specs.declared.setup.Instrument.{Instrument}
use Rattle.terms.specs.declared.trade.Answer.{Answer}
use Rattle.queue.specs.Held.{Held}
use Rattle.orders.specs.declared.order.Order.{Order}
use Rattle.rules.specs.Book.{resting_lots}
use Rattle.rules.specs.Checks.{first_of}

-- a queue is empty, and its capacity is 1 to 1,024
abbrev pub fit : Held Order → Bool
fit h = length h.elements == 0 && within 1 1024 h.capacity

-- why a book is not opened, if it is not
abbrev pub opening_refusal : Instrument → Held Order → Held Order → Option Refusal
opening_refusal i buys sells =
    first_of ((OutsideLimits, not (instrument_allowed i)) ∷ ((UnfitQueue, not (fit buys) || not (fit sells)) ∷ []))

-- the answer of a call that has nothing to count
abbrev pub nothing : Answer
nothing = record { number = 0; traded = 0; resting = 0; cancelled = 0; trades = 0 }

-- the end of the day: its answer, and a queue after it
abbrev pub ended : Held Order → Held Order → Answer
ended buys sells =
    record { number = 0; traded = 0; resting = 0; cancelled = resting_lots buys.elements + resting_lots sells.elements; trades = 0 }

abbrev pub emptied : {E : Type 0} → Held E → Held E
emptied h = record { capacity = h.capacity; elements = [] }
