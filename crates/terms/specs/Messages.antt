-- A message taken apart: its letter, and the numbers of its body in a tape's order.
use Rattle.std.specs.Prelude.{ℕ, List, [], ◌∷◌, slice_index}
use Rattle.terms.specs.declared.letter.Letter.{Letter}
use Rattle.terms.specs.declared.letter.Letter.TheVariants as letter
use Rattle.terms.specs.declared.message.Message.{Message}
use Rattle.terms.specs.declared.message.Message.TheVariants.{Buy, Sell, ImmediateBuy, ImmediateSell, Change, Cancel, Quote, Renew, Halt, Resume, End}
use Rattle.terms.specs.declared.message.OrderCancel.{OrderCancel}
use Rattle.terms.specs.declared.message.OrderChange.{OrderChange}
use Rattle.terms.specs.declared.message.OrderEntry.{OrderEntry}
use Rattle.terms.specs.declared.message.QuoteEntry.{QuoteEntry}

abbrev pub letter_for : Message → Letter
letter_for (Buy o) = letter.Buy
letter_for (Sell o) = letter.Sell
letter_for (ImmediateBuy o) = letter.ImmediateBuy
letter_for (ImmediateSell o) = letter.ImmediateSell
letter_for (Change o) = letter.Change
letter_for (Cancel o) = letter.Cancel
letter_for (Quote q) = letter.Quote
letter_for Renew = letter.Renew
letter_for Halt = letter.Halt
letter_for Resume = letter.Resume
letter_for End = letter.End

-- the bodies, each from its numbers in a tape's order, and the numbers of each
abbrev pub order_from : List ℕ → OrderEntry
order_from ns = record { member = slice_index ns 0; price = slice_index ns 1; lots = slice_index ns 2 }

abbrev pub order_numbers : OrderEntry → List ℕ
order_numbers o = o.member ∷ (o.price ∷ (o.lots ∷ []))

abbrev pub change_from : List ℕ → OrderChange
change_from ns = record { member = slice_index ns 0; order = slice_index ns 1; price = slice_index ns 2; lots = slice_index ns 3 }

abbrev pub change_numbers : OrderChange → List ℕ
change_numbers o = o.member ∷ (o.order ∷ (o.price ∷ (o.lots ∷ [])))

abbrev pub cancel_from : List ℕ → OrderCancel
cancel_from ns = record { member = slice_index ns 0; order = slice_index ns 1 }

abbrev pub cancel_numbers : OrderCancel → List ℕ
cancel_numbers o = o.member ∷ (o.order ∷ [])

abbrev pub quote_from : List ℕ → QuoteEntry
quote_from ns =
    record { bid_price = slice_index ns 0; bid_lots = slice_index ns 1; ask_price = slice_index ns 2; ask_lots = slice_index ns 3 }

abbrev pub quote_numbers : QuoteEntry → List ℕ
quote_numbers q = q.bid_price ∷ (q.bid_lots ∷ (q.ask_price ∷ (q.ask_lots ∷ [])))

abbrev pub numbers_for : Message → List ℕ
numbers_for (Buy o) = order_numbers o
numbers_for (Sell o) = order_numbers o
numbers_for (ImmediateBuy o) = order_numbers o
numbers_for (ImmediateSell o) = order_numbers o
numbers_for (Change o) = change_numbers o
numbers_for (Cancel o) = cancel_numbers o
numbers_for (Quote q) = quote_numbers q
numbers_for Renew = []
numbers_for Halt = []
numbers_for Resume = []
numbers_for End = []
