-- The laws of a day, in a clearing office's words. They cite the ledger, and of the rules only their types.
--   Conserved    every lot entered is traded, cancelled or rests
--   Fair         each trade is inside the range and both limits, and each party is the first of its side
--   Uncrossed    no price of the range is within the limits of both a resting buy and a resting sell
use Rattle.std.specs.Prelude.{◌≡◌, ℕ, ◌+◌, ◌<◌, ◌≤◌, ◌⊎◌, List, [], ◌∷◌, Some, None, Option}
use Rattle.std.specs.List.{AllByRecursion}
use Rattle.terms.specs.declared.side.Side.{Side}
use Rattle.terms.specs.declared.side.Side.TheVariants.{Buy, Sell}
use Rattle.terms.specs.declared.trade.Trade.{Trade}
use Rattle.orders.specs.declared.order.Order.{Order}
use Rattle.price_range.specs.declared.band.Band.{Band}
use Rattle.rules.specs.Book.{Answers, Book}
use Rattle.rules.specs.Calls.{Outcome, refused, answered, lots, Event}
use Rattle.rules.specs.Ledger.{Entry, Entries, Ledger, at, left, deal, opens, ledger}

-- the lots that rest under a number
abbrev pub under : ℕ → List Order → ℕ
under m [] = 0
under m (o ∷ os) = at o.number m o.lots 0 + under m os

abbrev pub Conserved : Entries → Book → Type 0
Conserved l b = (m : ℕ) → (l m).entered ≡ (l m).traded + (l m).cancelled + (under m b.buys.elements + under m b.sells.elements)

-- a price inside the range
abbrev pub Inside : Option Band → ℕ → Type 0
Inside None p = ⊥
Inside (Some r) p = (r.low ≤ p) × (p ≤ r.high)

abbrev pub Uncrossed : Option Band → Book → Type 0
Uncrossed r b =
    (p : ℕ) → Inside r p → AllByRecursion (λ o. AllByRecursion (λ s. p ≤ o.price → s.price ≤ p → ⊥) b.sells.elements) b.buys.elements

-- better price, or the same price and an earlier turn
abbrev pub Better : Side → ℕ → ℕ → Type 0
Better Buy p q = q < p
Better Sell p q = p < q

abbrev pub Precedes : Side → Entry → Entry → Type 0
Precedes s e f = Better s e.limit f.limit ⊎ ((e.limit ≡ f.limit) × (e.turn < f.turn))

-- no number of its side with lots left has priority over n
abbrev pub First : Entries → ℕ → Type 0
First l n = (m : ℕ) → (l m).side ≡ (l n).side → 0 < left (l m) → Precedes (l n).side (l m) (l n) → ⊥

pub record FairTrade (r : Option Band) (l : Entries) (t : Trade) : Type 0 where
  pub buys : (l t.buyer).side ≡ Buy
  pub sells : (l t.seller).side ≡ Sell
  pub some : 0 < t.lots
  pub has_buyer : t.lots ≤ left (l t.buyer)
  pub has_seller : t.lots ≤ left (l t.seller)
  pub inside : Inside r t.price
  pub up_to : t.price ≤ (l t.buyer).limit
  pub from : (l t.seller).limit ≤ t.price
  pub first_buyer : First l t.buyer
  pub first_seller : First l t.seller

-- one trade after the other
abbrev pub FairTrades : Option Band → Entries → List Trade → Type 0
FairTrades r l [] = Unit {0}
FairTrades r l (t ∷ ts) = FairTrade r l t × FairTrades r (deal t l) ts

-- the range of the moment counts this call's bid and ask; a refused call and a question have no trades
abbrev pub FairOutcome : Outcome → Ledger → Event → Type 0
FairOutcome (refused r) l e = e.trades ≡ []
FairOutcome (answered a) l e = FairTrades ((opens e.call l).range []) (opens e.call l).entry e.trades
FairOutcome (lots m n) l e = e.trades ≡ []

abbrev pub Fair : Answers → List Event → Type 0
Fair ρ [] = Unit {0}
Fair ρ (e ∷ h) = FairOutcome e.outcome (ledger ρ h) e × Fair ρ h

-- the three laws of a day
pub record Lawful (ρ : Answers) (h : List Event) (b : Book) : Type 0 where
  pub conserved : Conserved (ledger ρ h).entry b
  pub fair : Fair ρ h
  pub uncrossed : Uncrossed ((ledger ρ h).range []) b
