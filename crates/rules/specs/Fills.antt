-- Which orders an order meets that is entered or changed, and for how many lots: said of the whole, not step after step.
--   CanMeet    some price of the range is within both limits
--   Whole      each trade but the last takes all lots of its order
--   Filled     the orders met are the first of the other side, as many as can meet and as its lots suffice for
use Rattle.std.specs.Prelude.{◌≡◌, ℕ, ◌≤◌, min, ◌⊎◌, List, [], ◌∷◌, ◌++◌, map, length, take, Some, None, Option}
use Rattle.std.specs.List.{AllByRecursion}
use Rattle.terms.specs.declared.side.Side.{Side}
use Rattle.terms.specs.declared.side.Side.TheVariants.{Buy, Sell}
use Rattle.terms.specs.declared.trade.Trade.{Trade}
use Rattle.orders.specs.declared.order.Found.{Found}
use Rattle.orders.specs.declared.order.Order.{Order}
use Rattle.price_range.specs.declared.band.Band.{Band}
use Rattle.rules.specs.Book.{Book, Phase, waiting, trading, halted, closed, other, on, band, resting_lots, traded_lots}
use Rattle.rules.specs.Calls.{Call, order, quote, renew, change, cancel, halt, resume, end, resting}
use Rattle.rules.specs.Checks.{found}
use Rattle.rules.specs.Laws.{Inside}
use Rattle.rules.specs.Reasons.{InPlace}

-- a price within the limit of a side
abbrev pub Within : Side → ℕ → ℕ → Type 0
Within Buy limit p = p ≤ limit
Within Sell limit p = limit ≤ p

abbrev pub CanMeet : Option Band → Side → ℕ → Order → Type 0
CanMeet r s limit o = (p : ℕ) × (Inside r p × (Within s limit p × Within (other s) o.price p))

-- the party of a trade that is not of the side
abbrev pub counterparty : Side → Trade → ℕ
counterparty Buy t = t.seller
counterparty Sell t = t.buyer

abbrev pub Whole : List Trade → List Order → Type 0
Whole [] os = Unit {0}
Whole (t ∷ ts) [] = ⊥
Whole (t ∷ []) (o ∷ os) = t.lots ≤ o.lots
Whole (t ∷ (u ∷ ts)) (o ∷ os) = (t.lots ≡ o.lots) × Whole (u ∷ ts) os

-- k lots of a side at a limit came to the other side, `os` before and `rest` after them
pub record Filled (r : Option Band) (s : Side) (limit k : ℕ) (ts : List Trade) (os rest : List Order) : Type 0 where
  -- the orders that can meet it stand before those that cannot
  pub near : List Order
  pub far : List Order
  pub split : os ≡ near ++ far
  pub can : AllByRecursion (CanMeet r s limit) near
  pub cannot : AllByRecursion (λ o. CanMeet r s limit o → ⊥) far
  -- the parties met are the first ones, and each but the last is filled whole
  pub parties : map (counterparty s) ts ≡ map (λ o. o.number) (take (length ts) os)
  pub whole : Whole ts os
  -- the lesser of its lots and of the lots that can meet it
  pub traded : traded_lots ts ≡ min k (resting_lots near)
  -- it stops only where no lots are left, or no order that can meet it
  pub stops : (traded_lots ts ≡ k) ⊎ AllByRecursion (λ o. CanMeet r s limit o → ⊥) rest

-- in a halt there is no price at which to meet
abbrev pub range_in : Phase → Option Band → Option Band
range_in waiting r = None
range_in trading r = r
range_in halted r = None
range_in closed r = None

-- of an order, and of a change that does not keep its place
abbrev pub Filling : Call → Book → List Trade → Book → Type 0
Filling (order s t e k) b ts b' = Filled (band b) s e.price e.lots ts (on (other s) b).elements (on (other s) b').elements
Filling (quote q k) b ts b' = Unit {0}
Filling (renew k) b ts b' = Unit {0}
Filling (change c k) b ts b' =
    (f : Found) → found b c.order ≡ Some f →
    (InPlace c f.order → ts ≡ [])
    × ((InPlace c f.order → ⊥) → Filled (range_in b.phase (band b)) f.side c.price c.lots ts (on (other f.side) b).elements (on (other f.side) b').elements)
Filling (cancel c) b ts b' = ts ≡ []
Filling halt b ts b' = ts ≡ []
Filling resume b ts b' = ts ≡ []
Filling end b ts b' = ts ≡ []
Filling resting b ts b' = ts ≡ []
