-- How lots meet.
--   can_meet, nearest     whether two limits have a price in the band between them, and the price in the band nearest to one
--   meet                 an incoming order against the other side, first order after first order
--   enter                the same, and what becomes of its remainder
--   sweep                both sides against one another, after the band has moved
use Rattle.std.specs.Prelude.{ℕ, ◌-◌, min, max, Bool, true, false, cond, List, [], ◌∷◌, ◌++◌, Some, None, Option, ◌==◌, nat_le, nat_lt}
use Rattle.terms.specs.declared.side.Side.{Side}
use Rattle.terms.specs.declared.side.Side.TheVariants.{Buy, Sell}
use Rattle.terms.specs.declared.side.TimeInForce.{TimeInForce}
use Rattle.terms.specs.declared.side.TimeInForce.TheVariants.{Day, Immediate}
use Rattle.terms.specs.declared.trade.Trade.{Trade}
use Rattle.queue.specs.Held.{insert}
use Rattle.orders.specs.Priority.{before, with_lots}
use Rattle.orders.specs.declared.order.Order.{Order}
use Rattle.price_range.specs.declared.band.Band.{Band}

-- a buy of limit b and a sell of limit s: some price in the band is at least s and at most b
abbrev pub crosses : Option Band → ℕ → ℕ → Bool
crosses None b s = false
crosses (Some r) b s = nat_le (max r.low s) (min r.high b)

-- an order of the side with limit l, and one of the other side with limit p
abbrev pub can_meet : Option Band → Side → ℕ → ℕ → Bool
can_meet r Buy l p = crosses r l p
can_meet r Sell l p = crosses r p l

-- the price in the band that is nearest to p
abbrev pub nearest : Option Band → ℕ → ℕ
nearest None p = p
nearest (Some r) p = max r.low (min r.high p)

-- an order that comes to the other side: its number and limit, and its turn if it rested before
pub record Incoming : Type 0 where
  pub number : ℕ
  pub limit : ℕ
  pub rested : Option ℕ

-- the limit of the one that rested; of two the one with the lower turn, and of equal turns the order of the other side
abbrev pub resting_limit : Option ℕ → ℕ → Order → ℕ
resting_limit None l o = o.price
resting_limit (Some t) l o = cond (nat_lt t o.turn) l o.price

-- k lots between an incoming order of the side and a resting one of the other
abbrev pub trade_at : Side → ℕ → ℕ → ℕ → ℕ → Trade
trade_at Buy n m price k = record { buyer = n; seller = m; price = price; lots = k }
trade_at Sell n m price k = record { buyer = m; seller = n; price = price; lots = k }

abbrev pub trade : Option Band → Side → Incoming → Order → ℕ → Trade
trade r s i o k = trade_at s i.number o.number (nearest r (resting_limit i.rested i.limit o)) k

-- what an incoming order with k lots does at the first order of the other side: nothing, or it takes some or all of its lots
pub data Step : Type 0 where
  stop part whole : Step

abbrev pub step : Option Band → Side → ℕ → ℕ → Order → Step
step r s l k o = cond (k == 0) stop (cond (can_meet r s l o.price) (cond (nat_lt k o.lots) part whole) stop)

-- the trades made, the lots that are left, and what rests on the other side
pub record Met : Type 0 where
  pub trades : List Trade
  pub left : ℕ
  pub rest : List Order

abbrev pub stepped : Step → Option Band → Side → Incoming → ℕ → Order → List Order → Met → Met
stepped stop r s i k o os m = record { trades = []; left = k; rest = o ∷ os }
stepped part r s i k o os m = record { trades = trade r s i o k ∷ []; left = 0; rest = with_lots o (o.lots - k) ∷ os }
stepped whole r s i k o os m = record { trades = trade r s i o o.lots ∷ m.trades; left = m.left; rest = m.rest }

abbrev pub meet : Option Band → Side → Incoming → ℕ → List Order → Met
meet r s i k [] = record { trades = []; left = k; rest = [] }
meet r s i k (o ∷ os) = stepped (step r s i.limit k o) r s i k o os (meet r s i (k - o.lots) os)

-- a buy above the high or a sell below the low
abbrev pub beyond : Side → ℕ → Option Band → Bool
beyond s p None = false
beyond Buy p (Some r) = nat_lt r.high p
beyond Sell p (Some r) = nat_lt p r.low

-- whether the remainder of an order is cancelled
abbrev pub lapses : TimeInForce → Side → ℕ → Option Band → Bool
lapses Immediate s p r = true
lapses Day s p r = beyond s p r

-- an order joins its side if it has lots
abbrev pub joined : Side → Order → List Order → List Order
joined s o own = cond (o.lots == 0) own (insert (before s) o own)

-- an order that is entered or changed, with all its lots, meets the other side; the remainder lapses or rests
pub record Entered : Type 0 where
  pub trades : List Trade
  pub resting : ℕ
  pub cancelled : ℕ
  pub own : List Order
  pub opposite : List Order

abbrev pub incoming : Order → Incoming
incoming o = record { number = o.number; limit = o.price; rested = None }

abbrev pub remains : Bool → Side → Order → List Order → Met → Entered
remains lapse s o own m =
    record {
      trades = m.trades;
      resting = cond lapse 0 m.left;
      cancelled = cond lapse m.left 0;
      own = joined s (with_lots o (cond lapse 0 m.left)) own;
      opposite = m.rest;
    }

abbrev pub enter : Option Band → Bool → Side → Order → List Order → List Order → Entered
enter r lapse s o own opposite = remains lapse s o own (meet r s (incoming o) o.lots opposite)

-- the first buy meets the sells, and where nothing of it is left the next buy does
pub record Swept : Type 0 where
  pub trades : List Trade
  pub buys : List Order
  pub sells : List Order

abbrev pub swept : Bool → Order → List Order → Met → Swept → Swept
swept true o os m w = record { trades = m.trades ++ w.trades; buys = w.buys; sells = w.sells }
swept false o os m w = record { trades = m.trades; buys = with_lots o m.left ∷ os; sells = m.rest }

abbrev pub lifted : Order → Incoming
lifted o = record { number = o.number; limit = o.price; rested = Some o.turn }

abbrev pub first_meets : Option Band → Order → List Order → Met
first_meets r o sells = meet r Buy (lifted o) o.lots sells

abbrev pub sweep : Option Band → List Order → List Order → Swept
sweep r [] sells = record { trades = []; buys = []; sells = sells }
sweep r (o ∷ os) sells = swept ((first_meets r o sells).left == 0) o os (first_meets r o sells) (sweep r os (first_meets r o sells).rest)
