-- Meetings that write their trades into a table, from a place on.
use Rattle.std.specs.Prelude.{◌≡◌, ℕ, ◌+◌, ◌<◌, ◌≤◌, Bool, false, cond, List, ◌++◌, length, take, drop, Option}
use Rattle.std.specs.List.{AllByRecursion}
use Rattle.terms.specs.declared.side.Side.{Side}
use Rattle.terms.specs.declared.trade.Trade.{Trade}
use Rattle.queue.specs.Held.{Held, any, clash}
use Rattle.orders.specs.Priority.{rank_of, with_lots}
use Rattle.orders.specs.declared.order.Order.{Order}
use Rattle.price_range.specs.declared.band.Band.{Band}
use Rattle.rules.specs.Book.{holding}
use Rattle.rules.specs.Meeting as rules
use Rattle.rules.specs.Meeting.{Incoming, incoming, joined, meet, sweep}

-- a table with these trades from the place on; later places stay
abbrev pub written : ℕ → List Trade → List Trade → List Trade
written place ts table = take place table ++ (ts ++ drop (place + length ts) table)

-- orders that all have lots, and a place in the table for a trade with each
pub record Fits (os : List Order) (place : ℕ) (table : List Trade) : Type 0 where
  pub some : AllByRecursion (λ o. 0 < o.lots) os
  pub room : place + length os ≤ length table

-- the table after a meeting, the next place of it, the lots that are left, and what rests on the other side
pub record Meeting : Type 0 where
  pub table : List Trade
  pub place : ℕ
  pub left : ℕ
  pub rest : List Order

abbrev pub meeting_of : rules.Met → ℕ → List Trade → Meeting
meeting_of m place table = record { table = written place m.trades table; place = place + length m.trades; left = m.left; rest = m.rest }

abbrev pub meet_at : Option Band → Side → Incoming → ℕ → List Order → ℕ → List Trade → Meeting
meet_at r s i k os place table = meeting_of (meet r s i k os) place table

-- an order that is entered or changed: a meeting, and its remainder joins its side unless it lapses
pub record Entering : Type 0 where
  pub table : List Trade
  pub place : ℕ
  pub left : ℕ
  pub own : Held Order
  pub opposite : Held Order

abbrev pub entering_of : Bool → Side → Order → Held Order → Held Order → Meeting → Entering
entering_of lapse s o own opposite m =
    record {
      table = m.table;
      place = m.place;
      left = m.left;
      own = holding own (joined s (with_lots o (cond lapse 0 m.left)) own.elements);
      opposite = holding opposite m.rest;
    }

abbrev pub enter_at : Option Band → Bool → Side → Order → Held Order → Held Order → List Trade → Entering
enter_at r lapse s o own opposite table = entering_of lapse s o own opposite (meet_at r s (incoming o) o.lots opposite.elements 0 table)

-- a queue has a place for an order, whose number and turn are free
pub record Room (s : Side) (h : Held Order) (o : Order) : Type 0 where
  pub place : length h.elements < h.capacity
  pub free : any (clash (rank_of s) o) h.elements ≡ false

-- both sides have lots, and the table has a place for a trade with each
pub record FitsBoth (buys sells : List Order) (place : ℕ) (table : List Trade) : Type 0 where
  pub buying : AllByRecursion (λ o. 0 < o.lots) buys
  pub selling : AllByRecursion (λ o. 0 < o.lots) sells
  pub room : place + (length buys + length sells) ≤ length table

-- the same of a sweep
pub record Sweeping : Type 0 where
  pub table : List Trade
  pub place : ℕ
  pub buys : List Order
  pub sells : List Order

abbrev pub sweeping_of : rules.Swept → ℕ → List Trade → Sweeping
sweeping_of w place table = record { table = written place w.trades table; place = place + length w.trades; buys = w.buys; sells = w.sells }

abbrev pub sweep_at : Option Band → List Order → List Order → ℕ → List Trade → Sweeping
sweep_at r buys sells place table = sweeping_of (sweep r buys sells) place table
