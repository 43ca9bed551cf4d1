-- A book at one moment of its day.
use Rattle.std.specs.Prelude.{ℕ, ◌+◌, List, [], ◌∷◌, Option}
use Rattle.terms.specs.declared.message.Quoted.{Quoted}
use Rattle.terms.specs.declared.setup.Instrument.{Instrument}
use Rattle.terms.specs.declared.side.Side.{Side}
use Rattle.terms.specs.declared.side.Side.TheVariants.{Buy, Sell}
use Rattle.terms.specs.declared.trade.Trade.{Trade}
use Rattle.queue.specs.Held.{Held}
use Rattle.orders.specs.declared.order.Order.{Order}
use Rattle.price_range.specs.Bands.{Update}
use Rattle.price_range.specs.declared.band.Band.{Band}

pub data Phase : Type 0 where
  waiting trading halted closed : Phase

-- what a price range answers after each list of quote updates to come
abbrev pub Answers : Type 0
Answers = List Update → Option Band

-- the same range after an update
abbrev pub told : Update → Answers → Answers
told u range us = range (u ∷ us)

pub record Book : Type 0 where
  pub phase : Phase
  pub terms : Instrument
  -- the next turn
  pub next : ℕ
  -- the last accepted quote
  pub quote : Option Quoted
  pub buys : Held Order
  pub sells : Held Order
  pub range : Answers

-- the prices at which trades may be made now
abbrev pub band : Book → Option Band
band b = b.range []

abbrev pub other : Side → Side
other Buy = Sell
other Sell = Buy

-- the first for a buy, the second for a sell
abbrev pub pick : {A : Type 0} → Side → A → A → A
pick Buy x y = x
pick Sell x y = y

-- what rests on a side
abbrev pub on : Side → Book → Held Order
on s b = pick s b.buys b.sells

-- a queue with other elements
abbrev pub holding : Held Order → List Order → Held Order
holding h os = record { capacity = h.capacity; elements = os }

-- lots of orders, and of trades
abbrev pub resting_lots : List Order → ℕ
resting_lots [] = 0
resting_lots (o ∷ os) = o.lots + resting_lots os

abbrev pub traded_lots : List Trade → ℕ
traded_lots [] = 0
traded_lots (t ∷ ts) = t.lots + traded_lots ts
