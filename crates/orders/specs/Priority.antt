-- Which of two orders of one side ranks before the other: price priority, then time priority.
use Rattle.std.specs.Prelude.{Bool, ◌||◌, ◌&&◌, ℕ, ◌==◌, nat_lt}
use Rattle.terms.specs.declared.side.Side.{Side}
use Rattle.terms.specs.declared.side.Side.TheVariants.{Buy, Sell}
use Rattle.queue.specs.Rank.{Rank}
use Rattle.orders.specs.Sides.{BuyOrder, SellOrder}
use Rattle.orders.specs.declared.order.Order.{Order}
use Rattle.orders.specs.declared.order.SideOrder.{SideOrder}

-- at the same price the lower turn
abbrev pub earlier : Order → Order → Bool
earlier o p = o.price == p.price && nat_lt o.turn p.turn

-- a buying order at a higher price
abbrev pub buy_before : Order → Order → Bool
buy_before o p = nat_lt p.price o.price || earlier o p

-- a selling order at a lower price
abbrev pub sell_before : Order → Order → Bool
sell_before o p = nat_lt o.price p.price || earlier o p

abbrev pub with_lots : Order → ℕ → Order
with_lots o n = record { number = o.number; member = o.member; price = o.price; lots = n; turn = o.turn }

abbrev pub before : Side → Order → Order → Bool
before Buy = buy_before
before Sell = sell_before

-- what an order of a side means to a queue
abbrev pub rank_of : Side → Rank Order
rank_of s = record { number = λ o. o.number; key = λ o. o.turn; lots = λ o. o.lots; before = before s; with_lots = with_lots }

-- the same of an order with its side in the type
abbrev pub side_rank : {S : Type 0} → Side → Rank (SideOrder S)
side_rank s =
    record { number = λ o. o.0.number; key = λ o. o.0.turn; lots = λ o. o.0.lots; before = λ o p. before s o.0 p.0; with_lots = λ o n. record { 0 = with_lots o.0 n; 1 = o.1 } }

abbrev pub buy_rank : Rank BuyOrder
buy_rank = side_rank Buy

abbrev pub sell_rank : Rank SellOrder
sell_rank = side_rank Sell
