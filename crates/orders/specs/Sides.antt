-- The orders of the two sides.
use Rattle.orders.specs.declared.order.Order.{Order}
use Rattle.orders.specs.declared.order.SideOrder.{SideOrder}
use Rattle.orders.specs.declared.side.Buys.{Buys}
use Rattle.orders.specs.declared.side.Sells.{Sells}

abbrev pub BuyOrder : Type 0
BuyOrder = SideOrder Buys

abbrev pub SellOrder : Type 0
SellOrder = SideOrder Sells

-- an order with its side in the type
abbrev pub on_side : {S : Type 0} → Order → SideOrder S
on_side o = record { 0 = o; 1 = record {} }
