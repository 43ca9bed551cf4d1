-- Two queues by side, and what they hold as plain orders.
use Rattle.terms.specs.declared.side.Side.{Side}
use Rattle.terms.specs.declared.side.Side.TheVariants.{Buy, Sell}
use Rattle.queue.specs.Carries.{map_held}
use Rattle.queue.specs.Held.{Held}
use Rattle.orders.specs.declared.order.Order.{Order}
use Rattle.orders.specs.Sides.{BuyOrder, SellOrder}

abbrev pub plain_buys : Held BuyOrder → Held Order
plain_buys = map_held (λ o. o.0)

abbrev pub plain_sells : Held SellOrder → Held Order
plain_sells = map_held (λ o. o.0)

-- the queue of that side
abbrev pub side_lawful : Type 0 → Type 0 → Side → Type 0
side_lawful buys sells Buy = buys
side_lawful buys sells Sell = sells

abbrev pub side_held : Held BuyOrder → Held SellOrder → Side → Held Order
side_held buys sells Buy = plain_buys buys
side_held buys sells Sell = plain_sells sells
