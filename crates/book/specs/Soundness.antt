-- What lawful queues of the two sides hold is sound.
use Rattle.terms.specs.declared.side.Side.{Side}
use Rattle.terms.specs.declared.side.Side.TheVariants.{Buy, Sell}
use Rattle.queue.proofs.Carried.{map_sound}
use Rattle.queue.specs.Held.{Held, Sound}
use Rattle.orders.proofs.Sides.{buys_carried, sells_carried}
use Rattle.orders.specs.Priority.{rank_of, buy_rank, sell_rank}
use Rattle.orders.specs.Sides.{BuyOrder, SellOrder}
use Rattle.book.specs.BySide.{side_lawful, side_held}

pub side_sound : {B S : Type 0} (buys : Held BuyOrder) (sells : Held SellOrder) → (B → Sound buy_rank buys) → (S → Sound sell_rank sells) → (s : Side) → side_lawful B S s → Sound (rank_of s) (side_held buys sells s)
side_sound buys sells b s Buy l = map_sound (λ o. o.0) buy_rank (rank_of Buy) buys_carried buys (b l)
side_sound buys sells b s Sell l = map_sound (λ o. o.0) sell_rank (rank_of Sell) sells_carried sells (s l)
