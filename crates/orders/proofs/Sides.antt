-- The orders of one side, seen as plain orders.
use mathlib.Core.Path.{refl}
use Rattle.queue.specs.Carries.{Carries}
use Rattle.orders.specs.Priority.{rank_of, side_rank, buy_rank, sell_rank}
use Rattle.terms.specs.declared.side.Side.{Side}
use Rattle.terms.specs.declared.side.Side.TheVariants.{Buy, Sell}

pub side_carried : {S : Type 0} (s : Side) → Carries (λ o. o.0) (side_rank {S = S} s) (rank_of s)
side_carried s = record { number = λ x. refl; key = λ x. refl; lots = λ x. refl; before = λ x y. refl; with_lots = λ x n. refl }

pub buys_carried : Carries (λ o. o.0) buy_rank (rank_of Buy)
buys_carried = side_carried Buy

pub sells_carried : Carries (λ o. o.0) sell_rank (rank_of Sell)
sells_carried = side_carried Sell
