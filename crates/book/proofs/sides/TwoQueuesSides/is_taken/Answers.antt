use Rattle.terms.specs.declared.side.Side.TheVariants.{Buy, Sell}
use Rattle.orders.proofs.Sides.{buys_carried, sells_carried}
use Rattle.orders.specs.Priority.{buy_rank, sell_rank}
use Rattle.std.proofs.Common.{sym, ◌∙◌}
use Rattle.queue.proofs.Carried.{map-takes}
use Rattle.orders.specs.Priority.{rank_of}
use Rattle.book.proofs.sides.TwoQueuesSides.is_taken.Goals as goal

pub returns-in-Buy : goal.returns-in-Buy
returns-in-Buy g c = rw c.in-Buy.is (c.is_taken.ensures ∙ sym (map-takes (λ o. o.0) buy_rank (rank_of Buy) buys_carried c.args.turn c.args.except (g.B.Queue.held c.args.self.now.buys.now).elements))

pub returns-in-Sell : goal.returns-in-Sell
returns-in-Sell g c = rw c.in-Sell.is (c.is_taken-in-Sell.ensures ∙ sym (map-takes (λ o. o.0) sell_rank (rank_of Sell) sells_carried c.args.turn c.args.except (g.S.Queue.held c.args.self.now.sells.now).elements))
