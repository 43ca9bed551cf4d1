use Rattle.terms.specs.declared.side.Side.TheVariants.{Buy, Sell}
use Rattle.orders.proofs.Sides.{buys_carried, sells_carried}
use Rattle.orders.specs.Priority.{buy_rank, sell_rank}
use Rattle.book.proofs.Carrying.{found}
use Rattle.book.proofs.sides.TwoQueuesSides.find.Goals as goal

pub returns-in-Buy : goal.returns-in-Buy
returns-in-Buy g c = rw c.in-Buy.is (λ l. found (λ o. o.0) buy_rank Buy buys_carried (g.B.Queue.held c.args.self.now.buys.now) c.args.number c.plain.ensures (c.find.ensures.finds l))

pub returns-in-Sell : goal.returns-in-Sell
returns-in-Sell g c = rw c.in-Sell.is (λ l. found (λ o. o.0) sell_rank Sell sells_carried (g.S.Queue.held c.args.self.now.sells.now) c.args.number c.plain-in-Sell.ensures (c.find-in-Sell.ensures.finds l))
