use Rattle.terms.specs.declared.side.Side.TheVariants.{Buy, Sell}
use Rattle.orders.proofs.Sides.{buys_carried, sells_carried}
use Rattle.orders.specs.Priority.{buy_rank, sell_rank}
use Rattle.book.proofs.Carrying.{found, take_leaves}
use Rattle.book.proofs.sides.TwoQueuesSides.take.Goals as goal

pub returns-in-Buy-clause-answers : goal.returns-in-Buy-clause-answers
returns-in-Buy-clause-answers g c = rw c.in-Buy.is (λ l. found (λ o. o.0) buy_rank Buy buys_carried (g.B.Queue.held c.args.self.now.buys.now) c.args.number c.plain.ensures (c.take.ensures.answers l))

pub returns-in-Buy-clause-leaves : goal.returns-in-Buy-clause-leaves
returns-in-Buy-clause-leaves g c = rw c.in-Buy.is (λ l. take_leaves (λ o. o.0) buy_rank Buy buys_carried (g.B.Queue.held c.args.self.now.buys.now) c.args.number (c.take.ensures.leaves l))

pub returns-in-Sell-clause-answers : goal.returns-in-Sell-clause-answers
returns-in-Sell-clause-answers g c = rw c.in-Sell.is (λ l. found (λ o. o.0) sell_rank Sell sells_carried (g.S.Queue.held c.args.self.now.sells.now) c.args.number c.plain-in-Sell.ensures (c.take-in-Sell.ensures.answers l))

pub returns-in-Sell-clause-leaves : goal.returns-in-Sell-clause-leaves
returns-in-Sell-clause-leaves g c = rw c.in-Sell.is (λ l. take_leaves (λ o. o.0) sell_rank Sell sells_carried (g.S.Queue.held c.args.self.now.sells.now) c.args.number (c.take-in-Sell.ensures.leaves l))
