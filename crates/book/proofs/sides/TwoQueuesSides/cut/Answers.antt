use Rattle.terms.specs.declared.side.Side.TheVariants.{Buy, Sell}
use Rattle.orders.proofs.Sides.{buys_carried, sells_carried}
use Rattle.orders.specs.Priority.{buy_rank, sell_rank}
use Rattle.book.proofs.Carrying.{cut_answer, cut_leaves}
use Rattle.book.proofs.sides.TwoQueuesSides.cut.Goals as goal

pub returns-in-Buy-clause-answers : goal.returns-in-Buy-clause-answers
returns-in-Buy-clause-answers g c = rw c.in-Buy.is (λ l. cut_answer (λ o. o.0) buy_rank Buy buys_carried (g.B.Queue.held c.args.self.now.buys.now) c.args.number c.args.lots (c.cut.ensures.answers l))

pub returns-in-Buy-clause-leaves : goal.returns-in-Buy-clause-leaves
returns-in-Buy-clause-leaves g c = rw c.in-Buy.is (λ l. cut_leaves (λ o. o.0) buy_rank Buy buys_carried (g.B.Queue.held c.args.self.now.buys.now) c.args.number c.args.lots (c.cut.ensures.leaves l))

pub returns-in-Sell-clause-answers : goal.returns-in-Sell-clause-answers
returns-in-Sell-clause-answers g c = rw c.in-Sell.is (λ l. cut_answer (λ o. o.0) sell_rank Sell sells_carried (g.S.Queue.held c.args.self.now.sells.now) c.args.number c.args.lots (c.cut-in-Sell.ensures.answers l))

pub returns-in-Sell-clause-leaves : goal.returns-in-Sell-clause-leaves
returns-in-Sell-clause-leaves g c = rw c.in-Sell.is (λ l. cut_leaves (λ o. o.0) sell_rank Sell sells_carried (g.S.Queue.held c.args.self.now.sells.now) c.args.number c.args.lots (c.cut-in-Sell.ensures.leaves l))
