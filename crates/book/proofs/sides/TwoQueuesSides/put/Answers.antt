use Rattle.std.proofs.Common.{ap, ◌∙◌}
use Rattle.terms.specs.declared.side.Side.TheVariants.{Buy, Sell}
use Rattle.queue.specs.Held.{answer, after_put, barred}
use Rattle.orders.proofs.Sides.{buys_carried, sells_carried}
use Rattle.orders.specs.Priority.{buy_rank, sell_rank, rank_of}
use Rattle.book.specs.BySide.{plain_buys, plain_sells}
use Rattle.book.proofs.Carrying.{put_answer, put_leaves}
use Rattle.book.proofs.sides.TwoQueuesSides.put.Goals as goal

pub returns-in-Buy-clause-answers : goal.returns-in-Buy-clause-answers
returns-in-Buy-clause-answers g c =
    let held = g.B.Queue.held c.args.self.now.buys.now in
    rw c.in-Buy.is (λ l. put_answer (λ o. o.0) buy_rank Buy buys_carried held c.new.result (c.put.ensures.answers l) ∙ ap (λ o. answer (barred (rank_of Buy) (plain_buys held) o)) c.new.ensures)

pub returns-in-Buy-clause-leaves : goal.returns-in-Buy-clause-leaves
returns-in-Buy-clause-leaves g c =
    let held = g.B.Queue.held c.args.self.now.buys.now in
    rw c.in-Buy.is (λ l. put_leaves (λ o. o.0) buy_rank Buy buys_carried held c.new.result (c.put.ensures.leaves l) ∙ ap (after_put (rank_of Buy) (plain_buys held)) c.new.ensures)

pub returns-in-Sell-clause-answers : goal.returns-in-Sell-clause-answers
returns-in-Sell-clause-answers g c =
    let held = g.S.Queue.held c.args.self.now.sells.now in
    rw c.in-Sell.is (λ l. put_answer (λ o. o.0) sell_rank Sell sells_carried held c.new-in-Sell.result (c.put-in-Sell.ensures.answers l) ∙ ap (λ o. answer (barred (rank_of Sell) (plain_sells held) o)) c.new-in-Sell.ensures)

pub returns-in-Sell-clause-leaves : goal.returns-in-Sell-clause-leaves
returns-in-Sell-clause-leaves g c =
    let held = g.S.Queue.held c.args.self.now.sells.now in
    rw c.in-Sell.is (λ l. put_leaves (λ o. o.0) sell_rank Sell sells_carried held c.new-in-Sell.result (c.put-in-Sell.ensures.leaves l) ∙ ap (after_put (rank_of Sell) (plain_sells held)) c.new-in-Sell.ensures)
