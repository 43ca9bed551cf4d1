use Rattle.rules.proofs.Ruled.{keeps_ruled}
use Rattle.book.proofs.phase.Book.cancel.Goals as goal

pub returns-clause-by_rule : goal.returns-clause-by_rule
returns-clause-by_rule g c l range =
    let b = c.args.self.now in
    c.cancel_order.ensures.cancels l g.P.DayPhase.phase b.terms b.next (g.P.DayPhase.last b.phase) range (g.met.P.MayCancel.may_cancel c.args.cancel)

pub returns-clause-day : goal.returns-clause-day
returns-clause-day g c l range =
    let b = c.args.self.now in
    keeps_ruled (c.cancel_order.ensures.cancels l g.P.DayPhase.phase b.terms b.next (g.P.DayPhase.last b.phase) range (g.met.P.MayCancel.may_cancel c.args.cancel))
