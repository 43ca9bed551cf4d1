use Rattle.std.proofs.Common.{length, refl, ap}
use Rattle.rules.proofs.Ruled.{called_by, on_table}
use Rattle.book.specs.Dispatch.{message_of}
use Rattle.book.proofs.call.Book+Halted.message.Goals as goal

pub returns-in-Resume-clause-by_rule : goal.returns-in-Resume-clause-by_rule
returns-in-Resume-clause-by_rule g c l = called_by (ap (λ m. message_of m (length c.args.trades.now)) c.in-Resume.is) refl (on_table c.args.trades.now (c.resume.ensures.by_rule (g.D.Sides.held c.args.sides.now) (g.R.PriceRange.answers c.args.range.now)))

pub returns-in-End-clause-by_rule : goal.returns-in-End-clause-by_rule
returns-in-End-clause-by_rule g c l =
    called_by (ap (λ m. message_of m (length c.args.trades.now)) c.in-End.is) refl (c.ended.ensures.by_rule l (g.R.PriceRange.answers c.args.range.now) c.args.trades.now)
