use Rattle.std.proofs.Common.{length, refl, ap}
use Rattle.rules.proofs.Ruled.{called_by, keeps_ruled, on_table}
use Rattle.rules.specs.Calls.{lots}
use Rattle.terms.specs.declared.side.Side.TheVariants.{Buy, Sell}
use Rattle.book.specs.Dispatch.{call_of}
use Rattle.book.proofs.Allowed.{resting_told}
use Rattle.book.proofs.call.Phase.call.Goals as goal

pub returns-in-Message-clause-day : goal.returns-in-Message-clause-day
returns-in-Message-clause-day g c l = keeps_ruled (called_by (ap (λ m. call_of m (length c.args.trades.now)) c.in-Message.is) refl (c.message.ensures.by_rule l))

pub returns-in-Resting-clause-day : goal.returns-in-Resting-clause-day
returns-in-Resting-clause-day g c l =
    keeps_ruled (called_by (ap (λ m. call_of m (length c.args.trades.now)) c.in-Resting.is) (λ i. lots (c.lots-buying.ensures.lots (l Buy) i) (c.lots-selling.ensures.lots (l Sell) i))
    (on_table c.args.trades.now (resting_told c.args.self (g.D.Sides.held c.args.sides.now) (g.R.PriceRange.answers c.args.range.now))))
