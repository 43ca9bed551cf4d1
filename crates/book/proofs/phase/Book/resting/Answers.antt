use Rattle.std.proofs.Common.{[], refl}
use Rattle.rules.proofs.Ruled.{keeps_ruled, ruled_accepted}
use Rattle.rules.specs.Calls as calls
use Rattle.rules.specs.Rules.{asked}
use Rattle.book.specs.Books.{book_in}
use Rattle.book.specs.BySide.{side_held}
use Rattle.book.proofs.Allowed.{allowed, resting_allowed}
use Rattle.book.proofs.phase.Book.resting.Goals as goal

pub returns-clause-day : goal.returns-clause-day
returns-clause-day g c l k r =
    let p = g.P.DayPhase.phase in
    let b = book_in p g.P.DayPhase.last c.args.self.now (side_held (g.B.Queue.held c.args.buys.now) (g.S.Queue.held c.args.sells.now)) r in
    keeps_ruled (ruled_accepted calls.resting b _ [] [] b (asked b) (allowed calls.resting b (resting_allowed p) refl) refl (λ i. let q = c.both_sides.ensures l k i in calls.lots q.0 q.1) refl refl)
