use Rattle.std.proofs.Common.{[], refl, ap}
use Rattle.rules.proofs.Ruled.{ruled_accepted, settled_all}
use Rattle.rules.specs.Calls as calls
use Rattle.rules.specs.Rules.{ended}
use Rattle.rules.specs.Book as rules
use Rattle.terms.specs.declared.side.Side.{Side}
use Rattle.book.specs.Books.{book_in, closed_book}
use Rattle.book.proofs.Allowed.{allowed}
use Rattle.book.proofs.phase.Book.end.Goals as goal

pub returns : goal.returns
returns g c =
    let s = c.args.self in
    let end = c.end_day-answer in
    let b = book_in g.P.DayPhase.phase g.P.DayPhase.last s (g.D.Sides.held c.args.sides.now) in
    let b' = closed_book (record { terms = s.terms; next = s.next; phase = record { last = c.last-last.result } }) (g.D.Sides.held end.new.sides) in
    let w =
    settled_all ((s : Side) → g.D.Sides.lawful c.args.sides.now s) b b'
    (λ l r.
    let left = end.ensures.leaves l in
    ruled_accepted calls.end (b r) (calls.answered end.result) [] [] (b' r) (ended (b r)) (allowed calls.end (b r) g.met.P.MayEnd.may_end refl) refl (ap calls.answered (end.ensures.answers l)) refl
    (λ i. record { phase = rules.closed; terms = s.terms; next = s.next; quote = c.last-last.ensures i; buys = left.0 i; sells = left.1 i; range = r })) in
    record { keeps = end.ensures.keeps; same = end.ensures.same; by_rule = w.0; day = w.1 }
