use Rattle.std.proofs.Common.{◌≡◌, ◌-◌, ◌++◌, length, take, drop, Some, sym, refl, ap, ◌∙◌, subst, arith}
use Rattle.std.proofs.lemmas.List.{length-take-le}
use Rattle.std.specs.List.{position}
use Rattle.queue.proofs.Places.{front_missed, front_place, front_less, front_first}
use Rattle.queue.proofs.Puts.{held_same}
use Rattle.queue.proofs.Removes.{remove_missed, ordered-remove}
use Rattle.queue.specs.Held.{is, remove}
use Rattle.table_queue.specs.Arranged.{held_in, Lawful, Arranges}
use Rattle.table_queue.proofs.Fronts.{front_whole, front_long, front_removed}
use Rattle.table_queue.proofs.Meanings.{stands, found_here, arranged_lawful}
use Rattle.table_queue.proofs.TableQueueQueue.take.Goals as goal

pub returns-in_err-at-clause-answers : goal.returns-in_err-at-clause-answers
returns-in_err-at-clause-answers g c l =
    let r = g.E.Ranked.rank in
    let a = g.A.Arrangement in
    let s = c.args.self.now in
    let p = is r.number c.args.number in
    c.from_residual.ensures
    ∙ sym (found_here r a.order a.Kept g.met.A.Arrangement.same s.count s.table.now l c.args.number ∙ front_missed p s.table.now s.count s.within (c.in_err-at.ensures ∙ ap (position p) c.elements.ensures))

pub returns-in_err-at-clause-leaves : goal.returns-in_err-at-clause-leaves
returns-in_err-at-clause-leaves g c l =
    let r = g.E.Ranked.rank in
    let a = g.A.Arrangement in
    let s = c.args.self.now in
    let p = is r.number c.args.number in
    let missed = found_here r a.order a.Kept g.met.A.Arrangement.same s.count s.table.now l c.args.number ∙ front_missed p s.table.now s.count s.within (c.in_err-at.ensures ∙ ap (position p) c.elements.ensures) in
    held_same _ _ _ _ refl (sym (remove_missed p (a.order (take s.count s.table.now)) missed))

pub returns : goal.returns
returns g c =
    let r = g.E.Ranked.rank in
    let a = g.A.Arrangement in
    let laws = g.met.A.Arrangement in
    let s = c.args.self.now in
    let n = s.count in
    let t = s.table.now in
    let i = c.in_ok-at.at in
    let left = c.remove_at.new.elements in
    let u = left ++ drop n t in
    let p = is r.number c.args.number in
    let h = held_in a.order n t in
    let found : Some i ≡ position p (take n t) = c.in_ok-at.ensures ∙ ap (position p) c.elements.ensures in
    let at = front_place p t n s.within i found in
    let wide = length-take-le n t s.within in
    let inside = front_less p t n s.within i found in
    let after : Lawful r a.order a.Kept n t → Arranges a.order a.Kept (take (n - 1) u) (remove p h.elements) = λ l.
    front_removed a.order a.Kept n t left (remove p h.elements) s.within c.remove_at.auto.elements
    (c.remove_at.ensures.arranges (omega arith) c.args.number at (stands r a.order a.Kept laws.same n t l)) in
    record {
      answers = λ l. sym (found_here r a.order a.Kept laws.same n t l c.args.number ∙ front_first p t n s.within i found _);
      leaves = λ l. held_same _ _ _ _ (front_long n t left c.remove_at.auto.elements) (after l).held;
      keeps = λ l. arranged_lawful r a.order a.Kept laws.same (n - 1) u (remove p h.elements) (after l) (ordered-remove p r h.elements l.sound.elements);
      refused = tt;
      table = subst (λ k. a.Takes n k t u) at (subst (λ k. a.Takes k i t u) wide (front_whole n t left (a.Takes (length (take n t)) i) (c.remove_at.ensures.takes (omega arith))));
    }
