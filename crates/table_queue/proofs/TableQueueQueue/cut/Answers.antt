use Rattle.std.proofs.Common.{◌≡◌, ◌-◌, ◌<◌, ◌++◌, length, get_or, take, drop, set, Some, None, Err, rules, sym, refl, ap, ◌∙◌, subst, arith, length-set}
use lib.Seq.{take-set-lt}
use Rattle.std.proofs.lemmas.List.{length-take-le}
use Rattle.std.specs.List.{position}
use Rattle.terms.specs.declared.refusal.Refusal.TheVariants.{BadCut}
use Rattle.queue.proofs.Cuts.{change-at, cutting-all, cutting_some, cut_refused, cut_allowed, cut_within, ordered-change}
use Rattle.queue.proofs.Places.{front_at, front_missed, front_place, front_less, front_first}
use Rattle.queue.proofs.Puts.{held_same}
use Rattle.queue.proofs.Removes.{ordered-remove}
use Rattle.queue.specs.Held.{is, place, first, remove, change, uncut, answer, unless, cutting}
use Rattle.table_queue.specs.Arranged.{held_in, Lawful, Arranges}
use Rattle.table_queue.proofs.Fronts.{front_whole, front_long, front_removed}
use Rattle.table_queue.proofs.Meanings.{stands, found_here, arranged_lawful}
use Rattle.table_queue.proofs.TableQueueQueue.cut.Goals as goal

pub returns-in_err-at-clause-answers : goal.returns-in_err-at-clause-answers
returns-in_err-at-clause-answers g c l =
    let r = g.E.Ranked.rank in
    let a = g.A.Arrangement in
    let s = c.args.self.now in
    let p = is r.number c.args.number in
    let none : None ≡ position p (take s.count s.table.now) = (search rules) ∙ c.place_of.ensures ∙ ap (position p) c.elements.ensures in
    let refused : c.from_residual.result ≡ Err BadCut = search rules in
    refused
    ∙ sym (ap (λ o. answer (uncut r c.args.lots o)) (found_here r a.order a.Kept g.met.A.Arrangement.same s.count s.table.now l c.args.number ∙ front_missed p s.table.now s.count s.within none))

pub returns-in_err-at-clause-leaves : goal.returns-in_err-at-clause-leaves
returns-in_err-at-clause-leaves g c l =
    let r = g.E.Ranked.rank in
    let a = g.A.Arrangement in
    let s = c.args.self.now in
    let k = c.args.lots in
    let h = held_in a.order s.count s.table.now in
    let p = is r.number c.args.number in
    let none : None ≡ position p (take s.count s.table.now) = (search rules) ∙ c.place_of.ensures ∙ ap (position p) c.elements.ensures in
    ap (λ o. unless (uncut r k o) h (cutting r p k h.elements)) (sym (found_here r a.order a.Kept g.met.A.Arrangement.same s.count s.table.now l c.args.number ∙ front_missed p s.table.now s.count s.within none))

pub returns-then-not-can_cut : goal.returns-then-not-can_cut
returns-then-not-can_cut g c =
    let r = g.E.Ranked.rank in
    let a = g.A.Arrangement in
    let s = c.args.self.now in
    let n = s.count in
    let t = s.table.now in
    let k = c.args.lots in
    let h = held_in a.order n t in
    let p = is r.number c.args.number in
    let found = front_first p t n s.within c.in_ok-at.at (sym c.in_ok-at.ensures.ok_part ∙ c.place_of.ensures ∙ ap (position p) c.elements.ensures) c.index-self-at.result in
    let why : Lawful r a.order a.Kept n t → uncut r k (first p h.elements) ≡ Some BadCut = λ l.
    cut_refused r k (first p h.elements) _ (found_here r a.order a.Kept g.met.A.Arrangement.same n t l c.args.number ∙ found) (sym c.if-not-can_cut.ensures) in
    record {
      answers = λ l. ap answer (sym (why l));
      leaves = λ l. ap (λ o. unless o h (cutting r p k h.elements)) (sym (why l));
      keeps = λ l. l;
      refused = refl;
      table = tt;
    }

-- all lots are cut: the element goes
pub returns-else-left-gt0 : goal.returns-else-left-gt0
returns-else-left-gt0 g c =
    let r = g.E.Ranked.rank in
    let a = g.A.Arrangement in
    let laws = g.met.A.Arrangement in
    let s = c.args.self.now in
    let n = s.count in
    let t = s.table.now in
    let i = c.in_ok-at.at in
    let k = c.args.lots in
    let h = held_in a.order n t in
    let left = c.remove_at.new.elements in
    let u = left ++ drop n t in
    let p = is r.number c.args.number in
    let e = get_or t i c.index-self-at.result in
    let found : Some i ≡ position p (take n t) = sym c.in_ok-at.ensures.ok_part ∙ c.place_of.ensures ∙ ap (position p) c.elements.ensures in
    let at = front_place p t n s.within i found in
    let first-e : first p (take n t) ≡ Some e = front_first p t n s.within i found c.index-self-at.result in
    let held-e : Lawful r a.order a.Kept n t → first p h.elements ≡ Some e = λ l. found_here r a.order a.Kept laws.same n t l c.args.number ∙ first-e in
    let within = cut_within r k e (sym c.if-not-can_cut.ensures) in
    let all : r.lots e ≡ k = omega (arith, c.if-left-gt0.false, c.lots.ensures) in
    let wide = length-take-le n t s.within in
    let inside = front_less p t n s.within i found in
    let after : Lawful r a.order a.Kept n t → Arranges a.order a.Kept (take (n - 1) u) (remove p h.elements) = λ l.
    front_removed a.order a.Kept n t left (remove p h.elements) s.within c.remove_at.auto.elements
    (c.remove_at.ensures.arranges (omega arith) c.args.number at (stands r a.order a.Kept laws.same n t l)) in
    let takes : a.Takes n i t u = subst (λ j. a.Takes j i t u) wide (front_whole n t left (a.Takes (length (take n t)) i) (c.remove_at.ensures.takes (omega arith))) in
    let why = λ (l : Lawful r a.order a.Kept n t). cut_allowed r k (first p h.elements) e (held-e l) (sym c.if-not-can_cut.ensures) in
    record {
      answers = λ l. ap answer (sym (why l));
      leaves = λ l. rw (why l) (held_same _ _ _ _ (front_long n t left c.remove_at.auto.elements) ((after l).held ∙ sym (cutting-all p r k h.elements e (held-e l) all)));
      keeps = λ l. arranged_lawful r a.order a.Kept laws.same (n - 1) u (remove p h.elements) (after l) (ordered-remove p r h.elements l.sound.elements);
      refused = tt;
      table = subst (λ o. a.Cuts k o (place p (take n t)) n t u) (sym first-e) (subst (λ j. a.Cuts k (Some e) j n t u) at (subst (λ x. a.Cuts x (Some e) i n t u) all (laws.cut_all e n i t u takes)));
    }

-- fewer are cut: the element stays with the rest
pub returns-then-left-gt0 : goal.returns-then-left-gt0
returns-then-left-gt0 g c =
    let r = g.E.Ranked.rank in
    let a = g.A.Arrangement in
    let laws = g.met.A.Arrangement in
    let s = c.args.self.now in
    let n = s.count in
    let t = s.table.now in
    let i = c.in_ok-at.at in
    let k = c.args.lots in
    let h = held_in a.order n t in
    let d = c.index-self-at.result in
    let e = get_or t i d in
    let v = c.with_lots.result in
    let p = is r.number c.args.number in
    let left = r.lots e - k in
    let found : Some i ≡ position p (take n t) = sym c.in_ok-at.ensures.ok_part ∙ c.place_of.ensures ∙ ap (position p) c.elements.ensures in
    let at = front_place p t n s.within i found in
    let inside = front_less p t n s.within i found in
    let first-e : first p (take n t) ≡ Some e = front_first p t n s.within i found d in
    let held-e : Lawful r a.order a.Kept n t → first p h.elements ≡ Some e = λ l. found_here r a.order a.Kept laws.same n t l c.args.number ∙ first-e in
    let some-left : 0 < left = omega (arith, c.if-left-gt0.true, c.lots.ensures) in
    let some : r.lots e ≡ k → ⊥ = λ z. omega arith in
    let made : v ≡ r.with_lots e left = c.with_lots.ensures ∙ ap (λ j. r.with_lots e (j - k)) c.lots.ensures in
    let written : take n (set t i v) ≡ change p (λ x. r.with_lots x left) (take n t) =
    take-set-lt n t i v inside ∙ ap (set (take n t) i) (made ∙ ap (λ x. r.with_lots x left) (sym (front_at p t n s.within i found d)))
    ∙ ap (λ j. set (take n t) j (r.with_lots (get_or (take n t) (place p (take n t)) d) left)) at ∙ sym (change-at p (λ x. r.with_lots x left) (take n t) d) in
    let after : Lawful r a.order a.Kept n t → Arranges a.order a.Kept (take n (set t i v)) (change p (λ x. r.with_lots x left) h.elements) = λ l.
    subst (λ ys. Arranges a.order a.Kept ys (change p (λ x. r.with_lots x left) h.elements)) (sym written) (laws.relotted c.args.number left (take n t) (stands r a.order a.Kept laws.same n t l)) in
    let why = λ (l : Lawful r a.order a.Kept n t). cut_allowed r k (first p h.elements) e (held-e l) (sym c.if-not-can_cut.ensures) in
    record {
      answers = λ l. ap answer (sym (why l));
      leaves = λ l. rw (why l) (held_same _ _ _ _ (length-set t i v) ((after l).held ∙ sym (cutting_some p r k h.elements e (held-e l) some)));
      keeps = λ l.
          arranged_lawful r a.order a.Kept laws.same n (set t i v) (change p (λ x. r.with_lots x left) h.elements) (after l)
          (ordered-change p r g.met.E.Ranked.relotted left some-left h.elements l.sound.elements);
      refused = tt;
      table =
          subst (λ o. a.Cuts k o (place p (take n t)) n t (set t i v)) (sym first-e)
          (subst (λ j. a.Cuts k (Some e) j n t (set t i v)) at
          (subst (λ x. a.Cuts k (Some e) i n t (set t i x)) (sym made) (laws.cut_some k n i e t inside some)));
    }
