use Rattle.std.proofs.Common.{◌≡◌, ◌+◌, ◌-◌, true, false, ◌||◌, eqb, ◌++◌, length, take, drop, sym, refl, ap, ◌∙◌, subst, arith}
use Rattle.std.proofs.lemmas.Bool.{or_left, or_right, eq-eqb}
use Rattle.std.proofs.lemmas.List.{length-take-le, take-take, take_at}
use Rattle.queue.proofs.Inserts.{any_or}
use Rattle.queue.proofs.Puts.{held_same, unbarred, barred-full, barred_held, ordered-insert}
use Rattle.queue.specs.Held.{insert, answer, unless, any, is, clash}
use Rattle.table_queue.specs.Arranged.{held_in, Lawful, Stands, Arranges}
use Rattle.table_queue.proofs.Fronts.{front_whole, front_long}
use Rattle.table_queue.proofs.Meanings.{held_long, stands, arranged_lawful}
use Rattle.table_queue.proofs.Perms.{perm_any}
use Rattle.table_queue.proofs.TableQueueQueue.put.Goals as goal
use Rattle.table_queue.proofs.TableQueueQueue.put.Goals.{then-lots-eq0-via-then-lots-eq0, then-lots-eq0-via-else-lots-eq0+then-clashes}

pub returns-then-self : goal.returns-then-self
returns-then-self g c =
    let r = g.E.Ranked.rank in
    let a = g.A.Arrangement in
    let s = c.args.self.now in
    let h = held_in a.order s.count s.table.now in
    let long = held_long r a.order a.Kept g.met.A.Arrangement.same s.count s.table.now s.within in
    let why = barred-full r h c.args.e (omega arith) in
    record {
      answers = λ _. ap answer (sym why);
      leaves = λ _. ap (λ o. unless o h (insert r.before c.args.e h.elements)) (sym why);
      keeps = λ l. l;
      refused = refl;
      table = tt;
    }

pub returns-then-lots-eq0 : goal.returns-then-lots-eq0
returns-then-lots-eq0 g c =
    let r = g.E.Ranked.rank in
    let a = g.A.Arrangement in
    let same = g.met.A.Arrangement.same in
    let s = c.args.self.now in
    let e = c.args.e in
    let h = held_in a.order s.count s.table.now in
    let long = held_long r a.order a.Kept same s.count s.table.now s.within in
    let t : (eqb (r.lots e) 0 || any (clash r e) h.elements) ≡ true =
    elim c.then-lots-eq0.branch [
      | then-lots-eq0-via-then-lots-eq0 w ↦ or_left _ _ (eq-eqb _ _ (sym c.lots.ensures ∙ w.if-lots-eq0.true))
      | then-lots-eq0-via-else-lots-eq0+then-clashes w ↦
          or_right _ _ (sym (w.clashes.ensures ∙ ap (any (clash r e)) w.elements.ensures ∙ perm_any (clash r e) (same (take s.count s.table.now))) ∙ w.if-clashes.true)
    ] in
    let why = barred_held r h e (omega arith) t in
    record {
      answers = λ _. ap answer (sym why);
      leaves = λ _. ap (λ o. unless o h (insert r.before e h.elements)) (sym why);
      keeps = λ l. l;
      refused = refl;
      table = tt;
    }

pub returns : goal.returns
returns g c =
    let r = g.E.Ranked.rank in
    let m = g.met.E.Ranked in
    let a = g.A.Arrangement in
    let laws = g.met.A.Arrangement in
    let s = c.args.self.now in
    let n = s.count in
    let t = s.table.now in
    let e = c.args.e in
    let front = take (n + 1) t in
    let left = c.insert.new.elements in
    let u = left ++ drop (n + 1) t in
    let h = held_in a.order n t in
    let xs = take n t in
    let long = held_long r a.order a.Kept laws.same n t s.within in
    let wide : length front ≡ n + 1 = length-take-le (n + 1) t (omega arith) in
    let last : length front - 1 ≡ n = omega arith in
    let others : take (length front - 1) front ≡ xs = ap (λ k. take k front) last ∙ take-take n (n + 1) t (omega arith) in
    let clear-xs : any (clash r e) xs ≡ false = sym (c.clashes.ensures ∙ ap (any (clash r e)) c.elements.ensures) ∙ c.if-clashes.false in
    let clear : any (clash r e) h.elements ≡ false = sym (perm_any (clash r e) (laws.same xs)) ∙ clear-xs in
    let some : r.lots e ≡ 0 → ⊥ = λ z. c.if-lots-eq0.false (c.lots.ensures ∙ z) in
    let why = unbarred r h e (omega arith) some clear in
    let after : Lawful r a.order a.Kept n t → Arranges a.order a.Kept (take (n + 1) u) (insert r.before e h.elements) = λ l.
    subst (λ ys. Arranges a.order a.Kept ys (insert r.before e h.elements)) (sym (take_at left (drop (n + 1) t) (n + 1) (c.insert.auto.elements ∙ wide)))
    (subst (λ ys. Stands r a.order a.Kept ys → any (is r.key (r.key e)) ys ≡ false → Arranges a.order a.Kept left (insert r.before e (a.order ys))) others (c.insert.ensures.arranges (omega arith))
    (stands r a.order a.Kept laws.same n t l) (any_or (is r.number (r.number e)) (is r.key (r.key e)) xs clear-xs).1) in
    record {
      answers = λ _. ap answer (sym why);
      leaves = λ l. rw why (held_same _ _ _ _ (front_long (n + 1) t left c.insert.auto.elements) (after l).held);
      keeps = λ l. arranged_lawful r a.order a.Kept laws.same (n + 1) u (insert r.before e h.elements) (after l) (ordered-insert r m.transitive m.connected h.elements e some clear l.sound.elements);
      refused = tt;
      table = subst (λ k. a.Puts k e t u) last (front_whole (n + 1) t left (a.Puts (length front - 1) e) (c.insert.ensures.puts (omega arith)));
    }
