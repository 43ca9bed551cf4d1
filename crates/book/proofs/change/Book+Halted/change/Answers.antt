use Rattle.std.proofs.Common.{◌+◌, ◌-◌, [], sym, refl, ap, ◌∙◌}
use Rattle.std.proofs.lemmas.Result.{err_from_is_err_and}
use Rattle.terms.specs.declared.side.Side.{Side}
use Rattle.terms.specs.declared.side.Side.TheVariants.{Buy, Sell}
use Rattle.queue.specs.Held.{after_cut, after_put, after_take}
use Rattle.orders.specs.Priority.{rank_of}
use Rattle.rules.proofs.Changing.{change-lowered, change_rested}
use Rattle.rules.proofs.Ruled.{ruled_refused, answered_by, settled_all}
use Rattle.rules.specs.Book.{other, pick}
use Rattle.rules.specs.ByRule.{SoundBook}
use Rattle.rules.specs.Calls.{change}
use Rattle.book.specs.Books.{halted_book}
use Rattle.book.proofs.OnSides.{turned}
use Rattle.book.proofs.change.Book+Halted.change.Goals as goal

pub returns-in_err-found : goal.returns-in_err-found
returns-in_err-found g c =
    let p = err_from_is_err_and c.from_residual.result c.from_residual.ensures.1 in
    let b = halted_book c.args.self.now (g.D.Sides.held c.args.sides.now) in
    let w = settled_all ((s : Side) → g.D.Sides.lawful c.args.sides.now s) b b (λ l r. ruled_refused (change c.args.change 0) (b r) _ [] (c.in_err-found.ensures.answers l)) in
    rw (p.1, p.2) (record { refused = (refl, refl); keeps = λ t l. l; same = g.met.D.Sides.same_at_first _; by_rule = w.0; day = w.1 })

pub returns-then-keeps_place : goal.returns-then-keeps_place
returns-then-keeps_place g c =
    let s = c.args.self.now in
    let f = c.in_ok-found.found in
    let d = c.args.change in
    let held = g.D.Sides.held c.args.sides.now in
    let held' = g.D.Sides.held c.lower.new.sides in
    let b = halted_book s held in
    let w =
    settled_all ((s : Side) → g.D.Sides.lawful c.args.sides.now s) b (halted_book s held')
    (λ l r.
    let q = c.in_ok-found.ensures.answers l in
    let cut = c.lower.ensures.cuts l in
    answered_by c.lower.result c.lower.ensures.answers
    (change-lowered d 0 f (b r) q.0 q.1 (held' Buy) (held' Sell) [] (sym c.if-keeps_place.ensures) (turned held held' f.side (λ h. after_cut (rank_of f.side) h d.order (f.order.lots - d.lots)) cut.0) (turned held held' (other f.side) (λ h. h) cut.1))) in
    record { refused = tt; keeps = c.lower.ensures.keeps; same = c.lower.ensures.same; by_rule = w.0; day = w.1 }

pub returns : goal.returns
returns g c =
    let s = c.args.self.now in
    let f = c.in_ok-found.found in
    let d = c.args.change in
    let took = c.take in
    let put = c.put in
    let held = g.D.Sides.held c.args.sides.now in
    let held₁ = g.D.Sides.held took.new.self in
    let held' = g.D.Sides.held put.new.self in
    let b = halted_book s held in
    let w =
    settled_all ((s : Side) → g.D.Sides.lawful c.args.sides.now s) b (halted_book (record { terms = s.terms; next = s.next + 1; phase = s.phase }) held')
    (λ l r.
    let q = c.in_ok-found.ensures.answers l in
    let sound = g.met.D.Sides.sound c.args.sides.now in
    let both : SoundBook (b r) = record { buys = sound Buy (l Buy); sells = sound Sell (l Sell) } in
    let out = turned held held₁ f.side (λ h. after_take (rank_of f.side) h d.order) (took.ensures.leaves (l f.side)) in
    let kept = turned held held₁ (other f.side) (λ h. h) took.ensures.stays in
    let puts = turned held₁ held' f.side (λ h. after_put (rank_of f.side) h c.changed.result) (put.ensures.leaves (took.ensures.keeps f.side (l f.side))) in
    answered_by c.change_answer.result c.change_answer.ensures
    (change_rested d 0 f (b r) q.0 q.1 (sym c.if-keeps_place.ensures) both (held₁ Buy) (held₁ Sell) out kept (held' Buy) (held' Sell) refl
    (puts ∙ ap (after_put (rank_of f.side) (pick f.side (held₁ Buy) (held₁ Sell))) c.changed.ensures) (turned held₁ held' (other f.side) (λ h. h) put.ensures.stays))) in
    record {
      refused = tt;
      keeps = λ t l. put.ensures.keeps t (took.ensures.keeps t l);
      same = g.met.D.Sides.same_still _ _ _ took.ensures.same put.ensures.same;
      by_rule = w.0;
      day = w.1;
    }
