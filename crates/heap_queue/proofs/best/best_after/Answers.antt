use Rattle.std.proofs.Common.{◌≡◌, cond, filter, arith, ◌∙◌}
use Rattle.std.proofs.lemmas.Grind.{common_steps}
use Rattle.std.specs.List.{reduce}
use Rattle.heap_queue.proofs.Bests.{best_first}
use Rattle.heap_queue.proofs.best.best_after.Goals as goal

pub returns : goal.returns
returns g c = λ a.
    let q = g.E.Ranked.rank in
    let m = g.met.E.Ranked in
    let xs = c.args.elements.now in
    let p = q.before c.args.e.now in
    let best : c.reduce.result ≡ reduce (λ g f. cond (q.before g f) g f) (filter p xs) = grind (arith, common_steps) in
    best ∙ best_first q.before m.transitive q.key m.connected p xs a
