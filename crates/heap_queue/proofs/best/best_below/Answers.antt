use Rattle.std.proofs.Common.{◌≡◌, ◌+◌, ◌*◌, get_or, sym, ap, ◌∙◌, arith}
use Rattle.heap_queue.proofs.HeapOrder.{read_test, upper_first}
use Rattle.heap_queue.proofs.best.best_below.Goals as goal
use Rattle.heap_queue.proofs.best.best_below.Goals.{else-right-heap-via-then-right-heap+else-ranks_before, else-right-heap-via-else-right-heap}

pub returns-else-right-heap-clause-best : goal.returns-else-right-heap-clause-best
returns-else-right-heap-clause-best g c = λ a k p m e f d.
    let q = g.E.Ranked.rank in
    let xs = c.args.heap.now in
    let left = 2 * c.args.i + 1 in
    let right : k ≡ left + 1 = omega arith in
    elim c.else-right-heap.branch [
      | else-right-heap-via-then-right-heap+else-ranks_before w ↦
          let first = upper_first q.before xs q.key g.met.E.Ranked.connected a left (left + 1) d (omega arith) w.if-right-heap.true
          (read_test q.before xs (left + 1) left _ _ d w.if-right-heap.true (omega arith) w.index-heap-right.is w.index-heap-left.is ∙ sym w.if-ranks_before.ensures) in
          ap (λ j. q.before (get_or xs left d) (get_or xs j d)) right ∙ first
      | else-right-heap-via-else-right-heap w ↦ let z : ⊥ = omega (arith, w.if-right-heap.false) in absurd z
    ]
