use Rattle.std.proofs.Common.{◌≡◌, ◌+◌, ◌*◌, ◌≤◌, map, drop}
use Rattle.queue.specs.Held.{head}
use Rattle.rules.specs.Book.{resting_lots}
use Rattle.book.proofs.lots.resting_lots.Given as goal

abbrev pub invariant-loop : goal.invariant-loop
invariant-loop g l =
    let es = (g.Q.Queue.held l.q).elements in
    let plain = map (λ o. o.0) in
    (l.sum ≤ 4294967295 * l.counter)
    × (g.Q.Queue.lawful l.q → (l.next ≡ head (drop l.counter es)) × (l.sum + resting_lots (plain (drop l.counter es)) ≡ resting_lots (plain es)))
