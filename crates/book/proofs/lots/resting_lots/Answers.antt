use Rattle.std.proofs.Common.{map, sym, ap, ◌∙◌, arith}
use Rattle.std.proofs.lemmas.List.{drop_all}
use Rattle.queue.proofs.Rounds.{head-is, head_none}
use Rattle.queue.proofs.Walks.{next-after}
use Rattle.orders.specs.Laws.{before_irreflexive, before_transitive}
use Rattle.orders.specs.Priority.{side_rank}
use Rattle.rules.specs.Book.{resting_lots}
use Rattle.book.proofs.lots.resting_lots.Goals as goal

pub loop-init : goal.loop-init
loop-init g c = (omega arith, λ l. (c.first-next.ensures l, omega arith))

pub loop-preserved : goal.loop-preserved
loop-preserved g c =
    let s = g.S.OneSide.side in
    let es = (g.Q.Queue.held c.args.q.now).elements in
    let i = c.loop.counter in
    let v = c.loop.invariant in (
      omega arith,
      λ l.
          let first = sym c.in-Some.is ∙ (v.1 l).0 in
          let split = ap (λ xs. resting_lots (map (λ o. o.0) xs)) (head-is es i c.in-Some.e first).2 in (
            c.first_after-next.ensures l ∙ next-after (side_rank s).before (λ o. before_irreflexive s o.0) (λ o p q. before_transitive s o.0 p.0 q.0) es i c.in-Some.e (c.count-end.ensures.sound l).elements.sorted first,
            omega (arith, (v.1 l).1, split),
          ),
    )

pub overflow_add-sum : goal.overflow_add-sum
overflow_add-sum g c = let v = c.loop.invariant.0 in omega arith

pub returns-in_default : goal.returns-in_default
returns-in_default g c =
    let es = (g.Q.Queue.held c.args.q.now).elements in
    let v = c.loop.invariant in
    record {
      small = let n = c.count-end.type_inv in let t = c.loop-test.true in omega (arith, v.0);
      lots = λ l.
          let none = ap (λ xs. resting_lots (map (λ o. o.0) xs)) (drop_all c.loop.counter es (head_none es c.loop.counter (sym c.in_default.is ∙ (v.1 l).0))) in
          omega (arith, (v.1 l).1, none);
    }

pub returns-after-loop : goal.returns-after-loop
returns-after-loop g c =
    let es = (g.Q.Queue.held c.args.q.now).elements in
    let v = c.loop.invariant in
    record {
      small = let n = c.count-end.type_inv in let k = c.loop.auto.counter-end in omega (arith, v.0);
      lots = λ l.
          let none = ap (λ xs. resting_lots (map (λ o. o.0) xs)) (drop_all c.loop.counter es (omega (arith, c.count-end.ensures.counts))) in
          omega (arith, (v.1 l).1, none);
    }
