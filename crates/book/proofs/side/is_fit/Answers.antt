use Rattle.std.proofs.Common.{◌≡◌, ◌&&◌, eqb, sym, ◌∙◌, arith}
use Rattle.std.proofs.lemmas.Bool.Decides.{nat_tests}
use Rattle.terms.specs.Setups.{within}
use Rattle.queue.proofs.Carried.{map-length}
use Rattle.book.proofs.side.is_fit.Goals as goal

pub returns : goal.returns
returns g c =
    let held = g.Q.Queue.held c.args.q.now in
    let long = c.count.ensures.counts ∙ sym (map-length (λ o. o.0) held.elements) in
    record {
      fits = c.can_open.ensures ∙ (λ i. eqb (long i) 0 && within 1 1024 (c.capacity.ensures.holds i));
      lawful = λ t.
          let u = sym c.can_open.ensures ∙ t in
          let none : c.count.result ≡ 0 = grind (arith, nat_tests) in
          c.count.ensures.empty (sym c.count.ensures.counts ∙ none);
    }
