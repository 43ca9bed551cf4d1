-- The two reports, one below the other.
use Rattle.std.proofs.Common.{◌≡◌, ℕ, Bool, true, false, cond, eqb, leb, List, [], ◌++◌, length, Ok, Err, codes, refl, ap, ◌∙◌}
use Rattle.std.specs.Fmt.{digits}
use Rattle.terms.specs.declared.refusal.Refusal.TheVariants.{UnfitQueue, QueueFull}
use Rattle.orders.specs.Sides.{BuyOrder}
use Rattle.queue.specs.Held.{Held}
use Rattle.queue_demo.specs.Demo.{ranked_in, printed, printed_lines}
use Rattle.queue_demo.specs.Reports.{report}
use Rattle.queue_demo.specs.Sample.{ranked}

-- what a queue gives is the ranked sample
pub given_by : (empty room : Bool) (os : List BuyOrder) → cond empty (cond room (Ok ranked) (Err QueueFull)) (Err UnfitQueue) ≡ Ok os → os ≡ ranked
given_by true true os e = cc
given_by true false os e = cc
given_by false room os e = cc

pub given_ranked : (h : Held BuyOrder) (os : List BuyOrder) → ranked_in h ≡ Ok os → os ≡ ranked
given_ranked h os e = given_by (eqb (length h.elements) 0) (leb 5 h.capacity) os e

pub both_printed : (sorted heaped : List BuyOrder) (start mid end : List ℕ) → sorted ≡ ranked → heaped ≡ ranked → start ≡ []
    → mid ≡ start ++ report (codes "sorted queue") sorted → end ≡ mid ++ report (codes "heap queue") heaped → end ≡ printed
both_printed sorted heaped start mid end s h none m e =
    e ∙ ap (λ os. mid ++ report (codes "heap queue") os) h
    ∙ ap (λ bs. bs ++ report (codes "heap queue") ranked) (m ∙ ap (λ os. start ++ report (codes "sorted queue") os) s ∙ ap (λ bs. bs ++ report (codes "sorted queue") ranked) none)

pub printed_lines_lem : printed ≡ printed_lines
unfolding digits
printed_lines_lem = refl
