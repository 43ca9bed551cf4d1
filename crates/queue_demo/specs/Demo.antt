-- What the demonstration prints.
use Rattle.std.specs.Prelude.{ℕ, cond, List, ◌++◌, length, Ok, Err, codes, Result, ◌==◌, nat_le}
use Rattle.terms.specs.declared.refusal.Refusal.{Refusal}
use Rattle.terms.specs.declared.refusal.Refusal.TheVariants.{UnfitQueue, QueueFull}
use Rattle.orders.specs.Sides.{BuyOrder}
use Rattle.queue.specs.Held.{Held}
use Rattle.queue_demo.specs.Reports.{report}
use Rattle.queue_demo.specs.Sample.{ranked}

-- what a queue that holds h makes of the sample: it has to be empty, with five places
abbrev pub ranked_in : Held BuyOrder → Result (List BuyOrder) Refusal
ranked_in h = cond (length h.elements == 0) (cond (nat_le 5 h.capacity) (Ok ranked) (Err QueueFull)) (Err UnfitQueue)

-- both kinds of queue give the same report
abbrev pub printed : List ℕ
printed = report (codes "sorted queue") ranked ++ report (codes "heap queue") ranked

-- and that is this text
abbrev pub ranked_lines : List ℕ
ranked_lines =
    codes "104: 55 lots\n  order 2, 5 lots\n  order 5, 50 lots\n103: 7 lots\n  order 4, 7 lots\n102: 70 lots\n  order 1, 40 lots\n  order 3, 30 lots\n"

abbrev pub printed_lines : List ℕ
printed_lines = codes "sorted queue\n" ++ (ranked_lines ++ (codes "heap queue\n" ++ ranked_lines))
