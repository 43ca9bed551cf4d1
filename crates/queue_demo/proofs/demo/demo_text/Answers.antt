use Rattle.std.proofs.Common.{length, take, string_bytes, sym, ◌∙◌}
use Rattle.heap_queue.specs.Heaps.{ranked}
use Rattle.orders.specs.Priority.{buy_rank}
use Rattle.queue_demo.proofs.Prints.{given_ranked, both_printed, printed_lines_lem}
use Rattle.queue_demo.proofs.demo.demo_text.Goals as goal

pub returns : goal.returns
returns c =
    let left = c.new.result in
    let right = c.new-2.result in
    let a = given_ranked (record { capacity = length left.table.now; elements = take left.count left.table.now }) c.unwrap-sorted.result (sym c.rank_sample.ensures.gives ∙ c.unwrap-sorted.ensures) in
    let b = given_ranked (record { capacity = length right.table.now; elements = ranked buy_rank.before (take right.count right.table.now) }) c.unwrap-heaped.result (sym c.rank_sample-2.ensures.gives ∙ c.unwrap-heaped.ensures) in
    let prints = both_printed _ _ _ (string_bytes c.push_report.new.text) (string_bytes c.push_report-2.new.text) a b c.new-text.ensures.bytes c.in_ok-push_report.ensures c.in_ok-push_report-2.ensures in
    record { prints = prints; lines = prints ∙ printed_lines_lem }
