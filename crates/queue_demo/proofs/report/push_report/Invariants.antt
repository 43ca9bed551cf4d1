use Rattle.std.proofs.Common.{◌≡◌, ◌++◌, drop, None, string_bytes}
use Rattle.queue_demo.specs.Reports.{lines_below}
use Rattle.queue_demo.proofs.report.push_report.Given as goal

-- what is written, with what is still to come, is the whole
abbrev pub invariant-loop-o : goal.invariant-loop-o
invariant-loop-o l =
    string_bytes l.text ++ lines_below l.orders l.last (drop l.o-index l.orders) ≡ string_bytes l.initial.text ++ lines_below l.orders None l.orders
