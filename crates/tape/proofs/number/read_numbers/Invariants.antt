use Rattle.std.proofs.Common.{◌≡◌, ◌-◌, length, take}
use Rattle.tape.specs.Numbers.{read_numbers}
use Rattle.tape.proofs.Runs.{behind_read}
use Rattle.tape.proofs.number.read_numbers.Given as goal

abbrev pub invariant-loop-place : goal.invariant-loop-place
invariant-loop-place g l =
    (length l.place-items ≡ g.row.N) × (behind_read (take l.place-index l.place-items) (read_numbers (g.row.N - l.place-index) l.rest) ≡ read_numbers g.row.N l.bytes)
