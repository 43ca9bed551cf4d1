use Rattle.std.proofs.Common.{◌≡◌, ◌+◌, ◌≤◌, ◌++◌, length, string_bytes}
use Rattle.tape.proofs.ReadAll.{Bytes}
use Rattle.tape_dump.proofs.Lines.{lines_left}
use Rattle.tape_dump.proofs.dump.push_messages.Given as goal

-- what is printed, with what is still to come, is the whole
abbrev pub invariant-loop-rest : goal.invariant-loop-rest
invariant-loop-rest l =
    Bytes l.rest × (l.messages + length l.rest ≤ length l.bytes)
    × (string_bytes l.text ++ lines_left l.tape_len l.messages l.rest ≡ string_bytes l.initial.text ++ lines_left l.tape_len 0 l.bytes)

abbrev pub decreases-loop-rest : goal.decreases-loop-rest
decreases-loop-rest l = length l.rest
