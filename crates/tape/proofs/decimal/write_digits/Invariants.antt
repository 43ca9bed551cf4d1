use Rattle.std.proofs.Common.{decimal}
use Rattle.tape.proofs.Decimals.{Written}
use Rattle.tape.proofs.decimal.write_digits.Given as goal

abbrev pub invariant-loop-i : goal.invariant-loop-i
invariant-loop-i l = Written (decimal l.n) l.places l.i l.rest
