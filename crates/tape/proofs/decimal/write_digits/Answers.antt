use Rattle.std.proofs.Common.{arith}
use Rattle.tape.proofs.Decimals.{digit_written}
use Rattle.tape.proofs.decimal.write_digits.Goals as goal

pub loop-i-preserved : goal.loop-i-preserved
loop-i-preserved c = digit_written _ _ _ _ (omega arith) c.loop-i-test.true (omega arith) c.loop-i.invariant
