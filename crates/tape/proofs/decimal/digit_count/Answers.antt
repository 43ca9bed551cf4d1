use Rattle.std.proofs.Common.{rules}
use Rattle.tape.proofs.Decimals.{digits_of_power}
use Rattle.tape.proofs.decimal.digit_count.Goals as goal

pub returns : goal.returns
returns c = search (rules, digits_of_power)
