use Rattle.std.proofs.Common.{rules}
use Rattle.terms.proofs.Setups.{is_setup_from}
use Rattle.terms.proofs.setup.SetupTryFromArrayU329.try_from.Goals as goal

pub returns : goal.returns
returns c = is_setup_from c.args.numbers _ (search rules) (search rules)
