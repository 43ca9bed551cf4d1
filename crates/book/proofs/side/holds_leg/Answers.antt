use Rattle.std.proofs.Common.{rules}
use Rattle.rules.proofs.Legs.{found_any}
use Rattle.book.proofs.side.holds_leg.Goals as goal

pub returns : goal.returns
returns g c l = search (rules, found_any)
