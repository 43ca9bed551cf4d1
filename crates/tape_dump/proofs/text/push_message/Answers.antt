use Rattle.std.proofs.Common.{append_assoc, rules}
use Rattle.tape_dump.proofs.Pushes.{letter_small}
use Rattle.tape_dump.proofs.text.push_message.Goals as goal

pub returns : goal.returns
returns c = search (rules, append_assoc, letter_small)
