use Rattle.std.proofs.Common.{sym, ap, ◌∙◌, arith}
use Rattle.tape.specs.Numbers.{read_number}
use Rattle.tape.proofs.Encodings.{reads_encoded, only_encoded}
use Rattle.tape.proofs.number.read_number.Goals as goal

pub returns-clause-gives_back : goal.returns-clause-gives_back
returns-clause-gives_back c = λ n rest small e. c.read_groups.ensures.reads ∙ ap read_number e ∙ reads_encoded 3 n rest small

pub returns-clause-only : goal.returns-clause-only
returns-clause-only c =
    λ n rest e. only_encoded 3 c.args.bytes.now n rest (λ i. omega (arith, c.type_inv.bytes i)) (sym c.read_groups.ensures.reads ∙ e)
