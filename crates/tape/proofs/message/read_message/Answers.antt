use Rattle.std.proofs.Common.{◌≡◌, sym, ap, ◌∙◌, arith}
use Rattle.std.proofs.lemmas.Grind.{common_steps}
use Rattle.tape.specs.Messages.{read_message}
use Rattle.tape.specs.Numbers.{seen}
use Rattle.tape.proofs.Inverses.{message_reads, message_only, message_followed}
use Rattle.tape.proofs.message.read_message.Goals as goal

pub returns-in_ok-try_from-in-len1-up : goal.returns-in_ok-try_from-in-len1-up
returns-in_ok-try_from-in-len1-up c =
    let bs = c.args.bytes.now in
    let reads : seen c.read_body.result ≡ read_message bs = grind (arith, common_steps) in
    record {
      reads = reads;
      gives_back = λ m rest small e. reads ∙ ap read_message e ∙ message_reads m rest small;
      only = λ m rest e. message_only bs m rest (λ i. omega (arith, c.type_inv.bytes i)) (sym reads ∙ e);
      followed = λ m rest more e. message_followed bs m rest more (λ i. omega (arith, c.type_inv.bytes i)) (sym reads ∙ e);
    }
