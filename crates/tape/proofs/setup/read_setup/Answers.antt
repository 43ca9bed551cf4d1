use Rattle.std.proofs.Common.{◌≡◌, List, ℕ, ◌++◌, Ok, Result, sym, ap, ◌∙◌, arith}
use Rattle.std.proofs.lemmas.Grind.{common_steps}
use Rattle.terms.specs.Setups.{Allowed}
use Rattle.terms.specs.declared.refusal.Refusal.{Refusal}
use Rattle.terms.specs.declared.setup.Setup.{Setup}
use Rattle.tape.specs.Numbers.{seen}
use Rattle.tape.specs.Setups.{read_setup, encoded_setup}
use Rattle.tape.proofs.Inverses.{setup_reads, setup_only, setup_followed}
use Rattle.tape.proofs.setup.read_setup.Goals as goal

back : (bs : List ℕ) (r : Result (Setup × List ℕ) Refusal) → r ≡ read_setup bs → (s : Setup) (rest : List ℕ) → Allowed s → bs ≡ encoded_setup s ++ rest → r ≡ Ok (s, rest)
back bs r reads s rest h e = reads ∙ ap read_setup e ∙ setup_reads s rest h

pub returns-in_err-numbers-clause-gives_back : goal.returns-in_err-numbers-clause-gives_back
returns-in_err-numbers-clause-gives_back c = back c.args.bytes.now (seen c.from_residual.result) (grind (arith, common_steps))

pub returns-in_err-setup-clause-gives_back : goal.returns-in_err-setup-clause-gives_back
returns-in_err-setup-clause-gives_back c = back c.args.bytes.now (seen c.from_residual-in_err-setup.result) (grind (arith, common_steps))

pub returns : goal.returns
returns c =
    let bs = c.args.bytes.now in
    let read : ◌≡◌ {A = Result (Setup × List ℕ) Refusal} (Ok (c.in_ok-setup.setup, c.in_ok-numbers.rest.now)) (read_setup bs) = grind (arith, common_steps) in
    record {
      reads = read;
      gives_back = back bs _ read;
      only = λ s rest e. setup_only bs s rest (λ i. omega (arith, c.type_inv.bytes i)) (sym read ∙ e);
      followed = λ s rest more e. setup_followed bs s rest more (λ i. omega (arith, c.type_inv.bytes i)) (sym read ∙ e);
    }
