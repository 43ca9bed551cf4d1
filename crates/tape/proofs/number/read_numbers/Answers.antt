use Rattle.std.proofs.Common.{◌≡◌, ℕ, List, ◌++◌, length, Ok, Result, sym, ap, ◌∙◌, arith, length-set}
use Rattle.std.proofs.lemmas.Result.{err_from_is_err_and}
use Rattle.std.specs.List.{flat_map}
use Rattle.terms.specs.declared.refusal.Refusal.{Refusal}
use Rattle.tape.specs.Numbers.{Encodable, encoded, read_numbers}
use Rattle.tape.proofs.Runs.{numbers_more, numbers_refused, numbers_all, reads_all, only_all}
use Rattle.tape.proofs.number.read_numbers.Goals as goal

back : (n : ℕ) (bs : List ℕ) (r : Result (List ℕ × List ℕ) Refusal) → r ≡ read_numbers n bs → (ns rest : List ℕ) → length ns ≡ n → Encodable ns → bs ≡ flat_map encoded ns ++ rest → r ≡ Ok (ns, rest)
back n bs r reads ns rest long small e = reads ∙ ap (λ k. read_numbers k bs) (sym long) ∙ ap (read_numbers (length ns)) e ∙ reads_all ns rest small

pub loop-place-preserved : goal.loop-place-preserved
loop-place-preserved g c =
    let v = c.loop-place.invariant in (
      length-set _ _ _ ∙ v.0,
      numbers_more g.row.N c.loop-place.place-index _ _ _ _ (omega arith) (omega arith) c.in_ok-number.ensures.reads ∙ v.1,
    )

pub returns-in_err-number : goal.returns-in_err-number
returns-in_err-number g c =
    let p = err_from_is_err_and c.from_residual.result c.from_residual.ensures.1 in
    let bs = c.args.bytes.now in
    let reads = numbers_refused g.row.N c.loop-place.place-index _ _ _ (omega arith) c.in_err-number.ensures.reads ∙ c.loop-place.invariant.1 in
    rw (p.1, p.2)
    (record {
      reads = reads;
      gives_back = back g.row.N bs _ reads;
      only = λ ns rest e. only_all g.row.N bs ns rest (λ i. omega (arith, c.type_inv.bytes i)) (sym reads ∙ e);
    })

pub returns : goal.returns
returns g c =
    let v = c.loop-place.invariant in
    let bs = c.args.bytes.now in
    let reads = numbers_all g.row.N c.loop-place.place-index _ _ (omega arith) v.0 ∙ v.1 in
    record {
      reads = reads;
      gives_back = back g.row.N bs _ reads;
      only = λ ns rest e. only_all g.row.N bs ns rest (λ i. omega (arith, c.type_inv.bytes i)) (sym reads ∙ e);
    }
