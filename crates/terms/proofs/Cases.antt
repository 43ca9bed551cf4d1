-- A case and its value determine each other.
use Rattle.std.proofs.Common.{◌≡◌, ℕ, eqb, List, [], ◌∷◌, Some, sym, ap, ◌∙◌, ⊎_elim, arith}
use Rattle.std.proofs.lemmas.Bool.{cases_Bool, eqb-true, cond-true, cond-false}
use Rattle.terms.specs.Values.{case_of}

pub case_value : {A : Type 0} (value : A → ℕ) (cases : List A) (n : ℕ) (a : A) → case_of value cases n ≡ Some a → value a ≡ n
case_value value [] n a e = let z : ◌≡◌ {A = ℕ} 0 1 = cc in absurd (omega arith)
case_value value (b ∷ rest) n a e =
    ⊎_elim
    (λ t.
    let s : b ≡ a = (let f = cond-true (eqb (value b) n) (Some b) (case_of value rest n) t in cc) in
    ap value (sym s) ∙ eqb-true (value b) n t)
    (λ t. case_value value rest n a (sym (cond-false (eqb (value b) n) (Some b) (case_of value rest n) t) ∙ e))
    (cases_Bool (eqb (value b) n))
