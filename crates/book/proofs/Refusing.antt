-- Tests that were passed.
use Rattle.std.proofs.Common.{◌≡◌, ℕ, Bool, true, false, Ok, Err, refl, arith}
use Rattle.terms.specs.declared.refusal.Refusal.{Refusal}
use Rattle.book.specs.Refusing.{refused_if}

pub passes : {u : Unit {0}} (r : Refusal) (t : Bool) → Ok u ≡ refused_if r t → t ≡ false
passes r true h = let z : ◌≡◌ {A = ℕ} 0 1 = cc in absurd (omega arith)
passes r false h = refl

pub refuses : (r : Refusal) (t : Bool) {e : Refusal} → Err e ≡ refused_if r t → (t ≡ true) × (e ≡ r)
refuses r true h = (refl, cc)
refuses r false h = let z : ◌≡◌ {A = ℕ} 0 1 = cc in absurd (omega arith)
