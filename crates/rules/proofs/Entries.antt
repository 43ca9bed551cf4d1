-- Entries by number, and the lots that rest under a number.
use Rattle.std.proofs.Common.{◌≡◌, ℕ, ◌+◌, ◌-◌, ◌≤◌, Bool, true, false, cond, eqb, List, [], ◌∷◌, sym, refl, ap, ◌∙◌, arith}
use Rattle.std.proofs.lemmas.Bool.{cond_both, eqb-true, eqb-false, or_parts}
use Rattle.std.specs.List.{AllByRecursion}
use Rattle.queue.specs.Held.{any, Apart, insert, remove, change}
use Rattle.orders.specs.Priority.{with_lots}
use Rattle.orders.specs.declared.order.Order.{Order}
use Rattle.rules.specs.Ledger.{at}
use Rattle.rules.specs.Laws.{under}
use Rattle.rules.specs.Rules.{number_is}

pub at_here : {A : Type 0} (n : ℕ) (x y : A) → at n n x y ≡ x
unfolding at
at_here n x y = go (eqb n n) refl
  where
    go : (t : Bool) → eqb n n ≡ t → cond t x y ≡ x
    go true h = refl
    go false h = absurd (eqb-false n n h refl)

pub at_other : {A : Type 0} (n m : ℕ) (x y : A) → (m ≡ n → ⊥) → at n m x y ≡ y
unfolding at
at_other n m x y d = go (eqb m n) refl
  where
    go : (t : Bool) → eqb m n ≡ t → cond t x y ≡ y
    go true h = absurd (d (eqb-true m n h))
    go false h = refl

pub at_zero : (n m : ℕ) → ◌≡◌ {A = ℕ} (at n m 0 0) 0
unfolding at
at_zero n m = go (eqb m n)
  where
    go : (t : Bool) → ◌≡◌ {A = ℕ} (cond t 0 0) 0
    go true = refl
    go false = refl

pub at_sum : (n m a b : ℕ) → at n m (a + b) 0 ≡ at n m a 0 + at n m b 0
unfolding at
at_sum n m a b = go (eqb m n)
  where
    go : (t : Bool) → cond t (a + b) 0 ≡ cond t a 0 + cond t b 0
    go true = refl
    go false = refl

pub at_cut : (n m k l : ℕ) → k ≤ l → at n m l 0 ≡ at n m k 0 + at n m (l - k) 0
at_cut n m k l h = ap (λ x. at n m x 0) (let e : l ≡ k + (l - k) = omega arith in e) ∙ at_sum n m k (l - k)

-- what holds of each
pub all_both : {P Q R : Order → Type 0} → ((o : Order) → P o → Q o → R o) → (os : List Order) → AllByRecursion P os → AllByRecursion Q os → AllByRecursion R os
all_both f [] a b = tt
all_both f (o ∷ os) a b = (f o a.0 b.0, all_both f os a.1 b.1)

-- no order has the number
abbrev pub Absent : ℕ → List Order → Type 0
Absent n = AllByRecursion (λ o. o.number ≡ n → ⊥)

pub absent_any : (n : ℕ) (os : List Order) → any (number_is n) os ≡ false → Absent n os
absent_any n [] h = tt
absent_any n (o ∷ os) h = let a = or_parts (eqb o.number n) _ h in (eqb-false o.number n a.0, absent_any n os a.1)

pub under_absent : (n : ℕ) (os : List Order) → Absent n os → under n os ≡ 0
under_absent n [] a = refl
under_absent n (o ∷ os) a = omega (arith, at_other o.number n o.lots 0 (λ e. a.0 (sym e)), under_absent n os a.1)

pub under-insert : (b : Order → Order → Bool) (m : ℕ) (o : Order) (os : List Order) → under m (insert b o os) ≡ at o.number m o.lots 0 + under m os
under-insert b m o [] = refl
under-insert b m o (x ∷ xs) =
    let r = under-insert b m o xs in
    cond_both (b o x) _ _ (λ ys. under m ys ≡ at o.number m o.lots 0 + (at x.number m x.lots 0 + under m xs)) (λ _. refl) (λ _. omega (arith, r))

pub under_others : (n m : ℕ) (os : List Order) → (m ≡ n → ⊥) → under m (remove (number_is n) os) ≡ under m os
under_others n m [] d = refl
under_others n m (x ∷ xs) d =
    let r = under_others n m xs d in
    cond_both (eqb x.number n) _ _ (λ ys. under m ys ≡ at x.number m x.lots 0 + under m xs)
    (λ t. omega (arith, at_other x.number m x.lots 0 (λ q. d (q ∙ eqb-true x.number n t))))
    (λ _. omega (arith, r))

pub absent_removed : (n : ℕ) (os : List Order) → Apart (λ o. o.number) os → Absent n (remove (number_is n) os)
absent_removed n [] a = tt
absent_removed n (x ∷ xs) a =
    let r = absent_removed n xs a.1 in
    cond_both (eqb x.number n) _ _ (Absent n)
    (λ t. absent_any n xs (ap (λ k. any (number_is k) xs) (sym (eqb-true x.number n t)) ∙ a.0))
    (λ t. (eqb-false x.number n t, r))

-- the lots of one order are set
pub under-changed : (n k m : ℕ) (os : List Order) → (m ≡ n → ⊥) → under m (change (number_is n) (λ o. with_lots o k) os) ≡ under m os
under-changed n k m [] d = refl
under-changed n k m (x ∷ xs) d =
    let r = under-changed n k m xs d in
    cond_both (eqb x.number n) _ _ (λ ys. under m ys ≡ at x.number m x.lots 0 + under m xs)
    (λ t.
    let e : m ≡ x.number → ⊥ = λ q. d (q ∙ eqb-true x.number n t) in
    omega (arith, at_other x.number m x.lots 0 e, at_other x.number m k 0 e))
    (λ _. omega (arith, r))

pub absent_changed : (n k : ℕ) (f : Order → Order) (os : List Order) → ((o : Order) → (f o).number ≡ o.number) → Absent k os → Absent k (change (number_is n) f os)
absent_changed n k f [] e a = tt
absent_changed n k f (x ∷ xs) e a =
    cond_both (eqb x.number n) _ _ (Absent k) (λ _. ((λ q. a.0 (sym (e x) ∙ q)), a.1)) (λ _. (a.0, absent_changed n k f xs e a.1))

pub all_changed : (P : Order → Type 0) (n k : ℕ) → ((o : Order) → P o → P (with_lots o k)) → (os : List Order) → AllByRecursion P os → AllByRecursion P (change (number_is n) (λ o. with_lots o k) os)
all_changed P n k f [] a = tt
all_changed P n k f (x ∷ xs) a =
    cond_both (eqb x.number n) _ _ (AllByRecursion P) (λ _. (f x a.0, a.1)) (λ _. (a.0, all_changed P n k f xs a.1))
