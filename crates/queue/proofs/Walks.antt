-- A walk through a sorted list, from each element to the first that ranks after it.
use Rattle.std.proofs.Common.{◌≡◌, ℕ, zero, suc, ◌+◌, Bool, true, false, List, [], ◌∷◌, drop, Some, sym, refl, ap, ◌∙◌, subst, arith}
use Rattle.std.proofs.lemmas.Bool.{cond-false, cond-true, true≢false}
use Rattle.std.specs.List.{AllByRecursion}
use Rattle.queue.specs.Held.{Sorted, head, first}

module _
    {E : Type 0} (b : E → E → Bool)
    (irreflexive : (x : E) → b x x ≡ false)
    (transitive : (x y z : E) → b x y ≡ true → b y z ≡ true → b x z ≡ true)
  where
    asymmetric : (x y : E) → b x y ≡ true → b y x ≡ false
    asymmetric x y h = go (b y x) refl
      where
        go : (t : Bool) → b y x ≡ t → t ≡ false
        go true e = absurd (true≢false (sym (transitive x y x h e) ∙ irreflexive x))
        go false e = refl

    all_after : (e : E) (xs : List E) → AllByRecursion (λ x. b e x ≡ true) xs → first (b e) xs ≡ head xs
    all_after e [] a = refl
    all_after e (x ∷ xs) a = cond-true (b e x) (Some x) (first (b e) xs) a.0

    among : (P : E → Type 0) (xs : List E) (i : ℕ) (e : E) → Some e ≡ head (drop i xs) → AllByRecursion P xs → P e
    among P [] zero e h a = let z : ◌≡◌ {A = ℕ} 0 1 = cc in absurd (omega arith)
    among P [] (suc i) e h a = let z : ◌≡◌ {A = ℕ} 0 1 = cc in absurd (omega arith)
    among P (x ∷ xs) zero e h a = let s : x ≡ e = cc in subst P s a.0
    among P (x ∷ xs) (suc i) e h a = among P xs i e h a.1

    pub next-after : (xs : List E) (i : ℕ) (e : E) → Sorted b xs → Some e ≡ head (drop i xs) → first (b e) xs ≡ head (drop (i + 1) xs)
    next-after [] zero e s h = let z : ◌≡◌ {A = ℕ} 0 1 = cc in absurd (omega arith)
    next-after [] (suc i) e s h = let z : ◌≡◌ {A = ℕ} 0 1 = cc in absurd (omega arith)
    next-after (x ∷ xs) zero e s h =
        let q : e ≡ x = cc in
        ap (λ y. first (b y) (x ∷ xs)) q ∙ cond-false (b x x) (Some x) (first (b x) xs) (irreflexive x) ∙ all_after x xs s.0
    next-after (x ∷ xs) (suc i) e s h =
        let before = among (λ y. b x y ≡ true) xs i e h s.0 in
        let n : suc i + 1 ≡ suc (i + 1) = omega arith in
        cond-false (b e x) (Some x) (first (b e) xs) (asymmetric x e before) ∙ next-after xs i e s.1 h ∙ rw n refl
