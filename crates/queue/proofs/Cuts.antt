-- `change` and `cutting`: where they write, and what they keep.
use Rattle.std.proofs.Common.{◌≡◌, ℕ, suc, ◌-◌, ◌<◌, ◌≤◌, Bool, true, false, cond, ◌||◌, eqb, leb, List, [], ◌∷◌, get_or, set, Some, None, Option, sym, refl, ap, ◌∙◌, arith}
use Rattle.std.proofs.lemmas.Bool.{cond_both, eq-eqb, ne_eqb, and_parts, leb-true}
use Rattle.std.specs.List.{AllByRecursion}
use Rattle.terms.specs.declared.refusal.Refusal.TheVariants.{BadCut}
use Rattle.queue.specs.Held.{Ordered, Sorted, Apart, first, place, any, is, remove, change, cutting, cuttable, uncut}
use Rattle.queue.specs.Rank.{Rank, OnlyLots}
use Rattle.queue.proofs.Inserts.{all_map}

module _ {E : Type 0} (p : E → Bool) where
  module _ (f : E → E) where
    pub change-at : (xs : List E) (d : E) → change p f xs ≡ set xs (place p xs) (f (get_or xs (place p xs) d))
    change-at [] d = refl
    change-at (x ∷ xs) d =
        let r = change-at xs d in
        elim (p x) as (λ t. cond t (f x ∷ xs) (x ∷ change p f xs) ≡ set (x ∷ xs) (cond t 0 (suc (place p xs))) (f (get_or (x ∷ xs) (cond t 0 (suc (place p xs))) d)))
        [ true ↦ refl | false ↦ ap (λ ys. x ∷ ys) r ]

    all-change : (P : E → Type 0) → ((x : E) → P x → P (f x)) → (xs : List E) → AllByRecursion P xs → AllByRecursion P (change p f xs)
    all-change P k [] h = tt
    all-change P k (x ∷ xs) h = cond_both (p x) _ _ (AllByRecursion P) (λ _. (k x h.0, h.1)) (λ _. (h.0, all-change P k xs h.1))

    any-change : (q : E → Bool) → ((x : E) → q (f x) ≡ q x) → (xs : List E) → any q (change p f xs) ≡ any q xs
    any-change q k [] = refl
    any-change q k (x ∷ xs) =
        cond_both (p x) _ _ (λ ys. any q ys ≡ any q (x ∷ xs)) (λ _. ap (λ b. b || any q xs) (k x)) (λ _. ap (λ b. q x || b) (any-change q k xs))

    apart_change : (n : E → ℕ) → ((x : E) → n (f x) ≡ n x) → (xs : List E) → Apart n xs → Apart n (change p f xs)
    apart_change n k [] h = tt
    apart_change n k (x ∷ xs) h =
        cond_both (p x) _ _ (Apart n)
        (λ _. (ap (λ m. any (is n m) xs) (k x) ∙ h.0, h.1))
        (λ _. (any-change (is n (n x)) (λ y. ap (λ m. eqb m (n x)) (k y)) xs ∙ h.0, apart_change n k xs h.1))

    sorted_change : (b : E → E → Bool) → ((x y : E) → b (f x) y ≡ b x y) → ((x y : E) → b y (f x) ≡ b y x) → (xs : List E) → Sorted b xs → Sorted b (change p f xs)
    sorted_change b k l [] h = tt
    sorted_change b k l (x ∷ xs) h =
        cond_both (p x) _ _ (Sorted b)
        (λ _. (all_map (λ y t. k x y ∙ t) xs h.0, h.1))
        (λ _. (all-change (λ y. b x y ≡ true) (λ y t. l y x ∙ t) xs h.0, sorted_change b k l xs h.1))

  module _ (r : Rank E) (n : ℕ) where
    -- where all lots of the element that is found go, it goes
    pub cutting-all : (xs : List E) (e : E) → first p xs ≡ Some e → r.lots e ≡ n → cutting r p n xs ≡ remove p xs
    cutting-all [] e h q = refl
    cutting-all (x ∷ xs) e h q = go (p x) (cutting-all xs e) h
      where
        go : (t : Bool) → (first p xs ≡ Some e → r.lots e ≡ n → cutting r p n xs ≡ remove p xs) → cond t (Some x) (first p xs) ≡ Some e → cond t (cond (eqb (r.lots x) n) xs (r.with_lots x (r.lots x - n) ∷ xs)) (x ∷ cutting r p n xs) ≡ cond t xs (x ∷ remove p xs)
        go true f k = let s : x ≡ e = cc in rw (eq-eqb (r.lots x) n (ap r.lots s ∙ q))
        go false f k = ap (λ ys. x ∷ ys) (f k q)

    -- else it has what is left
    pub cutting_some : (xs : List E) (e : E) → first p xs ≡ Some e → (r.lots e ≡ n → ⊥) → cutting r p n xs ≡ change p (λ x. r.with_lots x (r.lots e - n)) xs
    cutting_some [] e h q = refl
    cutting_some (x ∷ xs) e h q = go (p x) (cutting_some xs e) h
      where
        go : (t : Bool) → (first p xs ≡ Some e → (r.lots e ≡ n → ⊥) → cutting r p n xs ≡ change p (λ y. r.with_lots y (r.lots e - n)) xs) → cond t (Some x) (first p xs) ≡ Some e → cond t (cond (eqb (r.lots x) n) xs (r.with_lots x (r.lots x - n) ∷ xs)) (x ∷ cutting r p n xs) ≡ cond t (r.with_lots x (r.lots e - n) ∷ xs) (x ∷ change p (λ y. r.with_lots y (r.lots e - n)) xs)
        go true f k = let s : x ≡ e = cc in rw (ne_eqb (r.lots x) n (λ z. q (ap r.lots (sym s) ∙ z)), s)
        go false f k = ap (λ ys. x ∷ ys) (f k q)

  pub ordered-change : (r : Rank E) → ((x : E) (m : ℕ) → OnlyLots r x m) → (m : ℕ) → 0 < m → (xs : List E) → Ordered r xs → Ordered r (change p (λ x. r.with_lots x m) xs)
  ordered-change r only m l xs h =
      let f : E → E = λ x. r.with_lots x m in
      record {
        sorted = sorted_change f r.before (λ x y. (only x m).before y) (λ x y. (only x m).after y) xs h.sorted;
        numbers = apart_change f r.number (λ x. (only x m).number) xs h.numbers;
        keys = apart_change f r.key (λ x. (only x m).key) xs h.keys;
        some = all-change f (λ x. 0 < r.lots x) (λ x _. omega (arith, (only x m).lots)) xs h.some;
      }

-- what a cut of the element that was found answers
pub cut_refused : {E : Type 0} (r : Rank E) (n : ℕ) (o : Option E) (e : E) → o ≡ Some e → cuttable r n e ≡ false → uncut r n o ≡ Some BadCut
cut_refused r n o e f h = ap (uncut r n) f ∙ ap (λ t. cond t None (Some BadCut)) h

pub cut_allowed : {E : Type 0} (r : Rank E) (n : ℕ) (o : Option E) (e : E) → o ≡ Some e → cuttable r n e ≡ true → uncut r n o ≡ None
cut_allowed r n o e f h = ap (uncut r n) f ∙ ap (λ t. cond t None (Some BadCut)) h

-- no more lots are cut than there are, and some are left where not all are cut
pub cut_within : {E : Type 0} (r : Rank E) (n : ℕ) (e : E) → cuttable r n e ≡ true → n ≤ r.lots e
cut_within r n e h = leb-true n (r.lots e) (and_parts (leb 1 n) (leb n (r.lots e)) h).1
