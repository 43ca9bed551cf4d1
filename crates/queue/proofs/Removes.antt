-- `remove`: where it takes out, and what it keeps.
use Rattle.std.proofs.Common.{◌≡◌, ℕ, suc, ◌<◌, Bool, true, false, cond, List, [], ◌∷◌, Some, None, refl, ap}
use Rattle.std.proofs.lemmas.Bool.{cond_both, or_parts, or_from}
use Rattle.std.specs.List.{remove as removed, AllByRecursion}
use Rattle.queue.specs.Held.{Ordered, Sorted, Apart, first, place, any, is, remove}
use Rattle.queue.specs.Rank.{Rank}

module _ {E : Type 0} (p : E → Bool) where
  -- where none passes, `removed` at the length takes out nothing
  pub remove-at : (xs : List E) → remove p xs ≡ removed xs (place p xs)
  remove-at [] = refl
  remove-at (x ∷ xs) =
      let r = remove-at xs in
      elim (p x) as (λ t. cond t xs (x ∷ remove p xs) ≡ removed (x ∷ xs) (cond t 0 (suc (place p xs)))) [ true ↦ refl | false ↦ ap (λ ys. x ∷ ys) r ]

  pub remove_missed : (xs : List E) → first p xs ≡ None → remove p xs ≡ xs
  remove_missed [] h = refl
  remove_missed (x ∷ xs) h = go (p x) (remove_missed xs) h
    where
      go : (b : Bool) → (first p xs ≡ None → remove p xs ≡ xs) → cond b (Some x) (first p xs) ≡ None → cond b xs (x ∷ remove p xs) ≡ x ∷ xs
      go true f l = cc
      go false f l = ap (λ ys. x ∷ ys) (f l)

  pub all_remove : (P : E → Type 0) (xs : List E) → AllByRecursion P xs → AllByRecursion P (remove p xs)
  all_remove P [] h = tt
  all_remove P (x ∷ xs) h = cond_both (p x) _ _ (AllByRecursion P) (λ _. h.1) (λ _. (h.0, all_remove P xs h.1))

  any-remove : (q : E → Bool) (xs : List E) → any q xs ≡ false → any q (remove p xs) ≡ false
  any-remove q [] h = refl
  any-remove q (x ∷ xs) h =
      let a = or_parts (q x) (any q xs) h in
      cond_both (p x) _ _ (λ ys. any q ys ≡ false) (λ _. a.1) (λ _. or_from (q x) _ a.0 (any-remove q xs a.1))

  apart_remove : (f : E → ℕ) (xs : List E) → Apart f xs → Apart f (remove p xs)
  apart_remove f [] h = tt
  apart_remove f (x ∷ xs) h = cond_both (p x) _ _ (Apart f) (λ _. h.1) (λ _. (any-remove (is f (f x)) xs h.0, apart_remove f xs h.1))

  sorted_remove : (b : E → E → Bool) (xs : List E) → Sorted b xs → Sorted b (remove p xs)
  sorted_remove b [] h = tt
  sorted_remove b (x ∷ xs) h = cond_both (p x) _ _ (Sorted b) (λ _. h.1) (λ _. (all_remove (λ y. b x y ≡ true) xs h.0, sorted_remove b xs h.1))

  pub ordered-remove : (r : Rank E) (xs : List E) → Ordered r xs → Ordered r (remove p xs)
  ordered-remove r xs h =
      record {
        sorted = sorted_remove r.before xs h.sorted;
        numbers = apart_remove r.number xs h.numbers;
        keys = apart_remove r.key xs h.keys;
        some = all_remove (λ x. 0 < r.lots x) xs h.some;
      }
