-- Looking through a list by a test: the library's words, and what a search in a table's front says.
use Rattle.std.proofs.Common.{◌≡◌, ℕ, suc, ◌+◌, ◌<◌, ◌≤◌, Bool, true, false, cond, ◌||◌, ltb, List, [], ◌∷◌, length, get_or, take, drop, Some, None, sym, refl, ap, ◌∙◌, le_of_suc-le-suc, not-suc-le-zero, arith, length-take}
use Rattle.std.proofs.lemmas.Bool.{ltb-true, ltb-false}
use Rattle.std.proofs.lemmas.List.{drop_more, length-take-le, get_or-take}
use Rattle.std.proofs.lemmas.List.Recursion.{is_position_or_len}
use Rattle.std.specs.List.{list_any, find, position, position_or_len}
use Rattle.queue.specs.Held.{first, place, any}

-- what an element that was read leaves of the list
pub rest : {E : Type 0} (xs : List E) (i : ℕ) (x : E) → i < length xs → x ≡ get_or xs i x → drop i xs ≡ x ∷ drop (i + 1) xs
rest xs i x h r = drop_more xs i x h ∙ ap (λ y. y ∷ drop (i + 1) xs) (sym r)

module _ {E : Type 0} (p : E → Bool) where
  pub any_is : (xs : List E) → list_any p xs ≡ any p xs
  any_is [] = refl
  any_is (x ∷ xs) = ap (λ b. p x || b) (any_is xs)

  pub first_is : (xs : List E) → find p xs ≡ first p xs
  first_is [] = refl
  first_is (x ∷ xs) = ap (cond (p x) (Some x)) (first_is xs)

  place_is : (xs : List E) → place p xs ≡ position_or_len p xs
  place_is xs = is_position_or_len (place p) p refl (λ x ys. let one : suc (place p ys) ≡ 1 + place p ys = omega arith in ap (cond (p x) 0) one) xs

  pub position_some : (xs : List E) (i : ℕ) → Some i ≡ position p xs → (i ≡ place p xs) × (i < length xs)
  position_some xs i h = go (ltb (position_or_len p xs) (length xs)) refl h
    where
      go : (t : Bool) → ltb (position_or_len p xs) (length xs) ≡ t → Some i ≡ cond t (Some (position_or_len p xs)) None → (i ≡ place p xs) × (i < length xs)
      go true q e =
          let s : i ≡ position_or_len p xs = cc in
          let l = ltb-true (position_or_len p xs) (length xs) q in
          (s ∙ sym (place_is xs), omega arith)
      go false q e = cc

  pub position_none : (xs : List E) → None ≡ position p xs → length xs ≤ place p xs
  position_none xs h = go (ltb (position_or_len p xs) (length xs)) refl h
    where
      go : (t : Bool) → ltb (position_or_len p xs) (length xs) ≡ t → None ≡ cond t (Some (position_or_len p xs)) None → length xs ≤ place p xs
      go true q e = cc
      go false q e =
          let l = ltb-false (position_or_len p xs) (length xs) q in
          let s = place_is xs in
          omega arith

  first_none : (xs : List E) → length xs ≤ place p xs → first p xs ≡ None
  first_none [] h = refl
  first_none (x ∷ xs) h = go (p x) (first_none xs) h
    where
      go : (b : Bool) → (length xs ≤ place p xs → first p xs ≡ None) → suc (length xs) ≤ cond b 0 (suc (place p xs)) → cond b (Some x) (first p xs) ≡ None
      go true f l = absurd (not-suc-le-zero l)
      go false f l = f (le_of_suc-le-suc l)

  first-at : (xs : List E) (y : E) → place p xs < length xs → first p xs ≡ Some (get_or xs (place p xs) y)
  first-at [] y h = absurd (not-suc-le-zero h)
  first-at (x ∷ xs) y h = go (p x) (first-at xs y) h
    where
      go : (b : Bool) → (place p xs < length xs → first p xs ≡ Some (get_or xs (place p xs) y)) → cond b 0 (suc (place p xs)) < suc (length xs) → cond b (Some x) (first p xs) ≡ Some (get_or (x ∷ xs) (cond b 0 (suc (place p xs))) y)
      go true f l = refl
      go false f l = f (le_of_suc-le-suc l)

  -- a search for a place in the first n of ys
  module _ (ys : List E) (n : ℕ) (fits : n ≤ length ys) where
    pub front_missed : None ≡ position p (take n ys) → first p (take n ys) ≡ None
    front_missed h = first_none (take n ys) (position_none (take n ys) h)

    module _ (i : ℕ) (found : Some i ≡ position p (take n ys)) where
      pub front_place : i ≡ place p (take n ys)
      front_place = (position_some (take n ys) i found).0

      pub front_less : i < n
      front_less =
          let l = length-take-le n ys fits in
          let h = (position_some (take n ys) i found).1 in
          omega arith

      pub front_at : (d : E) → get_or (take n ys) (place p (take n ys)) d ≡ get_or ys i d
      front_at d = ap (λ k. get_or (take n ys) k d) (sym front_place) ∙ get_or-take n ys i d front_less

      pub front_first : (d : E) → first p (take n ys) ≡ Some (get_or ys i d)
      front_first d = first-at (take n ys) d (let s = position_some (take n ys) i found in omega arith) ∙ ap Some (front_at d)

pub front_fits : {E : Type 0} (n : ℕ) (xs : List E) → length (take n xs) ≤ length xs
front_fits n xs = omega (arith, length-take n xs)
