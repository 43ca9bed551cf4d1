-- The first in rank of the elements that pass a test.
use Rattle.std.proofs.Common.{◌≡◌, ℕ, Bool, true, false, cond, not, eqb, List, [], ◌∷◌, filter, Some, sym, refl, ap, ◌∙◌}
use Rattle.std.proofs.lemmas.Bool.{cond_both, both_ways, or_parts, or_from, eqb-false}
use Rattle.std.specs.List.{AllByRecursion, fold, reduce}
use Rattle.queue.proofs.Inserts.{all_map, other}
use Rattle.queue.specs.Held.{Sorted, Apart, any, is, insert, first, head}
use Rattle.queue.specs.Rank.{ExactlyOne}
use Rattle.queue.specs.Through.{swap}
use Rattle.heap_queue.specs.Heaps.{ranked}
use Rattle.heap_queue.specs.Laws.{insert_front}
use Rattle.heap_queue.proofs.Perms.{ranked_perm}
use Rattle.heap_queue.proofs.Ranks.{sorted_ranked}

-- what `filter` keeps
module _ {E : Type 0} (q : E → Bool) where
  all_filter : (P : E → Type 0) (xs : List E) → AllByRecursion P xs → AllByRecursion P (filter q xs)
  all_filter P [] h = tt
  all_filter P (x ∷ xs) h = cond_both (q x) _ _ (AllByRecursion P) (λ _. (h.0, all_filter P xs h.1)) (λ _. all_filter P xs h.1)

  any-filter : (p : E → Bool) (xs : List E) → any p xs ≡ false → any p (filter q xs) ≡ false
  any-filter p [] h = refl
  any-filter p (x ∷ xs) h =
      let a = or_parts (p x) (any p xs) h in
      let r = any-filter p xs a.1 in
      cond_both (q x) _ _ (λ ys. any p ys ≡ false) (λ _. or_from (p x) _ a.0 r) (λ _. r)

  apart_filter : (f : E → ℕ) (xs : List E) → Apart f xs → Apart f (filter q xs)
  apart_filter f [] a = tt
  apart_filter f (x ∷ xs) a = cond_both (q x) _ _ (Apart f) (λ _. (any-filter (is f (f x)) xs a.0, apart_filter f xs a.1)) (λ _. apart_filter f xs a.1)

  first-filter : (xs : List E) → first q xs ≡ head (filter q xs)
  first-filter [] = refl
  first-filter (x ∷ xs) = elim (q x) as (λ t. cond t (Some x) (first q xs) ≡ head (cond t (x ∷ filter q xs) (filter q xs))) [ true ↦ refl | false ↦ first-filter xs ]

module _
    {E : Type 0} (b : E → E → Bool)
    (transitive : (x y z : E) → b x y ≡ true → b y z ≡ true → b x z ≡ true)
    (key : E → ℕ)
    (connected : (x y : E) → (key x ≡ key y → ⊥) → ExactlyOne (b x y) (b y x))
  where
    filter_no : (q : E → Bool) (x : E) (ys : List E) → q x ≡ false → filter q (insert b x ys) ≡ filter q ys
    filter_no q x [] h = rw h
    filter_no q x (y ∷ ys) h =
        let r = filter_no q x ys h in
        cond_both (b x y) _ _ (λ zs. filter q zs ≡ filter q (y ∷ ys)) (λ _. rw h) (λ _. ap (λ zs. cond (q y) (y ∷ zs) zs) r)

    filter_yes : (q : E → Bool) (x : E) (ys : List E) → q x ≡ true → Sorted b ys → filter q (insert b x ys) ≡ insert b x (filter q ys)
    filter_yes q x [] h s = rw h
    filter_yes q x (y ∷ ys) h s =
        go (b x y) refl (q y) refl (filter_yes q x ys h s.1)
        (λ t. insert_front b x (filter q (y ∷ ys)) (all_filter q (λ z. b x z ≡ true) (y ∷ ys) (t, all_map (λ z u. transitive x y z t u) ys s.0)))
      where
        go : (u : Bool) → b x y ≡ u → (t : Bool) → q y ≡ t → filter q (insert b x ys) ≡ insert b x (filter q ys) → (b x y ≡ true → insert b x (filter q (y ∷ ys)) ≡ x ∷ filter q (y ∷ ys)) → filter q (insert b x (y ∷ ys)) ≡ insert b x (filter q (y ∷ ys))
        go true u t v r f = (rw (u, h)) ∙ sym (f u)
        go false u true v r f = simp (u, v) (ap (λ zs. y ∷ zs) r)
        go false u false v r f = simp (u, v) r

    filter-ranked : (q : E → Bool) (xs : List E) → Apart key xs → filter q (ranked b xs) ≡ ranked b (filter q xs)
    filter-ranked q [] a = refl
    filter-ranked q (x ∷ xs) a =
        go (q x) refl (filter-ranked q xs a.1)
      where
        go : (t : Bool) → q x ≡ t → filter q (ranked b xs) ≡ ranked b (filter q xs) → filter q (insert b x (ranked b xs)) ≡ ranked b (cond t (x ∷ filter q xs) (filter q xs))
        go true t r = filter_yes q x (ranked b xs) t (sorted_ranked b transitive key connected xs a.1) ∙ ap (insert b x) r
        go false t r = filter_no q x (ranked b xs) t ∙ r

    -- who ranks after x does not come first beside x
    passed : (x y : E) (zs : List E) → b x y ≡ true → head (insert b x (insert b y zs)) ≡ head (insert b x zs)
    passed x y [] h = rw h
    passed x y (z ∷ zs) h = go (b y z) refl (b x z) refl
      where
        go : (s : Bool) → b y z ≡ s → (t : Bool) → b x z ≡ t → head (insert b x (insert b y (z ∷ zs))) ≡ head (insert b x (z ∷ zs))
        go true p true q = simp (p, q, h)
        go true p false q = absurd (both_ways (b x z) q (transitive x y z h p))
        go false p true q = simp (p, q)
        go false p false q = simp (p, q)

    best_of : (x : E) (ys : List E) → Apart key (x ∷ ys) → Some (fold (λ g f. cond (b g f) g f) x ys) ≡ head (ranked b (x ∷ ys))
    best_of x [] a = refl
    best_of x (y ∷ ys) a =
        let o = or_parts (eqb (key y) (key x)) _ a.0 in
        let turned = other (b x y) (b y x) (connected x y (λ e. eqb-false _ _ o.0 (sym e))) in
        go (b x y) refl (λ t. turned ∙ ap not t) (best_of x ys (o.1, a.1.1)) (best_of y ys a.1)
        (ap head (ranked_perm b transitive key connected (swap x y ys) a))
      where
        go :
            (t : Bool) → b x y ≡ t → (b x y ≡ false → b y x ≡ true) → Some (fold (λ g f. cond (b g f) g f) x ys) ≡ head (ranked b (x ∷ ys)) → Some (fold (λ g f. cond (b g f) g f) y ys) ≡ head (ranked b (y ∷ ys)) → head (ranked b (x ∷ (y ∷ ys))) ≡ head (ranked b (y ∷ (x ∷ ys)))
            → Some (fold (λ g f. cond (b g f) g f) (cond t x y) ys) ≡ head (ranked b (x ∷ (y ∷ ys)))
        go true t c p q s = p ∙ sym (passed x y (ranked b ys) t)
        go false t c p q s = q ∙ sym (passed y x (ranked b ys) (c t)) ∙ sym s

    best_is : (ys : List E) → Apart key ys → reduce (λ g f. cond (b g f) g f) ys ≡ head (ranked b ys)
    best_is [] a = refl
    best_is (y ∷ ys) a = best_of y ys a

    pub best_first : (q : E → Bool) (xs : List E) → Apart key xs → reduce (λ g f. cond (b g f) g f) (filter q xs) ≡ first q (ranked b xs)
    best_first q xs a = best_is (filter q xs) (apart_filter q key xs a) ∙ ap head (sym (filter-ranked q xs a)) ∙ sym (first-filter q (ranked b xs))
