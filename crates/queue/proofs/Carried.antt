-- What a map that keeps number, key, lots and rank does to what a queue holds.
use Rattle.std.proofs.Common.{◌≡◌, ℕ, suc, ◌-◌, ◌<◌, ◌≤◌, Bool, true, false, cond, eqb, List, [], ◌∷◌, map, length, Some, None, Option, sym, refl, ap, ◌∙◌, subst}
use Rattle.std.specs.List.{AllByRecursion}
use Rattle.terms.specs.declared.refusal.Refusal.{Refusal}
use Rattle.queue.specs.Held.{Held, Sorted, Apart, Sound, first, any, insert, remove, is, clash, excepted, takes, barred, uncut, unless, cutting, numbered, after_put, after_cut, after_take}
use Rattle.queue.specs.Carries.{Carries, map_some, map_held}
use Rattle.queue.specs.Rank.{Rank}

pub map-length : {E F : Type 0} (f : E → F) (xs : List E) → length (map f xs) ≡ length xs
map-length f [] = refl
map-length f (x ∷ xs) = ap suc (map-length f xs)

module _ {E F : Type 0} (f : E → F) (r : Rank E) (q : Rank F) (c : Carries f r q) where
  same_number : (n : ℕ) (x : E) → is q.number n (f x) ≡ is r.number n x
  same_number n x = ap (λ k. eqb k n) (c.number x)

  pub map_first : (n : ℕ) (xs : List E) → first (is q.number n) (map f xs) ≡ map_some f (first (is r.number n) xs)
  map_first n [] = refl
  map_first n (x ∷ xs) = rw (same_number n x) (go (is r.number n x) (map_first n xs))
    where
      go : (t : Bool) → first (is q.number n) (map f xs) ≡ map_some f (first (is r.number n) xs) → cond t (Some (f x)) (first (is q.number n) (map f xs)) ≡ map_some f (cond t (Some x) (first (is r.number n) xs))
      go true i = refl
      go false i = i

  pub map-remove : (n : ℕ) (xs : List E) → map f (remove (is r.number n) xs) ≡ remove (is q.number n) (map f xs)
  map-remove n [] = refl
  map-remove n (x ∷ xs) = rw (same_number n x) (go (is r.number n x) (map-remove n xs))
    where
      go : (t : Bool) → map f (remove (is r.number n) xs) ≡ remove (is q.number n) (map f xs) → map f (cond t xs (x ∷ remove (is r.number n) xs)) ≡ cond t (map f xs) (f x ∷ remove (is q.number n) (map f xs))
      go true i = refl
      go false i = ap (λ ys. f x ∷ ys) i

  pub map-insert : (e : E) (xs : List E) → map f (insert r.before e xs) ≡ insert q.before (f e) (map f xs)
  map-insert e [] = refl
  map-insert e (x ∷ xs) = rw (c.before e x) (go (r.before e x) (map-insert e xs))
    where
      go : (t : Bool) → map f (insert r.before e xs) ≡ insert q.before (f e) (map f xs) → map f (cond t (e ∷ (x ∷ xs)) (x ∷ insert r.before e xs)) ≡ cond t (f e ∷ (f x ∷ map f xs)) (f x ∷ insert q.before (f e) (map f xs))
      go true i = refl
      go false i = ap (λ ys. f x ∷ ys) i

  pub map-cutting : (n k : ℕ) (xs : List E) → map f (cutting r (is r.number n) k xs) ≡ cutting q (is q.number n) k (map f xs)
  map-cutting n k [] = refl
  map-cutting n k (x ∷ xs) = rw (same_number n x, c.lots x, sym (c.with_lots x (r.lots x - k))) (go (is r.number n x) (eqb (r.lots x) k) (map-cutting n k xs))
    where
      go : (t u : Bool) → map f (cutting r (is r.number n) k xs) ≡ cutting q (is q.number n) k (map f xs) → map f (cond t (cond u xs (r.with_lots x (r.lots x - k) ∷ xs)) (x ∷ cutting r (is r.number n) k xs)) ≡ cond t (cond u (map f xs) (f (r.with_lots x (r.lots x - k)) ∷ map f xs)) (f x ∷ cutting q (is q.number n) k (map f xs))
      go true true i = refl
      go true false i = refl
      go false u i = ap (λ ys. f x ∷ ys) i

  same_excepted : (o : Option ℕ) (x : E) → excepted q o (f x) ≡ excepted r o x
  same_excepted None x = refl
  same_excepted (Some m) x = ap (λ k. eqb k m) (c.number x)

  pub map-takes : (n : ℕ) (o : Option ℕ) (xs : List E) → any (takes q n o) (map f xs) ≡ any (takes r n o) xs
  map-takes n o [] = refl
  map-takes n o (x ∷ xs) = rw (same_excepted o x, c.number x, c.key x, map-takes n o xs) refl

  map-clash : (e : E) (xs : List E) → any (clash q (f e)) (map f xs) ≡ any (clash r e) xs
  map-clash e [] = refl
  map-clash e (x ∷ xs) = rw (c.number x, c.key x, c.number e, c.key e, map-clash e xs) refl

  pub map-barred : (h : Held E) (e : E) → barred q (map_held f h) (f e) ≡ barred r h e
  map-barred h e = rw (map-length f h.elements, c.lots e, map-clash e h.elements) refl

  pub map-put : (h : Held E) (e : E) → map_held f (after_put r h e) ≡ after_put q (map_held f h) (f e)
  map-put h e = rw (map-barred h e) (go (barred r h e))
    where
      go : (o : Option Refusal) → map_held f (unless o h (insert r.before e h.elements)) ≡ unless o (map_held f h) (insert q.before (f e) (map f h.elements))
      go None = λ i. record { capacity = h.capacity; elements = map-insert e h.elements i }
      go (Some x) = refl

  same_uncut : (k : ℕ) (o : Option E) → uncut q k (map_some f o) ≡ uncut r k o
  same_uncut k None = refl
  same_uncut k (Some x) = rw (c.lots x) refl

  pub map_cut : (h : Held E) (n k : ℕ) → map_held f (after_cut r h n k) ≡ after_cut q (map_held f h) n k
  map_cut h n k = rw (map_first n h.elements, same_uncut k (numbered r h n)) (go (uncut r k (numbered r h n)))
    where
      go : (o : Option Refusal) → map_held f (unless o h (cutting r (is r.number n) k h.elements)) ≡ unless o (map_held f h) (cutting q (is q.number n) k (map f h.elements))
      go None = λ i. record { capacity = h.capacity; elements = map-cutting n k h.elements i }
      go (Some x) = refl

  pub map-take : (h : Held E) (n : ℕ) → map_held f (after_take r h n) ≡ after_take q (map_held f h) n
  map-take h n = λ i. record { capacity = h.capacity; elements = map-remove n h.elements i }

  map-all : (P : E → Type 0) (Q : F → Type 0) → ((x : E) → P x → Q (f x)) → (xs : List E) → AllByRecursion P xs → AllByRecursion Q (map f xs)
  map-all P Q g [] a = tt
  map-all P Q g (x ∷ xs) a = (g x a.0, map-all P Q g xs a.1)

  map_sorted : (xs : List E) → Sorted r.before xs → Sorted q.before (map f xs)
  map_sorted [] a = tt
  map_sorted (x ∷ xs) a = (map-all (λ y. r.before x y ≡ true) (λ y. q.before (f x) y ≡ true) (λ y h. c.before x y ∙ h) xs a.0, map_sorted xs a.1)

  map-any : (m : E → ℕ) (n : F → ℕ) → ((x : E) → n (f x) ≡ m x) → (k : ℕ) (xs : List E) → any (is n k) (map f xs) ≡ any (is m k) xs
  map-any m n e k [] = refl
  map-any m n e k (x ∷ xs) = rw (e x, map-any m n e k xs) refl

  map_apart : (m : E → ℕ) (n : F → ℕ) → ((x : E) → n (f x) ≡ m x) → (xs : List E) → Apart m xs → Apart n (map f xs)
  map_apart m n e [] a = tt
  map_apart m n e (x ∷ xs) a = (map-any m n e (n (f x)) xs ∙ ap (λ k. any (is m k) xs) (e x) ∙ a.0, map_apart m n e xs a.1)

  pub map_sound : (h : Held E) → Sound r h → Sound q (map_held f h)
  map_sound h s =
      record {
        elements = record {
          sorted = map_sorted h.elements s.elements.sorted;
          numbers = map_apart r.number q.number c.number h.elements s.elements.numbers;
          keys = map_apart r.key q.key c.key h.elements s.elements.keys;
          some = map-all (λ x. 0 < r.lots x) (λ x. 0 < q.lots x) (λ x p. subst (λ k. 0 < k) (sym (c.lots x)) p) h.elements s.elements.some;
        };
        fits = subst (λ k. k ≤ h.capacity) (sym (map-length f h.elements)) s.fits;
      }
