-- What may be put into a sound queue leaves it sound.
use Rattle.std.proofs.Common.{◌≡◌, ℕ, ◌<◌, ◌≤◌, true, false, ◌||◌, eqb, List, length, Some, None, Option, refl, arith}
use Rattle.std.proofs.lemmas.Bool.{ne_eqb, lt-leb, le-leb}
use Rattle.terms.specs.declared.refusal.Refusal.{Refusal}
use Rattle.terms.specs.declared.refusal.Refusal.TheVariants.{QueueFull, AlreadyHeld}
use Rattle.queue.specs.Held.{Held, Ordered, any, is, clash, insert, barred, unless}
use Rattle.queue.specs.Rank.{Rank, ExactlyOne}
use Rattle.queue.proofs.Inserts.{any_or, all_insert, apart_insert, sorted_insert}

pub held_same : {E : Type 0} (m n : ℕ) (xs ys : List E) → m ≡ n → xs ≡ ys → ◌≡◌ {A = Held E} (record { capacity = m; elements = xs }) (record { capacity = n; elements = ys })
held_same m n xs ys p q = λ i. record { capacity = p i; elements = q i }

-- a call leaves the capacity
pub unless_capacity : {E : Type 0} (o : Option Refusal) (h : Held E) (es : List E) → (unless o h es).capacity ≡ h.capacity
unless_capacity None h es = refl
unless_capacity (Some e) h es = refl

module _ {E : Type 0} (r : Rank E) (h : Held E) (e : E) where
  pub unbarred : length h.elements < h.capacity → (r.lots e ≡ 0 → ⊥) → any (clash r e) h.elements ≡ false → barred r h e ≡ None
  unbarred room some clear = rw (lt-leb h.capacity (length h.elements) room, ne_eqb (r.lots e) 0 some, clear)

  pub barred-full : h.capacity ≤ length h.elements → barred r h e ≡ Some QueueFull
  barred-full full = rw (le-leb h.capacity (length h.elements) full)

  pub barred_held : length h.elements < h.capacity → (eqb (r.lots e) 0 || any (clash r e) h.elements) ≡ true → barred r h e ≡ Some AlreadyHeld
  barred_held room t = rw (lt-leb h.capacity (length h.elements) room, t)

module _
    {E : Type 0} (r : Rank E)
    (transitive : (x y z : E) → r.before x y ≡ true → r.before y z ≡ true → r.before x z ≡ true)
    (connected : (x y : E) → (r.key x ≡ r.key y → ⊥) → ExactlyOne (r.before x y) (r.before y x))
  where
    pub ordered-insert : (xs : List E) (e : E) → (r.lots e ≡ 0 → ⊥) → any (clash r e) xs ≡ false → Ordered r xs → Ordered r (insert r.before e xs)
    ordered-insert xs e l c h =
        let a = any_or (is r.number (r.number e)) (is r.key (r.key e)) xs c in
        record {
          sorted = sorted_insert r.before e transitive r.key connected xs a.1 h.sorted;
          numbers = apart_insert r.before e r.number xs a.0 h.numbers;
          keys = apart_insert r.before e r.key xs a.1 h.keys;
          some = all_insert r.before e (λ x. 0 < r.lots x) xs (omega arith) h.some;
        }
