-- What a queue holds whose elements stand in the first places of a table, in some arrangement.
--   order       the elements of the first places in rank order
--   Kept        what the arrangement keeps of them
use Rattle.std.specs.Prelude.{◌≡◌, ℕ, List, length, take}
use Rattle.queue.specs.Held.{Held, Sorted, Apart, Sound}
use Rattle.queue.specs.Rank.{Rank}

-- what a table holds in its first n places
abbrev pub held_in : {E : Type 0} → (List E → List E) → ℕ → List E → Held E
held_in order n t = record { capacity = length t; elements = order (take n t) }

-- what a lawful queue keeps: what it holds is sound, and its elements stand as they should
pub record Lawful {E : Type 0} (r : Rank E) (order : List E → List E) (Kept : List E → Type 0) (n : ℕ) (t : List E) : Type 0 where
  pub sound : Sound r (held_in order n t)
  pub kept : Kept (take n t)

-- how the elements of a lawful queue stand: in the arrangement, no number and no key twice
pub record Stands {E : Type 0} (r : Rank E) (order : List E → List E) (Kept : List E → Type 0) (xs : List E) : Type 0 where
  pub sorted : Sorted r.before (order xs)
  pub numbers : Apart r.number xs
  pub keys : Apart r.key xs
  pub kept : Kept xs

-- xs stand in the arrangement, and are es in rank order
pub record Arranges {E : Type 0} (order : List E → List E) (Kept : List E → Type 0) (xs es : List E) : Type 0 where
  pub held : order xs ≡ es
  pub kept : Kept xs
