-- Elements of one kind seen as elements of another.
use Rattle.std.specs.Prelude.{◌≡◌, ℕ, map, Some, None, Option}
use Rattle.queue.specs.Held.{Held}
use Rattle.queue.specs.Rank.{Rank}

-- f takes elements to others with the same number, key, lots and rank
pub record Carries {E F : Type 0} (f : E → F) (r : Rank E) (q : Rank F) : Type 0 where
  pub number : (x : E) → q.number (f x) ≡ r.number x
  pub key : (x : E) → q.key (f x) ≡ r.key x
  pub lots : (x : E) → q.lots (f x) ≡ r.lots x
  pub before : (x y : E) → q.before (f x) (f y) ≡ r.before x y
  pub with_lots : (x : E) (n : ℕ) → f (r.with_lots x n) ≡ q.with_lots (f x) n

-- an element that was found, and what is held, so seen
abbrev pub map_some : {E F : Type 0} → (E → F) → Option E → Option F
map_some f None = None
map_some f (Some x) = Some (f x)

abbrev pub map_held : {E F : Type 0} → (E → F) → Held E → Held F
map_held f h = record { capacity = h.capacity; elements = map f h.elements }
