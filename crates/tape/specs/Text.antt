-- Text that is written into a buffer from a place on.
use Rattle.std.specs.Prelude.{◌≡◌, ℕ, ◌+◌, ◌<◌, Bool, cond, List, ◌++◌, length, take, drop, Some, None, Option, nat_le, slice_index}
use Rattle.std.specs.Str.Parse.{IsNumeral, digits_value}
use Rattle.std.specs.List.{between}

-- the text ends inside the buffer
abbrev pub has_room : List ℕ → ℕ → List ℕ → Bool
has_room out at text = nat_le (at + length text) (length out)

-- the buffer with the text at this place, all other bytes as they were
abbrev pub put : List ℕ → ℕ → List ℕ → List ℕ
put out at text = take at out ++ (text ++ drop (at + length text) out)

-- the place behind the text, if there is room
abbrev pub ended : List ℕ → ℕ → List ℕ → Option ℕ
ended out at text = cond (has_room out at text) (Some (at + length text)) None

-- the buffer after a text that is written whole or not at all
abbrev pub written : List ℕ → ℕ → List ℕ → List ℕ
written out at text = cond (has_room out at text) (put out at text) out

-- the bytes from `at` to `end` are n in decimal, with no leading zero, and the others are as they were
pub record Spelled (n at end : ℕ) (out out' : List ℕ) : Type 0 where
  pub digits : IsNumeral 10 (between at end out')
  pub reads : digits_value 10 (between at end out') ≡ n
  pub shortest : 0 < n → 48 < slice_index out' at
  pub front : take at out' ≡ take at out
  pub back : drop end out' ≡ drop end out
