-- What a kind of element means to a queue.
use Rattle.std.specs.Prelude.{◌≡◌, ℕ, Bool, true, false, ◌⊎◌}

-- an element's number, key and lots, which of two ranks before the other, and an element with other lots
pub record Rank (E : Type 0) : Type 0 where
  pub number : E → ℕ
  pub key : E → ℕ
  pub lots : E → ℕ
  pub before : E → E → Bool
  pub with_lots : E → ℕ → E

-- one of two tests passes, and the other does not
abbrev pub ExactlyOne : Bool → Bool → Type 0
ExactlyOne a b = ((a ≡ true) × (b ≡ false)) ⊎ ((a ≡ false) × (b ≡ true))

-- other lots change neither number nor key nor rank
pub record OnlyLots {E : Type 0} (r : Rank E) (x : E) (n : ℕ) : Type 0 where
  pub number : r.number (r.with_lots x n) ≡ r.number x
  pub key : r.key (r.with_lots x n) ≡ r.key x
  pub lots : r.lots (r.with_lots x n) ≡ n
  pub before : (y : E) → r.before (r.with_lots x n) y ≡ r.before x y
  pub after : (y : E) → r.before y (r.with_lots x n) ≡ r.before y x
