-- Priority of orders, and which limits meet in a band.
use Rattle.std.proofs.Common.{◌≡◌, ℕ, ◌<◌, ◌≤◌, Bool, true, false, ◌⊎◌, Some, None, Option, sym, refl, inl, inr, arith}
use Rattle.std.proofs.lemmas.Bool.{true≢false}
use Rattle.std.proofs.lemmas.Bool.Decides.{nat_tests}
use Rattle.terms.specs.declared.side.Side.{Side}
use Rattle.terms.specs.declared.side.Side.TheVariants.{Buy, Sell}
use Rattle.queue.specs.Rank.{ExactlyOne}
use Rattle.orders.specs.Priority.{before}
use Rattle.orders.specs.declared.order.Order.{Order}
use Rattle.price_range.specs.declared.band.Band.{Band}
use Rattle.rules.specs.Book.{other}
use Rattle.rules.specs.Laws.{Better}
use Rattle.rules.specs.Meeting.{can_meet}

-- the rank of orders keeps its laws
pub before_transitive : (s : Side) (x y z : Order) → before s x y ≡ true → before s y z ≡ true → before s x z ≡ true
before_transitive Buy x y z h k = grind (arith, nat_tests)
before_transitive Sell x y z h k = grind (arith, nat_tests)

pub before_connected : (s : Side) (x y : Order) → (x.turn ≡ y.turn → ⊥) → ExactlyOne (before s x y) (before s y x)
before_connected Buy x y d = go (before Buy x y) refl
  where
    go : (t : Bool) → before Buy x y ≡ t → ExactlyOne t (before Buy y x)
    go true e = inl (refl, grind (arith, nat_tests))
    go false e = inr (refl, grind (arith, nat_tests))
before_connected Sell x y d = go (before Sell x y) refl
  where
    go : (t : Bool) → before Sell x y ≡ t → ExactlyOne t (before Sell y x)
    go true e = inl (refl, grind (arith, nat_tests))
    go false e = inr (refl, grind (arith, nat_tests))

-- in a chain of limits and turns: who comes after x does not precede it
abbrev pub Ahead : Side → ℕ → ℕ → ℕ → ℕ → Type 0
Ahead s p t q u = Better s p q ⊎ ((p ≡ q) × (t < u))

pub not_ahead : (s : Side) (x y : Order) → before s x y ≡ true → Ahead s y.price y.turn x.price x.turn → ⊥
not_ahead Buy x y h (inl k) = grind (arith, nat_tests)
not_ahead Buy x y h (inr k) = grind (arith, nat_tests)
not_ahead Sell x y h (inl k) = grind (arith, nat_tests)
not_ahead Sell x y h (inr k) = grind (arith, nat_tests)

pub not_ahead_self : (s : Side) (p t : ℕ) → Ahead s p t p t → ⊥
not_ahead_self Buy p t (inl k) = omega arith
not_ahead_self Buy p t (inr k) = omega (arith, k.1)
not_ahead_self Sell p t (inl k) = omega arith
not_ahead_self Sell p t (inr k) = omega (arith, k.1)

-- an order that cannot meet x cannot meet what ranks after x
pub apart_later : (r : Option Band) (s : Side) (l : ℕ) (x y : Order) → can_meet r s l x.price ≡ false → before (other s) x y ≡ true → can_meet r s l y.price ≡ false
apart_later None Buy l x y h k = refl
apart_later None Sell l x y h k = refl
apart_later (Some r) Buy l x y h k = grind (arith, nat_tests)
apart_later (Some r) Sell l x y h k = grind (arith, nat_tests)

-- what x cannot meet, nothing that ranks after x can
pub apart_worse : (r : Option Band) (s : Side) (x y : Order) (p : ℕ) → can_meet r s x.price p ≡ false → before s x y ≡ true → can_meet r s y.price p ≡ false
apart_worse None Buy x y p h k = refl
apart_worse None Sell x y p h k = refl
apart_worse (Some r) Buy x y p h k = grind (arith, nat_tests)
apart_worse (Some r) Sell x y p h k = grind (arith, nat_tests)

-- nor anything at a price that is no improvement
pub apart_lower : (r : Option Band) (s : Side) (was l p : ℕ) → (Better s l was → ⊥) → can_meet r s was p ≡ false → can_meet r s l p ≡ false
apart_lower None Buy was l p d h = refl
apart_lower None Sell was l p d h = refl
apart_lower (Some r) Buy was l p d h = let e : l ≤ was = omega (arith, d) in grind (arith, nat_tests)
apart_lower (Some r) Sell was l p d h = let e : was ≤ l = omega (arith, d) in grind (arith, nat_tests)

-- of one side, what meets an order that another does not meet is not behind it
pub not_behind : (r : Option Band) (s : Side) (l t m u p : ℕ) → can_meet r s l p ≡ true → can_meet r s m p ≡ false → Ahead s m u l t → ⊥
not_behind None Buy l t m u p h k a = true≢false (sym h)
not_behind None Sell l t m u p h k a = true≢false (sym h)
not_behind (Some r) Buy l t m u p h k (inl a) = grind (arith, nat_tests)
not_behind (Some r) Buy l t m u p h k (inr a) = grind (arith, nat_tests)
not_behind (Some r) Sell l t m u p h k (inl a) = grind (arith, nat_tests)
not_behind (Some r) Sell l t m u p h k (inr a) = grind (arith, nat_tests)

pub can_meet_swap : (r : Option Band) (s : Side) (l p : ℕ) → can_meet r s l p ≡ can_meet r (other s) p l
can_meet_swap r Buy l p = refl
can_meet_swap r Sell l p = refl

pub two_sides : (s : Side) → s ≡ other s → ⊥
two_sides Buy e = let z : ◌≡◌ {A = ℕ} 0 1 = cc in omega arith
two_sides Sell e = let z : ◌≡◌ {A = ℕ} 0 1 = cc in omega arith
