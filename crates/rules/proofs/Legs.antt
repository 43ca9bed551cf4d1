-- Orders that are looked up by their number, in a queue of one side.
use Rattle.std.proofs.Common.{◌≡◌, ℕ, suc, Bool, true, false, cond, ◌||◌, eqb, ltb, leb, List, [], ◌∷◌, length, is_some, Some, None, Option, sym, refl, ap, ◌∙◌, arith}
use Rattle.std.proofs.lemmas.Bool.{true≢false}
use Rattle.std.proofs.lemmas.Bool.Decides.{nat_tests}
use Rattle.queue.specs.Held.{Held, any, first, remove}
use Rattle.orders.specs.declared.order.Order.{Order}
use Rattle.rules.specs.Checks.{full_without, holds}
use Rattle.rules.specs.Rules.{number_is}

-- an order is found where one with its number rests
pub found_any : (n : ℕ) (os : List Order) → is_some (first (number_is n) os) ≡ any (number_is n) os
found_any n [] = refl
found_any n (o ∷ os) = go (eqb o.number n) (found_any n os)
  where
    go : (u : Bool) → is_some (first (number_is n) os) ≡ any (number_is n) os → is_some (cond u (Some o) (first (number_is n) os)) ≡ (u || any (number_is n) os)
    go true i = refl
    go false i = i

-- without an order that rests there is one less
pub remove_held : (n : ℕ) (os : List Order) → any (number_is n) os ≡ true → suc (length (remove (number_is n) os)) ≡ length os
remove_held n [] h = absurd (true≢false (sym h))
remove_held n (o ∷ os) h = go (eqb o.number n) h (remove_held n os)
  where
    go : (t : Bool) → (t || any (number_is n) os) ≡ true → (any (number_is n) os ≡ true → suc (length (remove (number_is n) os)) ≡ length os) → suc (length (cond t os (o ∷ remove (number_is n) os))) ≡ suc (length os)
    go true e f = refl
    go false e f = ap suc (f e)

remove_absent : (n : ℕ) (os : List Order) → any (number_is n) os ≡ false → remove (number_is n) os ≡ os
remove_absent n [] h = refl
remove_absent n (o ∷ os) h = go (eqb o.number n) h (remove_absent n os)
  where
    go : (t : Bool) → (t || any (number_is n) os) ≡ false → (any (number_is n) os ≡ false → remove (number_is n) os ≡ os) → cond t os (o ∷ remove (number_is n) os) ≡ o ∷ os
    go true e f = absurd (true≢false e)
    go false e f = ap (λ xs. o ∷ xs) (f e)

pub full_rests : (leg : Option ℕ) (h : Held Order) → holds leg h.elements ≡ true → ltb h.capacity (length h.elements) ≡ full_without leg h
full_rests None h e = absurd (true≢false (sym e))
full_rests (Some n) h e = let k = remove_held n h.elements e in ap (λ m. ltb h.capacity m) (sym k) ∙ less h.capacity (length (remove (number_is n) h.elements))
  where
    less : (a b : ℕ) → ltb a (suc b) ≡ leb a b
    less a b = go (ltb a (suc b)) (leb a b) refl refl
      where
        go : (x y : Bool) → ltb a (suc b) ≡ x → leb a b ≡ y → x ≡ y
        go true true p q = refl
        go true false p q = absurd (let z : ⊥ = grind (arith, nat_tests) in z)
        go false true p q = absurd (let z : ⊥ = grind (arith, nat_tests) in z)
        go false false p q = refl

pub full_gone : (leg : Option ℕ) (h : Held Order) → holds leg h.elements ≡ false → leb h.capacity (length h.elements) ≡ full_without leg h
full_gone None h e = refl
full_gone (Some n) h e = ap (λ os. leb h.capacity (length os)) (sym (remove_absent n h.elements e))
