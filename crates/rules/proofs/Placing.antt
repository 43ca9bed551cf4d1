-- Orders that are put into a queue.
use Rattle.std.proofs.Common.{◌≡◌, ℕ, ◌<◌, ◌≤◌, Bool, true, false, cond, ◌||◌, eqb, List, sym, refl, ap, ◌∙◌, ⊎_elim, arith}
use Rattle.std.proofs.lemmas.Bool.{cases_lt, ne_eqb, true≢false}
use Rattle.std.proofs.lemmas.Bool.Decides.{nat_tests}
use Rattle.terms.specs.declared.side.Side.{Side}
use Rattle.queue.proofs.Puts.{unbarred, barred_held}
use Rattle.queue.specs.Held.{Held, insert, after_put, unless}
use Rattle.orders.specs.Priority.{before, rank_of}
use Rattle.orders.specs.declared.order.Order.{Order}
use Rattle.rules.specs.Book.{holding}
use Rattle.rules.specs.Meeting.{joined}
use Rattle.rules.specs.Tables.{Room}

or_yes : (a b : Bool) → a ≡ true → (a || b) ≡ true
or_yes true b e = refl
or_yes false b e = absurd (true≢false (sym e))

-- an order with lots is inserted where there is room
pub put_placed : (s : Side) (h : Held Order) (o : Order) → 0 < o.lots → Room s h o → after_put (rank_of s) h o ≡ holding h (insert (before s) o h.elements)
put_placed s h o z r =
    ap (λ x. unless x h (insert (before s) o h.elements)) (unbarred (rank_of s) h o r.place (λ e. omega arith) r.free)

pub joins : (s : Side) (o : Order) (os : List Order) → 0 < o.lots → insert (before s) o os ≡ joined s o os
joins s o os z = rw (ne_eqb o.lots 0 (λ e. omega arith)) refl

-- the next place of a table stays within it
pub within_table : (place place' n m : ℕ) → place ≤ n → (place ≤ place') × (place < place' → place' ≤ n) → n ≡ m → place' ≤ m
within_table place place' n m a b e = ⊎_elim (λ h. omega (arith, b.1 h)) (λ h. omega (arith, b.0)) (cases_lt place place')

-- an order is put into a queue that was changed before, and joins it if it has lots
pub leg_placed : (s : Side) (h : Held Order) (os : List Order) (h₁ h₂ : Held Order) (p o : Order) → h₁ ≡ holding h os → h₂ ≡ after_put (rank_of s) h₁ p → p ≡ o → Room s (holding h os) o → h₂ ≡ holding h (joined s o os)
leg_placed s h os h₁ h₂ p o q u r w = u ∙ (λ i. after_put (rank_of s) (q i) (r i)) ∙ go (eqb o.lots 0) refl
  where
    go : (t : Bool) → eqb o.lots 0 ≡ t → after_put (rank_of s) (holding h os) o ≡ holding h (cond t os (insert (before s) o os))
    go true z = ap (λ x. unless x (holding h os) (insert (before s) o os)) (barred_held (rank_of s) (holding h os) o w.place (or_yes (eqb o.lots 0) _ z))
    go false z = put_placed s (holding h os) o (grind (arith, nat_tests)) w
