-- What a queue of one side answers and leaves, as the rules see it.
use Rattle.std.proofs.Common.{◌≡◌, ℕ, Some, None, Option, Result, sym, refl, ap, ◌∙◌}
use Rattle.terms.specs.declared.refusal.Refusal.{Refusal}
use Rattle.terms.specs.declared.side.Side.{Side}
use Rattle.queue.proofs.Carried.{map_first, map-barred, map-put, map_cut, map-take}
use Rattle.queue.specs.Carries.{Carries, map_some, map_held}
use Rattle.queue.specs.Held.{Held, answer, barred, uncut, numbered, after_put, after_cut, after_take}
use Rattle.queue.specs.Rank.{Rank}
use Rattle.orders.specs.Priority.{rank_of}
use Rattle.orders.specs.declared.order.Order.{Order}

module _ {E : Type 0} (f : E → Order) (r : Rank E) (s : Side) (c : Carries f r (rank_of s)) (h : Held E) where
  pub found : (n : ℕ) {o : Option E} {p : Option Order} → p ≡ map_some f o → o ≡ numbered r h n → p ≡ numbered (rank_of s) (map_held f h) n
  found n e i = e ∙ ap (map_some f) i ∙ sym (map_first f r (rank_of s) c n h.elements)

  pub put_answer : (e : E) {x : Result (Unit {0}) Refusal} → x ≡ answer (barred r h e) → x ≡ answer (barred (rank_of s) (map_held f h) (f e))
  put_answer e i = i ∙ ap answer (sym (map-barred f r (rank_of s) c h e))

  pub put_leaves : (e : E) {h' : Held E} → h' ≡ after_put r h e → map_held f h' ≡ after_put (rank_of s) (map_held f h) (f e)
  put_leaves e i = ap (map_held f) i ∙ map-put f r (rank_of s) c h e

  same_uncut : (k : ℕ) (o : Option E) → uncut (rank_of s) k (map_some f o) ≡ uncut r k o
  same_uncut k None = refl
  same_uncut k (Some e) = rw (c.lots e) refl

  pub cut_answer : (n k : ℕ) {x : Result (Unit {0}) Refusal} → x ≡ answer (uncut r k (numbered r h n)) → x ≡ answer (uncut (rank_of s) k (numbered (rank_of s) (map_held f h) n))
  cut_answer n k i =
      i ∙ ap answer (sym (same_uncut k (numbered r h n))) ∙ ap (λ o. answer (uncut (rank_of s) k o)) (sym (map_first f r (rank_of s) c n h.elements))

  pub cut_leaves : (n k : ℕ) {h' : Held E} → h' ≡ after_cut r h n k → map_held f h' ≡ after_cut (rank_of s) (map_held f h) n k
  cut_leaves n k i = ap (map_held f) i ∙ map_cut f r (rank_of s) c h n k

  pub take_leaves : (n : ℕ) {h' : Held E} → h' ≡ after_take r h n → map_held f h' ≡ after_take (rank_of s) (map_held f h) n
  take_leaves n i = ap (map_held f) i ∙ map-take f r (rank_of s) c h n
