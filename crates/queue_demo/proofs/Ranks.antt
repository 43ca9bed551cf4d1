-- The sample in an empty queue.
use Rattle.std.proofs.Common.{◌≡◌, ℕ, zero, suc, ◌<◌, ◌≤◌, true, false, cond, ◌||◌, eqb, leb, List, [], ◌∷◌, length, take, drop, Some, None, Ok, Err, Result, refl, ap, ◌∙◌, arith}
use lib.Dec.{eqb-suc-zero}
use Rattle.std.proofs.lemmas.Bool.{lt-leb, le-leb}
use Rattle.terms.specs.declared.refusal.Refusal.{Refusal}
use Rattle.terms.specs.declared.refusal.Refusal.TheVariants.{UnfitQueue, QueueFull}
use Rattle.orders.specs.Priority.{buy_rank}
use Rattle.orders.specs.Sides.{BuyOrder}
use Rattle.queue.specs.Held.{Held, any, clash, insert, answer}
use Rattle.queue.specs.Through.{insert_all, putting}
use Rattle.queue_demo.specs.Demo.{ranked_in}
use Rattle.queue_demo.specs.Sample.{buying, entered, ranked}

abbrev pub holding : ℕ → List BuyOrder → Held BuyOrder
holding places es = record { capacity = places; elements = es }

-- there is a place for x, and no element has its number or key
pub put_next : (places : ℕ) (es : List BuyOrder) (x : BuyOrder) (xs : List BuyOrder) → length es < places → (eqb x.0.lots 0 || any (clash buy_rank x) es) ≡ false
    → putting buy_rank (holding places es) (x ∷ xs) ≡ putting buy_rank (holding places (insert buy_rank.before x es)) xs
put_next places es x xs room free = let r = lt-leb places (length es) room in rw (r, free)

pub all-put : (places : ℕ) → 5 ≤ places → putting buy_rank (holding places []) entered ≡ None
all-put places room =
    put_next places (insert_all buy_rank.before (take 0 entered) []) (buying 1 102 40) (drop 1 entered) (omega arith) refl
    ∙ put_next places (insert_all buy_rank.before (take 1 entered) []) (buying 2 104 5) (drop 2 entered) (omega arith) refl
    ∙ put_next places (insert_all buy_rank.before (take 2 entered) []) (buying 3 102 30) (drop 3 entered) (omega arith) refl
    ∙ put_next places (insert_all buy_rank.before (take 3 entered) []) (buying 4 103 7) (drop 4 entered) (omega arith) refl
    ∙ put_next places (insert_all buy_rank.before (take 4 entered) []) (buying 5 104 50) (drop 5 entered) (omega arith) refl

pub sample_put : (places : ℕ) → putting buy_rank (holding places []) entered ≡ cond (leb 5 places) None (Some QueueFull)
sample_put zero = refl
sample_put (suc zero) = refl
sample_put (suc (suc zero)) = refl
sample_put (suc (suc (suc zero))) = refl
sample_put (suc (suc (suc (suc zero)))) = refl
sample_put (suc (suc (suc (suc (suc n))))) =
    let places = suc (suc (suc (suc (suc n)))) in
    let room : 5 ≤ places = omega arith in
    let t = le-leb 5 places room in
    all-put places room ∙ rw t

-- the ranked sample, where nothing was refused
abbrev pub or_ranked : Result (Unit {0}) Refusal → Result (List BuyOrder) Refusal
or_ranked (Ok x) = Ok ranked
or_ranked (Err e) = Err e

pub ranked-answer : (places : ℕ) (es : List BuyOrder) (r : Result (Unit {0}) Refusal) → (0 < length es → r ≡ Err UnfitQueue) → (length es ≡ 0 → r ≡ answer (putting buy_rank (holding places es) entered))
    → or_ranked r ≡ ranked_in (holding places es)
ranked-answer places [] r unfit answers =
    ap or_ranked (answers refl ∙ ap answer (sample_put places))
    ∙ elim (leb 5 places) as (λ b. or_ranked (answer (cond b None (Some QueueFull))) ≡ cond b (Ok ranked) (Err QueueFull)) [ true ↦ refl | false ↦ refl ]
ranked-answer places (e ∷ es) r unfit answers = let t = eqb-suc-zero (length es) in ap or_ranked (unfit (omega arith)) ∙ rw t

-- what `rank_through` answers, at a queue that holds h
pub ranked_through : (h : Held BuyOrder) (os : List BuyOrder) (r : Result (Unit {0}) Refusal) → os ≡ entered → (0 < length h.elements → r ≡ Err UnfitQueue)
    → (length h.elements ≡ 0 → r ≡ answer (putting buy_rank h os)) → or_ranked r ≡ ranked_in h
ranked_through h os r e unfit answers = ranked-answer h.capacity h.elements r unfit (λ none. answers none ∙ ap (λ xs. answer (putting buy_rank h xs)) e)
