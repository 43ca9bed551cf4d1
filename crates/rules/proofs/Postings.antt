-- What a call brings about before its trades keeps the ledger and the book in agreement.
use Rattle.std.proofs.Common.{◌≡◌, ℕ, ◌+◌, ◌-◌, ◌<◌, ◌≤◌, Bool, true, false, cond, eqb, ◌⊎◌, List, [], ◌∷◌, Some, None, Option, sym, refl, ap, ◌∙◌, subst, inl, inr, arith}
use Rattle.std.proofs.lemmas.Bool.{cases_eq, eqb-true, eqb-false}
use Rattle.std.specs.List.{AllByRecursion}
use Rattle.terms.specs.declared.message.Quoted.{Quoted}
use Rattle.terms.specs.declared.side.Side.{Side}
use Rattle.terms.specs.declared.side.Side.TheVariants.{Buy, Sell}
use Rattle.queue.specs.Held.{Apart, any, first, remove, change}
use Rattle.queue.proofs.Inserts.{all_map}
use Rattle.queue.proofs.Removes.{all_remove, ordered-remove}
use Rattle.orders.specs.Priority.{rank_of, with_lots}
use Rattle.orders.specs.declared.order.Order.{Order}
use Rattle.rules.specs.Checks.{bid_of, ask_of, without}
use Rattle.rules.specs.Laws.{under}
use Rattle.rules.specs.Ledger.{Entries, at, left, enter, drop, drop_legs, resize, replace}
use Rattle.rules.specs.Rules.{number_is}
use Rattle.rules.proofs.Coupling.{Same, Known, Coupled, SameEntry, known_by, ordered-changed, turned, absent_opposite, coupled_dropped}
use Rattle.rules.proofs.Entries.{at_here, at_other, at_zero, all_both, Absent, absent_any, under_absent, under_others, absent_removed, under-changed, all_changed}

-- a new number comes in hand
enter-other : (n : ℕ) (s : Side) (p t k : ℕ) (l : Entries) (m : ℕ) → (m ≡ n → ⊥) → SameEntry (enter n s p t k l m) (l m)
enter-other n s p t k l m d = (at_other n m s (l m).side d, at_other n m p (l m).limit d, at_other n m t (l m).turn d)

pub enter_here : (n : ℕ) (s : Side) (p t k : ℕ) (l : Entries) → Same (enter n s p t k l) s n p t
enter_here n s p t k l = record { side = at_here n s (l n).side; limit = at_here n p (l n).limit; turn = at_here n t (l n).turn }

pub coupled_entered : {l : Entries} {s : Side} {next : ℕ} {own opp : List Order} (p k : ℕ) → Coupled l s next own opp 0 0 → Coupled (enter next s p next k l) s (next + 1) own opp next k
coupled_entered {l} {s} {next} {own} {opp} p k c =
    record {
      conserved = λ m. omega (arith, c.conserved m, at_zero 0 m);
      fresh = λ m h. omega (arith, c.fresh m (omega arith), at_other next m k 0 (λ e. omega arith));
      owns = all_map (λ o e. known_by o (enter-other next s p next k l o.number (λ q. omega (arith, e.number))) (omega arith) e) own c.owns;
      opps = all_map (λ o e. known_by o (enter-other next s p next k l o.number (λ q. omega (arith, e.number))) (omega arith) e) opp c.opps;
      own_ordered = c.own_ordered;
      opp_ordered = c.opp_ordered;
    }

-- the next turn is neither the number nor the turn of an order that rests
pub next_absent : (l : Entries) (s : Side) (next : ℕ) (os : List Order) → AllByRecursion (Known s next l) os → Absent next os
next_absent l s next os a = all_map (λ o e q. omega (arith, e.number)) os a

pub next_unused : (l : Entries) (s : Side) (next : ℕ) (os : List Order) → AllByRecursion (Known s next l) os → AllByRecursion (λ o. o.turn ≡ next → ⊥) os
next_unused l s next os a = all_map (λ o e q. omega (arith, e.turn)) os a

-- an order that was found
pub found-is : (P : Order → Type 0) (n : ℕ) (os : List Order) (o : Order) → first (number_is n) os ≡ Some o → AllByRecursion P os → (o.number ≡ n) × P o
found-is P n [] o h a = let z : ◌≡◌ {A = ℕ} 0 1 = cc in absurd (omega arith)
found-is P n (x ∷ xs) o h a = go (eqb x.number n) refl h (found-is P n xs o)
  where
    go : (t : Bool) → eqb x.number n ≡ t → cond t (Some x) (first (number_is n) xs) ≡ Some o → (first (number_is n) xs ≡ Some o → AllByRecursion P xs → (o.number ≡ n) × P o) → (o.number ≡ n) × P o
    go true e q f = let s : x ≡ o = cc in (ap (λ y. y.number) (sym s) ∙ eqb-true x.number n e, subst P s a.0)
    go false e q f = f q a.1

pub under-found : (n : ℕ) (os : List Order) (o : Order) → first (number_is n) os ≡ Some o → Apart (λ x. x.number) os → under n os ≡ o.lots
under-found n [] o h a = let z : ◌≡◌ {A = ℕ} 0 1 = cc in absurd (omega arith)
under-found n (x ∷ xs) o h a = go (eqb x.number n) refl h (under-found n xs o)
  where
    go : (t : Bool) → eqb x.number n ≡ t → cond t (Some x) (first (number_is n) xs) ≡ Some o → (first (number_is n) xs ≡ Some o → Apart (λ y. y.number) xs → under n xs ≡ o.lots) → at x.number n x.lots 0 + under n xs ≡ o.lots
    go true e q f =
        let s : x ≡ o = cc in
        let d = eqb-true x.number n e in
        let none = under_absent n xs (absent_any n xs (ap (λ k. any (number_is k) xs) (sym d) ∙ a.0)) in
        let here : at x.number n x.lots 0 ≡ x.lots = ap (λ k. at x.number k x.lots 0) (sym d) ∙ at_here x.number x.lots 0 in
        omega (arith, none, here, ap (λ y. y.lots) s)
    go false e q f = omega (arith, f q a.1, at_other x.number n x.lots 0 (λ r. eqb-false x.number n e (sym r)))

-- its lots are what is left in the ledger
pub left-found : {l : Entries} {s : Side} {next : ℕ} {own opp : List Order} (n : ℕ) (o : Order) → first (number_is n) own ≡ Some o → (l n).side ≡ s → Coupled l s next own opp 0 0 → left (l n) ≡ o.lots
left-found {l} {s} {next} {own} {opp} n o h e c =
    omega (arith, c.conserved n, under-found n own o h c.own_ordered.numbers, under_absent n opp (absent_opposite l s next n opp e c.opps), at_zero 0 n)

-- lots come off in place
pub under-set : (n k : ℕ) (os : List Order) (o : Order) → first (number_is n) os ≡ Some o → Apart (λ x. x.number) os → under n (change (number_is n) (λ x. with_lots x k) os) ≡ k
under-set n k [] o h a = let z : ◌≡◌ {A = ℕ} 0 1 = cc in absurd (omega arith)
under-set n k (x ∷ xs) o h a = go (eqb x.number n) refl h (under-set n k xs o)
  where
    go : (t : Bool) → eqb x.number n ≡ t → cond t (Some x) (first (number_is n) xs) ≡ Some o → (first (number_is n) xs ≡ Some o → Apart (λ y. y.number) xs → under n (change (number_is n) (λ y. with_lots y k) xs) ≡ k) → under n (cond t (with_lots x k ∷ xs) (x ∷ change (number_is n) (λ y. with_lots y k) xs)) ≡ k
    go true e q f =
        let d = eqb-true x.number n e in
        let none = under_absent n xs (absent_any n xs (ap (λ i. any (number_is i) xs) (sym d) ∙ a.0)) in
        let here : at x.number n k 0 ≡ k = ap (λ i. at x.number i k 0) (sym d) ∙ at_here x.number k 0 in
        omega (arith, none, here)
    go false e q f = omega (arith, f q a.1, at_other x.number n x.lots 0 (λ r. eqb-false x.number n e (sym r)))

pub coupled_resized : {l : Entries} {s : Side} {next : ℕ} {own opp : List Order} (n k : ℕ) (o : Order) → first (number_is n) own ≡ Some o → (l n).side ≡ s → n < next → 0 < k → Coupled l s next own opp 0 0 → Coupled (resize n k l) s next (change (number_is n) (λ x. with_lots x k) own) opp 0 0
coupled_resized {l} {s} {next} {own} {opp} n k o h e b z c =
    record {
      conserved = λ m. count m (cases_eq m n);
      fresh = λ m g. omega (arith, c.fresh m g, at_other n m (k - left (l n)) 0 (λ q. omega arith));
      owns = all_map (λ x u. known_by x (refl, refl, refl) (omega arith) u) (change (number_is n) (λ x. with_lots x k) own) (all_changed (Known s next l) n k (λ x u. record { same = u.same; number = u.number; turn = u.turn }) own c.owns);
      opps = all_map (λ x u. known_by x (refl, refl, refl) (omega arith) u) opp c.opps;
      own_ordered = ordered-changed s n k own z c.own_ordered;
      opp_ordered = c.opp_ordered;
    }
  where
    count : (m : ℕ) → (m ≡ n) ⊎ (m ≡ n → ⊥) → (l m).entered + at n m (k - left (l n)) 0 ≡ (l m).traded + ((l m).cancelled + at n m (left (l n) - k) 0) + (under m (change (number_is n) (λ x. with_lots x k) own) + under m opp) + at 0 m 0 0
    count m (inl q) =
        rw q
        (omega (arith, c.conserved n, at_here n (k - left (l n)) 0, at_here n (left (l n) - k) 0, under-set n k own o h c.own_ordered.numbers, under_absent n opp (absent_opposite l s next n opp e c.opps), left-found n o h e c, at_zero 0 n))
    count m (inr d) = omega (arith, c.conserved m, at_other n m (k - left (l n)) 0 d, at_other n m (left (l n) - k) 0 d, under-changed n k m own d, at_zero 0 m)

-- an order is taken out, with new lots, limit and turn
replace-other : (n p t k : ℕ) (l : Entries) (m : ℕ) → (m ≡ n → ⊥) → SameEntry (replace n p t (resize n k l) m) (l m)
replace-other n p t k l m d = (refl, at_other n m p (l m).limit d, at_other n m t (l m).turn d)

pub replace_here : (l : Entries) {s : Side} (n p t k : ℕ) → (l n).side ≡ s → Same (replace n p t (resize n k l)) s n p t
replace_here l n p t k e = record { side = e; limit = at_here n p (l n).limit; turn = at_here n t (l n).turn }

pub coupled_replaced : {l : Entries} {s : Side} {next : ℕ} {own opp : List Order} (n p k : ℕ) → (l n).side ≡ s → n < next → Coupled l s next own opp 0 0 → Coupled (replace n p next (resize n k l)) s (next + 1) (remove (number_is n) own) opp n k
coupled_replaced {l} {s} {next} {own} {opp} n p k e b c =
    record {
      conserved = λ m. count m (cases_eq m n);
      fresh = λ m g. omega (arith, c.fresh m (omega arith), at_other n m (k - left (l n)) 0 (λ q. omega arith));
      owns = all_both (λ x u v. known_by x (replace-other n p next k l x.number u) (omega arith) v) (remove (number_is n) own) gone (all_remove (number_is n) (Known s next l) own c.owns);
      opps = all_both (λ x u v. known_by x (replace-other n p next k l x.number u) (omega arith) v) opp none c.opps;
      own_ordered = ordered-remove (number_is n) (rank_of s) own c.own_ordered;
      opp_ordered = c.opp_ordered;
    }
  where
    gone : Absent n (remove (number_is n) own)
    gone = absent_removed n own c.own_ordered.numbers

    none : Absent n opp
    none = absent_opposite l s next n opp e c.opps

    count : (m : ℕ) → (m ≡ n) ⊎ (m ≡ n → ⊥) → (l m).entered + at n m (k - left (l n)) 0 ≡ (l m).traded + ((l m).cancelled + at n m (left (l n) - k) 0) + (under m (remove (number_is n) own) + under m opp) + at n m k 0
    count m (inl q) =
        rw q
        (omega (arith, c.conserved n, at_here n (k - left (l n)) 0, at_here n (left (l n) - k) 0, at_here n k 0, under_absent n (remove (number_is n) own) gone, under_absent n opp none, at_zero 0 n))
    count m (inr d) =
        omega (arith, c.conserved m, at_other n m (k - left (l n)) 0 d, at_other n m (left (l n) - k) 0 d, at_other n m k 0 d, under_others n m own d, at_zero 0 m)

-- everything is cancelled
pub coupled_ended : {l : Entries} {next : ℕ} {buys sells : List Order} → Coupled l Buy next buys sells 0 0 → Coupled (λ m. drop m (left (l m)) l m) Buy next [] [] 0 0
coupled_ended {l} c =
    record {
      conserved = λ m. omega (arith, c.conserved m, at_here m (left (l m)) 0, at_zero 0 m);
      fresh = c.fresh;
      owns = tt;
      opps = tt;
      own_ordered = record { sorted = tt; numbers = tt; keys = tt; some = tt };
      opp_ordered = record { sorted = tt; numbers = tt; keys = tt; some = tt };
    }

-- the legs of the last quote are known by their sides, and are cancelled
abbrev pub Legs : Option Quoted → ℕ → Entries → Type 0
Legs None next l = Unit {0}
Legs (Some q) next l = ((l q.bid).side ≡ Buy) × ((l q.ask).side ≡ Sell) × (q.bid < next) × (q.ask < next)

pub legs_by : (q : Option Quoted) (next next' : ℕ) (l i : Entries) → ((m : ℕ) → m < next → (i m).side ≡ (l m).side) → next ≤ next' → Legs q next l → Legs q next' i
legs_by None next next' l i f h a = tt
legs_by (Some q) next next' l i f h a = (f q.bid a.2 ∙ a.0, f q.ask a.3 ∙ a.1, omega (arith, a.2), omega (arith, a.3))

pub coupled_unquoted : {l : Entries} {next : ℕ} {buys sells : List Order} (q : Option Quoted) → Legs q next l → Coupled l Buy next buys sells 0 0 → Coupled (drop_legs q l) Buy next (without (bid_of q) buys) (without (ask_of q) sells) 0 0
coupled_unquoted None a c = c
coupled_unquoted (Some q) a c = turned (coupled_dropped q.ask a.1 (turned (coupled_dropped q.bid a.0 c)))
