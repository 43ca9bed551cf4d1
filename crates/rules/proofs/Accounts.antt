-- Each answer counts what its call has traded, left and cancelled.
use Rattle.std.proofs.Common.{◌≡◌, ℕ, zero, suc, ◌+◌, ◌<◌, ◌≤◌, Bool, true, false, cond, eqb, ◌⊎◌, List, [], ◌∷◌, Some, Option, sym, refl, ap, ◌∙◌, inl, inr, arith}
use Rattle.std.proofs.lemmas.Bool.{cases_eq, cases_lt, eqb-true, eqb-false}
use Rattle.std.specs.List.{AllByRecursion}
use Rattle.terms.specs.declared.side.Side.{Side}
use Rattle.terms.specs.declared.side.Side.TheVariants.{Buy, Sell}
use Rattle.terms.specs.declared.trade.Trade.{Trade}
use Rattle.queue.specs.Held.{Apart, any, first, insert}
use Rattle.orders.specs.Priority.{before, with_lots}
use Rattle.orders.specs.declared.order.Order.{Order}
use Rattle.rules.specs.Accounts.{below, cancelled_below}
use Rattle.price_range.specs.declared.band.Band.{Band}
use Rattle.rules.specs.Book.{pick, resting_lots}
use Rattle.rules.specs.Checks.{lots_of, lots_under}
use Rattle.rules.specs.Laws.{under}
use Rattle.rules.specs.Ledger.{Entries, at, left, deal, deals}
use Rattle.rules.specs.Meeting.{enter, incoming, joined, meet}
use Rattle.rules.specs.Rules.{number_is}
use Rattle.rules.proofs.Coupling.{Coupled, absent_opposite, all_met}
use Rattle.rules.proofs.Entries.{at_here, at_other, at_zero, Absent, absent_any, under_absent, under-insert}

-- sums over numbers
pub below_same : (n : ℕ) (f h : ℕ → ℕ) → ((m : ℕ) → h m ≡ f m) → below n h ≡ below n f
below_same zero f h e = refl
below_same (suc n) f h e = omega (arith, below_same n f h e, e n)

pub below-sum : (n : ℕ) (f g h : ℕ → ℕ) → ((m : ℕ) → h m ≡ f m + g m) → below n h ≡ below n f + below n g
below-sum zero f g h e = refl
below-sum (suc n) f g h e = omega (arith, below-sum n f g h e, e n)

below_none : (top n k : ℕ) → top ≤ n → below top (λ m. at n m k 0) ≡ 0
below_none zero n k h = refl
below_none (suc top) n k h = omega (arith, below_none top n k (omega (arith, h)), at_other {A = ℕ} n top k 0 (λ e. omega (arith, e, h)))

strictly : {n top : ℕ} → n < suc top → (top ≡ n → ⊥) → n < top
strictly {n} {top} h e = go (cases_lt n top)
  where
    go : (n < top) ⊎ (top ≤ n) → n < top
    go (inl g) = g
    go (inr g) = absurd (e (omega (arith, g, h)))

below_at : (top n k : ℕ) → n < top → below top (λ m. at n m k 0) ≡ k
below_at zero n k h = absurd (omega (arith, h))
below_at (suc top) n k h = go (cases_eq top n) (below_at top n k)
  where
    go : (top ≡ n) ⊎ (top ≡ n → ⊥) → (n < top → below top (λ m. at n m k 0) ≡ k) → below (suc top) (λ m. at n m k 0) ≡ k
    go (inl e) f = omega (arith, below_none top n k (omega (arith, e)), ap (λ i. at n i k 0) e ∙ at_here n k 0)
    go (inr e) f = omega (arith, f (strictly h e), at_other {A = ℕ} n top k 0 e)

pub below-under : (top : ℕ) (os : List Order) → AllByRecursion (λ o. o.number < top) os → below top (λ m. under m os) ≡ resting_lots os
below-under top [] a = none top
  where
    none : (n : ℕ) → below n (λ m. 0) ≡ 0
    none zero = refl
    none (suc n) = omega (arith, none n)
below-under top (o ∷ os) a =
    let more = below-sum top (λ m. at o.number m o.lots 0) (λ m. under m os) (λ m. under m (o ∷ os)) (λ m. refl) in
    omega (arith, more, below_at top o.number o.lots a.0, below-under top os a.1)

-- a number's lots on a side without two of one number
pub under_lots : (n : ℕ) (os : List Order) → Apart (λ o. o.number) os → under n os ≡ lots_under n os
under_lots n [] a = refl
under_lots n (o ∷ os) a = go (eqb o.number n) refl (under_lots n os a.1)
  where
    go : (t : Bool) → eqb o.number n ≡ t → under n os ≡ lots_under n os → at o.number n o.lots 0 + under n os ≡ lots_of (cond t (Some o) (first (number_is n) os))
    go true e f =
        let d = eqb-true o.number n e in
        let none = under_absent n os (absent_any n os (ap (λ k. any (number_is k) os) (sym d) ∙ a.0)) in
        let here : at o.number n o.lots 0 ≡ o.lots = ap (λ k. at o.number k o.lots 0) (sym d) ∙ at_here o.number o.lots 0 in
        omega (arith, none, here)
    go false e f = omega (arith, f, at_other {A = ℕ} o.number n o.lots 0 (λ r. eqb-false o.number n e (sym r)))

-- and in the ledger
pub left-under : {l : Entries} {s : Side} {next : ℕ} {own opp : List Order} (n : ℕ) → (l n).side ≡ s → Coupled l s next own opp 0 0 → left (l n) ≡ lots_under n own
left-under {l} {s} {next} {own} {opp} n e c =
    omega (arith, c.conserved n, under_lots n own c.own_ordered.numbers, under_absent n opp (absent_opposite l s next n opp e c.opps), at_zero 0 n)

-- lots of one number are cancelled, and no others
pub dropped : (top n k : ℕ) (l i : Entries) → n < top → ((m : ℕ) → (i m).cancelled ≡ (l m).cancelled + at n m k 0) → cancelled_below top i ≡ cancelled_below top l + k
dropped top n k l i h e = omega (arith, below-sum top (λ m. (l m).cancelled) (λ m. at n m k 0) (λ m. (i m).cancelled) e, below_at top n k h)

-- trades cancel nothing
pub deals-cancelled : (ts : List Trade) (l : Entries) (m : ℕ) → (deals ts l m).cancelled ≡ (l m).cancelled
deals-cancelled [] l m = refl
deals-cancelled (t ∷ ts) l m = deals-cancelled ts (deal t l) m

-- an order that joins its side
under-joined : (s : Side) (o : Order) (m : ℕ) (os : List Order) → under m (joined s o os) ≡ at o.number m o.lots 0 + under m os
under-joined s o m os = go (eqb o.lots 0) refl
  where
    go : (t : Bool) → eqb o.lots 0 ≡ t → under m (cond t os (insert (before s) o os)) ≡ at o.number m o.lots 0 + under m os
    go true e = omega (arith, ap (λ k. at o.number m k 0) (eqb-true o.lots 0 e) ∙ at_zero o.number m)
    go false e = under-insert (before s) m o os

-- both sides together, seen from one
pub under_sides : (s : Side) (m : ℕ) (own opp : List Order) → under m (pick s own opp) + under m (pick s opp own) ≡ under m own + under m opp
under_sides Buy m own opp = refl
under_sides Sell m own opp = omega arith

-- what rests of an order that was entered or changed
pub rests_entered : (r : Option Band) (t : Bool) (s : Side) (o : Order) (own opp : List Order) → Absent o.number own → Absent o.number opp → (enter r t s o own opp).resting ≡ under o.number (enter r t s o own opp).own + under o.number (enter r t s o own opp).opposite
rests_entered r t s o own opp x y =
    let n = o.number in
    let k = cond t 0 (meet r s (incoming o) o.lots opp).left in
    let none = under_absent n own x in
    let away = under_absent n (meet r s (incoming o) o.lots opp).rest (all_met (λ q. q.number ≡ n → ⊥) (λ q j h. h) r s (incoming o) o.lots opp y) in
    omega (arith, under-joined s (with_lots o k) n own, at_here n k 0, none, away)
