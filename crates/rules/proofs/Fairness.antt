-- Each trade of a meeting is fair.
use Rattle.std.proofs.Common.{◌≡◌, ℕ, ◌-◌, ◌<◌, ◌≤◌, Bool, true, false, cond, ltb, ◌⊎◌, List, [], ◌∷◌, ◌++◌, Some, None, Option, sym, refl, ap, ◌∙◌, subst, inl, inr, arith}
use Rattle.std.proofs.lemmas.Bool.{cases_eq, cases_lt, true≢false}
use Rattle.std.proofs.lemmas.Bool.Decides.{nat_tests}
use Rattle.std.specs.List.{AllByRecursion}
use Rattle.terms.specs.declared.side.Side.{Side}
use Rattle.terms.specs.declared.side.Side.TheVariants.{Buy, Sell}
use Rattle.terms.specs.declared.trade.Trade.{Trade}
use Rattle.queue.proofs.Inserts.{all_map}
use Rattle.orders.specs.declared.order.Order.{Order}
use Rattle.price_range.specs.declared.band.Band.{Band}
use Rattle.rules.specs.Book.{other}
use Rattle.rules.specs.Laws.{under, Inside, First, FairTrade, FairTrades, Precedes}
use Rattle.rules.specs.Ledger.{Entries, left, deal, deals}
use Rattle.rules.specs.Meeting.{Incoming, can_meet, trade, trade_at, Step, stepped, meet, nearest, resting_limit}
use Rattle.rules.proofs.Coupling.{Same, Known, Coupled, same_by, StepIs, is_done, is_apart, is_part, is_whole, step_is, coupled_whole}
use Rattle.rules.proofs.Entries.{at_here, at_other, all_both}
use Rattle.rules.proofs.Priorities.{Ahead, not_ahead, not_ahead_self, two_sides}

-- a price between both limits
abbrev Between : Side → ℕ → ℕ → ℕ → Type 0
Between Buy l p price = (p ≤ price) × (price ≤ l)
Between Sell l p price = (l ≤ price) × (price ≤ p)

-- the limit of either, brought into the band, is inside the band and between both limits
nearest_own : (r : Option Band) (s : Side) (l p : ℕ) → can_meet r s l p ≡ true → Inside r (nearest r l) × Between s l p (nearest r l)
nearest_own None Buy l p h = absurd (true≢false (sym h))
nearest_own None Sell l p h = absurd (true≢false (sym h))
nearest_own (Some r) Buy l p h = ((grind (arith, nat_tests), grind (arith, nat_tests)), (grind (arith, nat_tests), grind (arith, nat_tests)))
nearest_own (Some r) Sell l p h = ((grind (arith, nat_tests), grind (arith, nat_tests)), (grind (arith, nat_tests), grind (arith, nat_tests)))

nearest-other : (r : Option Band) (s : Side) (l p : ℕ) → can_meet r s l p ≡ true → Inside r (nearest r p) × Between s l p (nearest r p)
nearest-other None Buy l p h = absurd (true≢false (sym h))
nearest-other None Sell l p h = absurd (true≢false (sym h))
nearest-other (Some r) Buy l p h = ((grind (arith, nat_tests), grind (arith, nat_tests)), (grind (arith, nat_tests), grind (arith, nat_tests)))
nearest-other (Some r) Sell l p h = ((grind (arith, nat_tests), grind (arith, nat_tests)), (grind (arith, nat_tests), grind (arith, nat_tests)))

priced : (r : Option Band) (s : Side) (t : Option ℕ) (l : ℕ) (o : Order) → can_meet r s l o.price ≡ true → Inside r (nearest r (resting_limit t l o)) × Between s l o.price (nearest r (resting_limit t l o))
priced r s None l o h = nearest-other r s l o.price h
priced r s (Some t) l o h = go (ltb t o.turn)
  where
    go : (b : Bool) → Inside r (nearest r (cond b l o.price)) × Between s l o.price (nearest r (cond b l o.price))
    go true = nearest_own r s l o.price h
    go false = nearest-other r s l o.price h

-- an order under a number that has lots on a side
resting_under_lem : (P : Order → Type 0) (m : ℕ) (os : List Order) → AllByRecursion P os → 0 < under m os → (o : Order) × (o.number ≡ m) × P o
resting_under_lem P m [] a h = absurd (omega arith)
resting_under_lem P m (x ∷ xs) a h = go (cases_eq m x.number) (resting_under_lem P m xs a.1)
  where
    go : (m ≡ x.number) ⊎ (m ≡ x.number → ⊥) → (0 < under m xs → (o : Order) × (o.number ≡ m) × P o) → (o : Order) × (o.number ≡ m) × P o
    go (inl e) f = (x, sym e, a.0)
    go (inr d) f = f (omega (arith, at_other x.number m x.lots 0 d))

-- a number with lots left rests on one of the sides, or is in hand
data Stands (P Q : Order → Type 0) (m n : ℕ) : Type 0 where
  on_own : (x : Order) → x.number ≡ m → P x → Stands P Q m n
  on_opposite : (x : Order) → x.number ≡ m → Q x → Stands P Q m n
  in_hand : m ≡ n → Stands P Q m n

stands : {l : Entries} {s : Side} {next : ℕ} {own opp : List Order} {n k : ℕ} (P Q : Order → Type 0) (m : ℕ) → Coupled l s next own opp n k → AllByRecursion P own → AllByRecursion Q opp → 0 < left (l m) → Stands P Q m n
stands {l} {s} {next} {own} {opp} {n} {k} P Q m c a b h = by (cases_lt 0 (under m opp)) (cases_lt 0 (under m own)) (cases_eq m n)
  where
    by : (0 < under m opp) ⊎ (under m opp ≤ 0) → (0 < under m own) ⊎ (under m own ≤ 0) → (m ≡ n) ⊎ (m ≡ n → ⊥) → Stands P Q m n
    by (inl u) y z = let f = resting_under_lem Q m opp b u in on_opposite f.0 f.1 f.2
    by (inr u) (inl v) z = let f = resting_under_lem P m own a v in on_own f.0 f.1 f.2
    by (inr u) (inr v) (inl q) = in_hand q
    by (inr u) (inr v) (inr d) = absurd (omega (arith, c.conserved m, at_other n m k 0 d))

-- priority in the ledger is priority of the orders
ahead_of : (l : Entries) (s : Side) (m n p t q u : ℕ) → (l n).side ≡ s → Same l s m p t → Same l s n q u → Precedes (l n).side (l m) (l n) → Ahead s p t q u
ahead_of l s m n p t q u e f g h =
    let x = f.limit in
    let y = f.turn in
    let z = g.limit in
    let w = g.turn in
    subst (λ a. Ahead s a t q u) x (subst (λ a. Ahead s (l m).limit a q u) y (subst (λ a. Ahead s (l m).limit (l m).turn a u) z (subst (λ a. Ahead s (l m).limit (l m).turn (l n).limit a) w (subst (λ a. Precedes a (l m) (l n)) e h))))

-- x is o, or ranks after it
abbrev NotBefore : Side → Order → Order → Type 0
NotBefore s o x = Ahead s x.price x.turn o.price o.turn → ⊥

-- the first order of the other side is first
first_met : {l : Entries} {s : Side} {next : ℕ} {own : List Order} {o : Order} {os : List Order} {n k : ℕ} → Coupled l s next own (o ∷ os) n k → (l n).side ≡ s → First l o.number
first_met {l} {s} {next} {own} {o} {os} {n} {k} c e m same has ahead =
    go (stands (λ x. (l x.number).side ≡ s) (λ x. Known (other s) next l x × NotBefore (other s) o x) m c
    (all_map (λ x u. u.same.side) own c.owns)
    (all_both (λ x u v. (u, v)) (o ∷ os) c.opps (not_ahead_self (other s) o.price o.turn, all_map (λ x u. not_ahead (other s) o x u) os c.opp_ordered.sorted.0)) has)
  where
    there : Same l (other s) o.number o.price o.turn
    there = c.opps.0.same

    go : Stands (λ x. (l x.number).side ≡ s) (λ x. Known (other s) next l x × NotBefore (other s) o x) m n → ⊥
    go (on_own x q r) = two_sides s (sym r ∙ ap (λ i. (l i).side) q ∙ same ∙ there.side)
    go (on_opposite x q r) =
        r.1 (ahead_of l (other s) m o.number x.price x.turn o.price o.turn there.side (subst (λ i. Same l (other s) i x.price x.turn) q r.0.same) there ahead)
    go (in_hand q) = two_sides s (sym e ∙ ap (λ i. (l i).side) (sym q) ∙ same ∙ there.side)

-- so is what meets it, if none of its own side is ahead of it
first_in_hand : {l : Entries} {s : Side} {next : ℕ} {own opp : List Order} {n k : ℕ} (p t : ℕ) → Coupled l s next own opp n k → Same l s n p t → AllByRecursion (λ x. Ahead s x.price x.turn p t → ⊥) own → First l n
first_in_hand {l} {s} {next} {own} {opp} {n} {k} p t c e d m same has ahead =
    go (stands (λ x. Known s next l x × (Ahead s x.price x.turn p t → ⊥)) (λ x. (l x.number).side ≡ other s) m c (all_both (λ x u v. (u, v)) own c.owns d) (all_map (λ x u. u.same.side) opp c.opps) has)
  where
    go : Stands (λ x. Known s next l x × (Ahead s x.price x.turn p t → ⊥)) (λ x. (l x.number).side ≡ other s) m n → ⊥
    go (on_own x q r) = r.1 (ahead_of l s m n x.price x.turn p t e.side (subst (λ i. Same l s i x.price x.turn) q r.0.same) e ahead)
    go (on_opposite x q r) = two_sides s (sym e.side ∙ sym same ∙ ap (λ i. (l i).side) (sym q) ∙ r)
    go (in_hand q) = not_ahead_self s p t (ahead_of l s m n p t p t e.side (subst (λ i. Same l s i p t) (sym q) e) e ahead)

-- both have the lots
has_hand : {l : Entries} {s : Side} {next : ℕ} {own opp : List Order} {n k : ℕ} → Coupled l s next own opp n k → k ≤ left (l n)
has_hand {n = n} {k = k} c = omega (arith, c.conserved n, at_here n k 0)

has_first : {l : Entries} {s : Side} {next : ℕ} {own : List Order} {o : Order} {os : List Order} {n k : ℕ} → Coupled l s next own (o ∷ os) n k → o.lots ≤ left (l o.number)
has_first {o = o} c = omega (arith, c.conserved o.number, at_here o.number o.lots 0)

fair_trade : (r : Option Band) {s : Side} {l : Entries} (n q price j p lim : ℕ) → Inside r price → Between s lim p price → 0 < j → (l n).side ≡ s → (l n).limit ≡ lim → (l q).side ≡ other s → (l q).limit ≡ p → j ≤ left (l n) → j ≤ left (l q) → First l n → First l q → FairTrade r l (trade_at s n q price j)
fair_trade r {s = Buy} n q price j p lim a b z c d e f g h x y =
    record { buys = c; sells = e; some = z; has_buyer = g; has_seller = h; inside = a; up_to = omega (arith, b.1, d); from = omega (arith, b.0, f); first_buyer = x; first_seller = y }
fair_trade r {s = Sell} n q price j p lim a b z c d e f g h x y =
    record { buys = e; sells = c; some = z; has_buyer = h; has_seller = g; inside = a; up_to = omega (arith, b.1, f); from = omega (arith, b.0, d); first_buyer = y; first_seller = x }

-- where it meets anything, none of its own side is ahead of it
abbrev pub Leads : Option Band → Side → ℕ → ℕ → List Order → List Order → Type 0
Leads r s p t own opp = AllByRecursion (λ o. can_meet r s p o.price ≡ true → AllByRecursion (λ x. Ahead s x.price x.turn p t → ⊥) own) opp

pub fair_meeting : (r : Option Band) {s : Side} {next : ℕ} {own : List Order} (i : Incoming) (t k : ℕ) (os : List Order) (l : Entries) → Coupled l s next own os i.number k → Same l s i.number i.limit t → Leads r s i.limit t own os → FairTrades r l (meet r s i k os).trades
fair_meeting r i t k [] l c e d = tt
fair_meeting r {s} {next} {own} i t k (o ∷ os) l c e d = go (step_is r s i.limit k o) (fair_meeting r i t (k - o.lots) os)
  where
    one : (j : ℕ) → 0 < j → j ≤ k → j ≤ o.lots → can_meet r s i.limit o.price ≡ true → FairTrade r l (trade r s i o j)
    one j z u v a =
        let p = priced r s i.rested i.limit o a in
        let f = c.opps.0.same in
        fair_trade r i.number o.number (nearest r (resting_limit i.rested i.limit o)) j o.price i.limit p.0 p.1 z e.side e.limit f.side f.limit
        (omega (arith, has_hand c)) (omega (arith, has_first c)) (first_in_hand i.limit t c e (d.0 a)) (first_met c e.side)

    go : {w : Step} → StepIs r s i.limit k o w → ((j : Entries) → Coupled j s next own os i.number (k - o.lots) → Same j s i.number i.limit t → Leads r s i.limit t own os → FairTrades r j (meet r s i (k - o.lots) os).trades) → FairTrades r l (stepped w r s i k o os (meet r s i (k - o.lots) os)).trades
    go (is_done x) f = tt
    go (is_apart x a) f = tt
    go (is_part x a h) f = (one k x (omega arith) (omega arith) a, tt)
    go (is_whole x a h) f = (one o.lots c.opp_ordered.some.0 h (omega arith) a, f _ (coupled_whole r i c h) (same_by (refl, refl, refl) e) d.1)

pub deals_append : (a b : List Trade) (l : Entries) → deals (a ++ b) l ≡ deals b (deals a l)
deals_append [] b l = refl
deals_append (x ∷ a) b l = deals_append a b (deal x l)

pub fair_append : (r : Option Band) (a b : List Trade) (l : Entries) → FairTrades r l a → FairTrades r (deals a l) b → FairTrades r l (a ++ b)
fair_append r [] b l f g = g
fair_append r (x ∷ a) b l f g = (f.0, fair_append r a b (deal x l) f.1 g)
