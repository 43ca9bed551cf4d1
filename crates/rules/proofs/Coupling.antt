-- The ledger and the two sides of a book agree, also with some lots of one number in hand, and each step of a call keeps that.
use Rattle.std.proofs.Common.{◌≡◌, ℕ, ◌+◌, ◌-◌, ◌<◌, ◌≤◌, Bool, true, false, cond, eqb, ltb, ◌⊎◌, List, [], ◌∷◌, Option, sym, refl, ap, ◌∙◌, subst, inl, inr, arith}
use Rattle.std.proofs.lemmas.Bool.{cases_eq, eqb-true, ne_eqb, or_from}
use Rattle.std.proofs.lemmas.Bool.Decides.{nat_tests}
use Rattle.std.specs.List.{AllByRecursion}
use Rattle.terms.specs.declared.side.Side.{Side}
use Rattle.terms.specs.declared.side.Side.TheVariants.{Buy, Sell}
use Rattle.terms.specs.declared.trade.Trade.{Trade}
use Rattle.queue.specs.Held.{Ordered, any, clash, insert, remove, change}
use Rattle.queue.specs.Rank.{OnlyLots}
use Rattle.queue.proofs.Cuts.{ordered-change}
use Rattle.queue.proofs.Inserts.{all_map, all_insert}
use Rattle.queue.proofs.Puts.{ordered-insert}
use Rattle.queue.proofs.Removes.{all_remove, ordered-remove}
use Rattle.orders.specs.Priority.{before, rank_of, with_lots}
use Rattle.orders.specs.declared.order.Order.{Order}
use Rattle.price_range.specs.declared.band.Band.{Band}
use Rattle.rules.specs.Book.{other}
use Rattle.rules.specs.Laws.{under}
use Rattle.rules.specs.Ledger.{Entry, Entries, at, left, drop_orders, deal, deals}
use Rattle.rules.specs.Meeting.{Incoming, can_meet, trade, trade_at, Step, stop, part, whole, step, stepped, Met, meet, joined, nearest, resting_limit}
use Rattle.rules.specs.Rules.{number_is}
use Rattle.rules.proofs.Entries.{at_here, at_other, at_zero, at_cut, all_both, Absent, under_absent, under-insert, under_others, absent_removed}
use Rattle.rules.proofs.Priorities.{before_transitive, before_connected, apart_later, two_sides}

-- what stays the same while lots trade
pub record Same (l : Entries) (s : Side) (n p t : ℕ) : Type 0 where
  pub side : (l n).side ≡ s
  pub limit : (l n).limit ≡ p
  pub turn : (l n).turn ≡ t

-- an order that rests is known to the ledger
pub record Known (s : Side) (next : ℕ) (l : Entries) (o : Order) : Type 0 where
  pub same : Same l s o.number o.price o.turn
  pub number : o.number < next
  pub turn : o.turn < next

-- with k lots of the number n in hand
pub record Coupled (l : Entries) (s : Side) (next : ℕ) (own opp : List Order) (n k : ℕ) : Type 0 where
  pub conserved : (m : ℕ) → (l m).entered ≡ (l m).traded + (l m).cancelled + (under m own + under m opp) + at n m k 0
  pub fresh : (m : ℕ) → next ≤ m → (l m).entered ≡ 0
  pub owns : AllByRecursion (Known s next l) own
  pub opps : AllByRecursion (Known (other s) next l) opp
  pub own_ordered : Ordered (rank_of s) own
  pub opp_ordered : Ordered (rank_of (other s)) opp

-- entries with the same side, limit and turn
abbrev pub SameEntry : Entry → Entry → Type 0
SameEntry e f = (e.side ≡ f.side) × (e.limit ≡ f.limit) × (e.turn ≡ f.turn)

pub same_by : {l i : Entries} {s : Side} {n p t : ℕ} → SameEntry (i n) (l n) → Same l s n p t → Same i s n p t
same_by e h = record { side = e.0 ∙ h.side; limit = e.1 ∙ h.limit; turn = e.2 ∙ h.turn }

pub known_by : {l i : Entries} {s : Side} {next next' : ℕ} (o : Order) → SameEntry (i o.number) (l o.number) → next ≤ next' → Known s next l o → Known s next' i o
known_by o e h k = record { same = same_by e k.same; number = omega (arith, k.number); turn = omega (arith, k.turn) }

-- ordered lists
pub ordered_tail : (s : Side) {o : Order} {os : List Order} → Ordered (rank_of s) (o ∷ os) → Ordered (rank_of s) os
ordered_tail s h = record { sorted = h.sorted.1; numbers = h.numbers.1; keys = h.keys.1; some = h.some.1 }

pub ordered_lots : (s : Side) {o : Order} {os : List Order} (k : ℕ) → 0 < k → Ordered (rank_of s) (o ∷ os) → Ordered (rank_of s) (with_lots o k ∷ os)
ordered_lots Buy k z h = record { sorted = h.sorted; numbers = h.numbers; keys = h.keys; some = (z, h.some.1) }
ordered_lots Sell k z h = record { sorted = h.sorted; numbers = h.numbers; keys = h.keys; some = (z, h.some.1) }

pub ordered-joined : (s : Side) (o : Order) (os : List Order) → 0 < o.lots → AllByRecursion (λ x. (x.number ≡ o.number → ⊥) × (x.turn ≡ o.turn → ⊥)) os → Ordered (rank_of s) os → Ordered (rank_of s) (insert (before s) o os)
ordered-joined s o os z a h = ordered-insert (rank_of s) (before_transitive s) (before_connected s) os o (λ e. omega arith) (clear os a) h
  where
    clear : (xs : List Order) → AllByRecursion (λ x. (x.number ≡ o.number → ⊥) × (x.turn ≡ o.turn → ⊥)) xs → any (clash (rank_of s) o) xs ≡ false
    clear [] b = refl
    clear (x ∷ xs) b =
        or_from _ _ (or_from _ _ (ne_eqb x.number o.number b.0.0) (ne_eqb x.turn o.turn b.0.1)) (clear xs b.1)

only_lots : (s : Side) (x : Order) (m : ℕ) → OnlyLots (rank_of s) x m
only_lots Buy x m = record { number = refl; key = refl; lots = refl; before = λ y. refl; after = λ y. refl }
only_lots Sell x m = record { number = refl; key = refl; lots = refl; before = λ y. refl; after = λ y. refl }

pub ordered-changed : (s : Side) (n k : ℕ) (os : List Order) → 0 < k → Ordered (rank_of s) os → Ordered (rank_of s) (change (number_is n) (λ o. with_lots o k) os)
ordered-changed s n k os z h = ordered-change (number_is n) (rank_of s) (only_lots s) k z os h

-- a trade
deal_traded : (s : Side) (n q price k m : ℕ) (l : Entries) → (deal (trade_at s n q price k) l m).traded ≡ (l m).traded + at n m k 0 + at q m k 0
deal_traded Buy n q price k m l = refl
deal_traded Sell n q price k m l = omega arith

module _ (r : Option Band) {l : Entries} {s : Side} {next : ℕ} {own : List Order} (i : Incoming) {o : Order} {os : List Order} {k : ℕ} where
  pub coupled_whole : Coupled l s next own (o ∷ os) i.number k → o.lots ≤ k → Coupled (deal (trade r s i o o.lots) l) s next own os i.number (k - o.lots)
  coupled_whole c h =
      record {
        conserved = λ m. omega (arith, c.conserved m, deal_traded s i.number o.number (nearest r (resting_limit i.rested i.limit o)) o.lots m l, at_cut i.number m o.lots k h);
        fresh = c.fresh;
        owns = all_map (λ x e. known_by x (refl, refl, refl) (omega arith) e) own c.owns;
        opps = all_map (λ x e. known_by x (refl, refl, refl) (omega arith) e) os c.opps.1;
        own_ordered = c.own_ordered;
        opp_ordered = ordered_tail (other s) c.opp_ordered;
      }

  pub coupled_part : Coupled l s next own (o ∷ os) i.number k → k < o.lots → Coupled (deal (trade r s i o k) l) s next own (with_lots o (o.lots - k) ∷ os) i.number 0
  coupled_part c h =
      record {
        conserved = λ m. omega (arith, c.conserved m, deal_traded s i.number o.number (nearest r (resting_limit i.rested i.limit o)) k m l, at_cut o.number m k o.lots (omega arith), at_zero i.number m);
        fresh = c.fresh;
        owns = all_map (λ x e. known_by x (refl, refl, refl) (omega arith) e) own c.owns;
        opps = all_map (λ x e. known_by x (refl, refl, refl) (omega arith) e) (with_lots o (o.lots - k) ∷ os) (again c.opps.0, c.opps.1);
        own_ordered = c.own_ordered;
        opp_ordered = ordered_lots (other s) (o.lots - k) (omega arith) c.opp_ordered;
      }
    where
      again : Known (other s) next l o → Known (other s) next l (with_lots o (o.lots - k))
      again e = record { same = e.same; number = e.number; turn = e.turn }

-- what a step is
pub data StepIs (r : Option Band) (s : Side) (l k : ℕ) (o : Order) : Step → Type 0 where
  is_done : k ≡ 0 → StepIs r s l k o stop
  is_apart : 0 < k → can_meet r s l o.price ≡ false → StepIs r s l k o stop
  is_part : 0 < k → can_meet r s l o.price ≡ true → k < o.lots → StepIs r s l k o part
  is_whole : 0 < k → can_meet r s l o.price ≡ true → o.lots ≤ k → StepIs r s l k o whole

pub step_is : (r : Option Band) (s : Side) (l k : ℕ) (o : Order) → StepIs r s l k o (step r s l k o)
step_is r s l k o = go (eqb k 0) (can_meet r s l o.price) (ltb k o.lots) refl refl refl
  where
    go : (x y z : Bool) → eqb k 0 ≡ x → can_meet r s l o.price ≡ y → ltb k o.lots ≡ z → StepIs r s l k o (cond x stop (cond y (cond z part whole) stop))
    go true y z e f g = is_done (eqb-true k 0 e)
    go false true true e f g = is_part (grind (arith, nat_tests)) f (grind (arith, nat_tests))
    go false true false e f g = is_whole (grind (arith, nat_tests)) f (grind (arith, nat_tests))
    go false false z e f g = is_apart (grind (arith, nat_tests)) f

abbrev pub CoupledMet : Entries → Side → ℕ → List Order → ℕ → Met → Type 0
CoupledMet l s next own n m = Coupled (deals m.trades l) s next own m.rest n m.left

pub meeting : (r : Option Band) {s : Side} {next : ℕ} {own : List Order} (i : Incoming) (k : ℕ) (os : List Order) (l : Entries) → Coupled l s next own os i.number k → CoupledMet l s next own i.number (meet r s i k os)
meeting r i k [] l c = c
meeting r {s} {next} {own} i k (o ∷ os) l c = go (step_is r s i.limit k o) (meeting r i (k - o.lots) os)
  where
    go : {w : Step} → StepIs r s i.limit k o w → ((j : Entries) → Coupled j s next own os i.number (k - o.lots) → CoupledMet j s next own i.number (meet r s i (k - o.lots) os)) → CoupledMet l s next own i.number (stepped w r s i k o os (meet r s i (k - o.lots) os))
    go (is_done e) f = c
    go (is_apart e a) f = c
    go (is_part e a h) f = coupled_part r i c h
    go (is_whole e a h) f = f _ (coupled_whole r i c h)

-- lots that are left cannot meet what is left of the other side
pub spent : (r : Option Band) (s : Side) (i : Incoming) (k : ℕ) (os : List Order) → Ordered (rank_of (other s)) os → 0 < (meet r s i k os).left → AllByRecursion (λ o. can_meet r s i.limit o.price ≡ false) (meet r s i k os).rest
spent r s i k [] d h = tt
spent r s i k (o ∷ os) d h = go (step_is r s i.limit k o) (spent r s i (k - o.lots) os (ordered_tail (other s) d)) h
  where
    go : {w : Step} → StepIs r s i.limit k o w → (0 < (meet r s i (k - o.lots) os).left → AllByRecursion (λ x. can_meet r s i.limit x.price ≡ false) (meet r s i (k - o.lots) os).rest) → 0 < (stepped w r s i k o os (meet r s i (k - o.lots) os)).left → AllByRecursion (λ x. can_meet r s i.limit x.price ≡ false) (stepped w r s i k o os (meet r s i (k - o.lots) os)).rest
    go (is_done e) f g = absurd (omega arith)
    go (is_apart e a) f g = (a, all_map (λ x b. apart_later r s i.limit o x a b) os d.sorted.0)
    go (is_part e a b) f g = absurd (omega arith)
    go (is_whole e a b) f g = f g

-- what does not speak of lots stays true of the other side
pub all_met : (P : Order → Type 0) → ((o : Order) (k : ℕ) → P o → P (with_lots o k)) → (r : Option Band) (s : Side) (i : Incoming) (k : ℕ) (os : List Order) → AllByRecursion P os → AllByRecursion P (meet r s i k os).rest
all_met P f r s i k [] a = tt
all_met P f r s i k (o ∷ os) a = go (step r s i.limit k o) (all_met P f r s i (k - o.lots) os a.1)
  where
    go : (w : Step) → AllByRecursion P (meet r s i (k - o.lots) os).rest → AllByRecursion P (stepped w r s i k o os (meet r s i (k - o.lots) os)).rest
    go stop g = a
    go part g = (f o _ a.0, a.1)
    go whole g = g

-- trades leave side, limit and turn
pub deals_same : (ts : List Trade) (l : Entries) (m : ℕ) → SameEntry (deals ts l m) (l m)
deals_same [] l m = (refl, refl, refl)
deals_same (t ∷ ts) l m = deals_same ts (deal t l) m

-- nothing in hand
pub idle : {l : Entries} {s : Side} {next : ℕ} {own opp : List Order} {n : ℕ} (q : ℕ) → Coupled l s next own opp n 0 → Coupled l s next own opp q 0
idle {n = n} q c =
    record {
      conserved = λ m. omega (arith, c.conserved m, at_zero n m, at_zero q m);
      fresh = c.fresh;
      owns = c.owns;
      opps = c.opps;
      own_ordered = c.own_ordered;
      opp_ordered = c.opp_ordered;
    }

-- the sides exchanged
pub turned : {l : Entries} {s : Side} {next : ℕ} {own opp : List Order} {n k : ℕ} → Coupled l s next own opp n k → Coupled l (other s) next opp own n k
turned {s = Buy} c =
    record { conserved = λ m. omega (arith, c.conserved m); fresh = c.fresh; owns = c.opps; opps = c.owns; own_ordered = c.opp_ordered; opp_ordered = c.own_ordered }
turned {s = Sell} c =
    record { conserved = λ m. omega (arith, c.conserved m); fresh = c.fresh; owns = c.opps; opps = c.owns; own_ordered = c.opp_ordered; opp_ordered = c.own_ordered }

-- no order of the other side has a number that is known on this one
pub absent_opposite : (l : Entries) (s : Side) (next n : ℕ) (opp : List Order) → (l n).side ≡ s → AllByRecursion (Known (other s) next l) opp → Absent n opp
absent_opposite l s next n opp e a = all_map (λ o k q. two_sides s (sym e ∙ ap (λ m. (l m).side) (sym q) ∙ k.same.side)) opp a

-- an order in hand takes its place
pub coupled_placed : {l : Entries} {s : Side} {next : ℕ} {own opp : List Order} (o : Order) → Coupled l s next own opp o.number o.lots → Known s next l o → Absent o.number own → AllByRecursion (λ x. x.turn ≡ o.turn → ⊥) own → 0 < o.lots → Coupled l s next (insert (before s) o own) opp 0 0
coupled_placed {l} {s} {next} {own} {opp} o c e a b z =
    record {
      conserved = λ m. omega (arith, c.conserved m, under-insert (before s) m o own, at_zero 0 m);
      fresh = c.fresh;
      owns = all_insert (before s) o (Known s next l) own e c.owns;
      opps = c.opps;
      own_ordered = ordered-joined s o own z (all_both (λ x u v. (u, v)) own a b) c.own_ordered;
      opp_ordered = c.opp_ordered;
    }

-- the remainder of an order joins its side
pub coupled_joined : {l : Entries} {s : Side} {next : ℕ} {own opp : List Order} (o : Order) → Coupled l s next own opp o.number o.lots → Known s next l o → Absent o.number own → AllByRecursion (λ x. x.turn ≡ o.turn → ⊥) own → Coupled l s next (joined s o own) opp 0 0
coupled_joined {l} {s} {next} {own} {opp} o c e a b = go (eqb o.lots 0) refl
  where
    go : (t : Bool) → eqb o.lots 0 ≡ t → Coupled l s next (cond t own (insert (before s) o own)) opp 0 0
    go true q = idle 0 (subst (λ x. Coupled l s next own opp o.number x) (eqb-true o.lots 0 q) c)
    go false q = coupled_placed o c e a b (grind (arith, nat_tests))

-- the remainder of the number in hand is cancelled
pub coupled_lapsed : {l : Entries} {s : Side} {next : ℕ} {own opp : List Order} {n k : ℕ} → Coupled l s next own opp n k → Absent n own → Absent n opp → Coupled (drop_orders n l) s next own opp 0 0
coupled_lapsed {l} {s} {next} {own} {opp} {n} {k} c a b =
    record {
      conserved = λ m. count m (cases_eq m n);
      fresh = c.fresh;
      owns = all_map (λ x e. known_by x (refl, refl, refl) (omega arith) e) own c.owns;
      opps = all_map (λ x e. known_by x (refl, refl, refl) (omega arith) e) opp c.opps;
      own_ordered = c.own_ordered;
      opp_ordered = c.opp_ordered;
    }
  where
    count : (m : ℕ) → (m ≡ n) ⊎ (m ≡ n → ⊥) → (l m).entered ≡ (l m).traded + ((l m).cancelled + at n m (left (l n)) 0) + (under m own + under m opp) + at 0 m 0 0
    count m (inl e) = rw e (omega (arith, c.conserved n, at_here n (left (l n)) 0, at_here n k 0, under_absent n own a, under_absent n opp b, at_zero 0 n))
    count m (inr d) = omega (arith, c.conserved m, at_other n m (left (l n)) 0 d, at_other n m k 0 d, at_zero 0 m)

-- a number of the side is cancelled, whether it rests or not
pub coupled_dropped : {l : Entries} {s : Side} {next : ℕ} {own opp : List Order} (n : ℕ) → (l n).side ≡ s → Coupled l s next own opp 0 0 → Coupled (drop_orders n l) s next (remove (number_is n) own) opp 0 0
coupled_dropped {l} {s} {next} {own} {opp} n e c =
    record {
      conserved = λ m. count m (cases_eq m n);
      fresh = c.fresh;
      owns = all_map (λ x k. known_by x (refl, refl, refl) (omega arith) k) (remove (number_is n) own) (all_remove (number_is n) (Known s next l) own c.owns);
      opps = all_map (λ x k. known_by x (refl, refl, refl) (omega arith) k) opp c.opps;
      own_ordered = ordered-remove (number_is n) (rank_of s) own c.own_ordered;
      opp_ordered = c.opp_ordered;
    }
  where
    count : (m : ℕ) → (m ≡ n) ⊎ (m ≡ n → ⊥) → (l m).entered ≡ (l m).traded + ((l m).cancelled + at n m (left (l n)) 0) + (under m (remove (number_is n) own) + under m opp) + at 0 m 0 0
    count m (inl q) =
        rw q
        (omega (arith, c.conserved n, at_here n (left (l n)) 0, under_absent n (remove (number_is n) own) (absent_removed n own c.own_ordered.numbers), under_absent n opp (absent_opposite l s next n opp e c.opps), at_zero 0 n))
    count m (inr d) = omega (arith, c.conserved m, at_other n m (left (l n)) 0 d, under_others n m own d, at_zero 0 m)
