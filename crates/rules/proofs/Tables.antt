-- A meeting that writes its trades into a table, one step at a time.
use Rattle.std.proofs.Common.{◌≡◌, ℕ, suc, ◌+◌, ◌-◌, ◌<◌, ◌≤◌, min, true, cond, eqb, List, [], ◌∷◌, ◌++◌, length, take, drop, set, Some, Option, sym, refl, ap, ◌∙◌, subst, arith, length-set, take-suc-set, drop-set-lt}
use Rattle.std.proofs.lemmas.List.{append_assoc, take-append-drop}
use Rattle.std.proofs.lemmas.Bool.{eq-eqb, ne_eqb, le-leb, true≢false}
use Rattle.terms.specs.declared.side.Side.{Side}
use Rattle.terms.specs.declared.trade.Trade.{Trade}
use Rattle.std.specs.List.{AllByRecursion}
use Rattle.queue.specs.Held.{Held, after_cut, head}
use Rattle.orders.specs.Priority.{rank_of, with_lots}
use Rattle.orders.specs.declared.order.Order.{Order}
use Rattle.price_range.specs.declared.band.Band.{Band}
use Rattle.rules.specs.Meeting.{Incoming, can_meet, Step, stepped, trade, Met, meet}
use Rattle.rules.specs.Tables.{written, Fits, meeting_of, meet_at}
use Rattle.rules.proofs.Coupling.{StepIs, is_done, is_apart, is_part, is_whole, step_is}

pub written_none : (place : ℕ) (table : List Trade) → written place [] table ≡ table
written_none place table = let e : place + 0 ≡ place = omega arith in rw e (take-append-drop place table)

pub written_next : (place : ℕ) (t : Trade) (ts table : List Trade) → place < length table → written place (t ∷ ts) table ≡ written (place + 1) ts (set table place t)
written_next place t ts table h =
    let e : place + suc (length ts) ≡ place + 1 + length ts = omega arith in
    let f : suc place ≡ place + 1 = omega arith in
    let front : take (place + 1) (set table place t) ≡ take place table ++ (t ∷ []) = ap (λ n. take n (set table place t)) (sym f) ∙ take-suc-set table place t h in
    let back : drop (place + 1 + length ts) (set table place t) ≡ drop (place + 1 + length ts) table = drop-set-lt (place + 1 + length ts) table place t (omega arith) in
    ap (λ n. take place table ++ (t ∷ (ts ++ drop n table))) e
    ∙ sym (append_assoc (take place table) (t ∷ []) (ts ++ drop (place + 1 + length ts) table))
    ∙ sym (ap (λ xs. xs ++ (ts ++ drop (place + 1 + length ts) (set table place t))) front ∙ ap (λ xs. take place table ++ (t ∷ []) ++ (ts ++ xs)) back)

-- an order loses lots, and goes where it has none left
abbrev pub cut_first : Order → ℕ → List Order → List Order
cut_first o d os = cond (eqb o.lots d) os (with_lots o (o.lots - d) ∷ os)

meet_zero : (r : Option Band) (s : Side) (i : Incoming) (os : List Order) → meet r s i 0 os ≡ record { trades = []; left = 0; rest = os }
meet_zero r s i [] = refl
meet_zero r s i (o ∷ os) = refl

-- one trade, and then the meeting of what is left
meeting_next : (m : Met) (t : Trade) (place : ℕ) (table : List Trade) → place < length table → meeting_of (record { trades = t ∷ m.trades; left = m.left; rest = m.rest }) place table ≡ meeting_of m (place + 1) (set table place t)
meeting_next m t place table h =
    let e : place + suc (length m.trades) ≡ place + 1 + length m.trades = omega arith in
    λ j. record { table = written_next place t m.trades table h j; place = e j; left = m.left; rest = m.rest }

pub meet-next : (r : Option Band) (s : Side) (i : Incoming) (k d : ℕ) (o : Order) (os : List Order) (place : ℕ) (table : List Trade) → 0 < k → d ≡ min k o.lots → can_meet r s i.limit o.price ≡ true → place < length table → meet_at r s i k (o ∷ os) place table ≡ meet_at r s i (k - d) (cut_first o d os) (place + 1) (set table place (trade r s i o d))
meet-next r s i k d o os place table z e m h = go (step_is r s i.limit k o)
  where
    go : {w : Step} → StepIs r s i.limit k o w → meeting_of (stepped w r s i k o os (meet r s i (k - o.lots) os)) place table ≡ meet_at r s i (k - d) (cut_first o d os) (place + 1) (set table place (trade r s i o d))
    go (is_done f) = absurd (omega arith)
    go (is_apart f a) = absurd (true≢false (sym m ∙ a))
    go (is_part f a b) =
        let q : k ≡ d = omega arith in
        let n : k - d ≡ 0 = omega arith in
        let keep : cut_first o d os ≡ with_lots o (o.lots - d) ∷ os = rw (ne_eqb o.lots d (λ x. omega arith)) refl in
        rw (n, keep)
        (ap (λ x. meeting_of (record { trades = trade r s i o x ∷ []; left = 0; rest = with_lots o (o.lots - x) ∷ os }) place table) q
        ∙ meeting_next (record { trades = []; left = 0; rest = with_lots o (o.lots - d) ∷ os }) (trade r s i o d) place table h)
    go (is_whole f a b) =
        let q : o.lots ≡ d = omega arith in
        let gone : cut_first o d os ≡ os = rw (eq-eqb o.lots d q) refl in
        rw gone
        (ap (λ x. meeting_of (record { trades = trade r s i o x ∷ (meet r s i (k - x) os).trades; left = (meet r s i (k - x) os).left; rest = (meet r s i (k - x) os).rest }) place table) q
        ∙ meeting_next (meet r s i (k - d) os) (trade r s i o d) place table h)

-- where it ends
pub ends : (m : Met) (k : ℕ) (os : List Order) (place : ℕ) (table : List Trade) → m ≡ record { trades = []; left = k; rest = os } → record { table = table; place = place; left = k; rest = os } ≡ meeting_of m place table
ends m k os place table e =
    let p : place + 0 ≡ place = omega arith in
    sym (ap (λ x. meeting_of x place table) e ∙ (λ j. record { table = written_none place table j; place = p j; left = k; rest = os }))

pub meet_done : (r : Option Band) (s : Side) (i : Incoming) (k : ℕ) (os : List Order) (place : ℕ) (table : List Trade) → k ≡ 0 → record { table = table; place = place; left = k; rest = os } ≡ meet_at r s i k os place table
meet_done r s i k os place table e =
    ends (meet r s i k os) k os place table (ap (λ x. meet r s i x os) e ∙ meet_zero r s i os ∙ ap (λ x. record { trades = []; left = x; rest = os }) (sym e))

pub meet_empty : (r : Option Band) (s : Side) (i : Incoming) (k : ℕ) (os : List Order) (place : ℕ) (table : List Trade) → os ≡ [] → record { table = table; place = place; left = k; rest = os } ≡ meet_at r s i k os place table
meet_empty r s i k os place table e =
    ends (meet r s i k os) k os place table (ap (λ x. meet r s i k x) e ∙ ap (λ x. record { trades = []; left = k; rest = x }) (sym e))

-- a cut of the first order of a queue
pub cut_first_lem : (s : Side) (h : Held Order) (o : Order) (os : List Order) (d : ℕ) → h.elements ≡ o ∷ os → 0 < d → d ≤ o.lots → after_cut (rank_of s) h o.number d ≡ record { capacity = h.capacity; elements = cut_first o d os }
cut_first_lem s h o os d e z b =
    rw (e, eq-eqb o.number o.number refl, le-leb 1 d z, le-leb d o.lots b) refl

-- one round of the loop: the first order is found, a trade is written, and its lots are cut off
pub record Onward (r : Option Band) (s : Side) (i : Incoming) (k : ℕ) (os : List Order) (place : ℕ) (table : List Trade) (k' : ℕ) (os' : List Order) (table' : List Trade) : Type 0 where
  pub fits : 0 < k' → Fits os' (place + 1) table'
  pub meets : meet_at r s i k' os' (place + 1) table' ≡ meet_at r s i k os place table

onward : (r : Option Band) (s : Side) (i : Incoming) (k d : ℕ) (o : Order) (os : List Order) (place : ℕ) (table : List Trade) → 0 < k → d ≡ min k o.lots → can_meet r s i.limit o.price ≡ true → Fits (o ∷ os) place table → Onward r s i k (o ∷ os) place table (k - d) (cut_first o d os) (set table place (trade r s i o d))
onward r s i k d o os place table z e m f =
    record {
      fits = λ y.
          let q : o.lots ≡ d = omega (arith, f.some.0) in
          let gone : cut_first o d os ≡ os = rw (eq-eqb o.lots d q) refl in
          record { some = subst (AllByRecursion (λ x. 0 < x.lots)) (sym gone) f.some.1; room = rw gone (omega (arith, f.room, length-set table place (trade r s i o d))) };
      meets = sym (meet-next r s i k d o os place table z e m (omega (arith, f.room)));
    }

module _ (t : Side) (h : Held Order) (o : Order) (first : Some o ≡ head h.elements) where
  pub split : (os : List Order) × (h.elements ≡ o ∷ os)
  split = go h.elements first
    where
      go : (xs : List Order) → Some o ≡ head xs → (os : List Order) × (xs ≡ o ∷ os)
      go [] w = let z : ◌≡◌ {A = ℕ} 0 1 = cc in absurd (omega arith)
      go (x ∷ xs) w = let s : o ≡ x = cc in (xs, ap (λ y. y ∷ xs) (sym s))

  pub meet_cut : (r : Option Band) (s : Side) (i : Incoming) (k d place : ℕ) (table : List Trade) (h' : Held Order) → 0 < k → d ≡ min k o.lots → can_meet r s i.limit o.price ≡ true → Fits h.elements place table → h' ≡ after_cut (rank_of t) h o.number d → Onward r s i k h.elements place table (k - d) h'.elements (set table place (trade r s i o d))
  meet_cut r s i k d place table h' z b m w u =
      let os = split.0 in
      let fits : Fits (o ∷ os) place table = subst (λ x. Fits x place table) split.1 w in
      let cut : h' ≡ record { capacity = h.capacity; elements = cut_first o d os } = u ∙ cut_first_lem t h o os d split.1 (omega (arith, fits.some.0)) (omega arith) in
      subst (λ x. Onward r s i k x place table (k - d) h'.elements (set table place (trade r s i o d))) (sym split.1)
      (subst (λ x. Onward r s i k (o ∷ os) place table (k - d) x (set table place (trade r s i o d))) (sym (ap (λ x. x.elements) cut)) (onward r s i k d o os place table z b m fits))

pub stops_full : (os : List Order) (r : Option Band) (s : Side) (i : Incoming) (k place : ℕ) (table : List Trade) → length table ≤ place → Fits os place table → record { table = table; place = place; left = k; rest = os } ≡ meet_at r s i k os place table
stops_full [] r s i k place table h f = meet_empty r s i k [] place table refl
stops_full (o ∷ os) r s i k place table h f = absurd (omega (arith, f.room))
