-- A sweep that writes its trades into a table, one buy at a time.
use Rattle.std.proofs.Common.{◌≡◌, ℕ, suc, ◌+◌, ◌-◌, ◌<◌, ◌≤◌, cond, eqb, ◌⊎◌, List, [], ◌∷◌, ◌++◌, length, take, drop, Some, Option, sym, refl, ap, ◌∙◌, subst, inl, inr, arith, length-append, length-drop}
use Rattle.std.proofs.lemmas.List.{append_assoc, take_at, drop_at, drop-drop, length-take-le}
use Rattle.std.proofs.lemmas.Bool.{cases_eq, eq-eqb, ne_eqb}
use Rattle.std.specs.List.{AllByRecursion}
use Rattle.terms.specs.declared.side.Side.{Side}
use Rattle.terms.specs.declared.side.Side.TheVariants.{Buy}
use Rattle.terms.specs.declared.trade.Trade.{Trade}
use Rattle.queue.specs.Held.{Held, head, after_cut}
use Rattle.orders.specs.Priority.{rank_of, with_lots}
use Rattle.orders.specs.declared.order.Order.{Order}
use Rattle.price_range.specs.declared.band.Band.{Band}
use Rattle.rules.specs.Book.{holding}
use Rattle.rules.specs.Meeting.{Incoming, Step, stepped, Met, meet, lifted, first_meets, Swept, swept, sweep}
use Rattle.rules.specs.Tables.{written, Fits, FitsBoth, meet_at, sweeping_of, sweep_at}
use Rattle.rules.proofs.Coupling.{StepIs, is_done, is_apart, is_part, is_whole, step_is}
use Rattle.rules.proofs.Tables.{cut_first, cut_first_lem, written_none, split}

-- what a meeting leaves
pub record MeetLeaves (k : ℕ) (os : List Order) (m : Met) : Type 0 where
  pub left : m.left ≤ k
  pub trades : length m.trades ≤ length os
  pub lengths : length m.trades + length m.rest ≤ suc (length os)
  pub some : AllByRecursion (λ o. 0 < o.lots) m.rest
  pub traded : 0 < k → m.left ≡ 0 → 0 < length m.trades

pub meet_leaves : (r : Option Band) (s : Side) (i : Incoming) (k : ℕ) (os : List Order) → AllByRecursion (λ o. 0 < o.lots) os → MeetLeaves k os (meet r s i k os)
meet_leaves r s i k [] a = record { left = omega arith; trades = omega arith; lengths = omega arith; some = tt; traded = λ z e. omega arith }
meet_leaves r s i k (o ∷ os) a = go (step_is r s i.limit k o) (meet_leaves r s i (k - o.lots) os a.1)
  where
    go : {w : Step} → StepIs r s i.limit k o w → MeetLeaves (k - o.lots) os (meet r s i (k - o.lots) os) → MeetLeaves k (o ∷ os) (stepped w r s i k o os (meet r s i (k - o.lots) os))
    go (is_done e) f = record { left = omega arith; trades = omega arith; lengths = omega arith; some = a; traded = λ z q. absurd (omega arith) }
    go (is_apart e b) f = record { left = omega arith; trades = omega arith; lengths = omega arith; some = a; traded = λ z q. absurd (omega arith) }
    go (is_part e b h) f = record { left = omega arith; trades = omega arith; lengths = omega arith; some = (omega arith, a.1); traded = λ z q. omega arith }
    go (is_whole e b h) f =
        record {
          left = omega (arith, f.left);
          trades = omega (arith, f.trades);
          lengths = omega (arith, f.lengths);
          some = f.some;
          traded = λ z q. omega arith;
        }

-- tables
pub length-written : (place : ℕ) (ts table : List Trade) → place + length ts ≤ length table → length (written place ts table) ≡ length table
length-written place ts table h =
    let a = length-append (take place table) (ts ++ drop (place + length ts) table) in
    let b = length-append ts (drop (place + length ts) table) in
    let c = length-take-le place table (omega arith) in
    let d = length-drop (place + length ts) table in
    omega (arith, a, b, c, d)

pub written_append : (place : ℕ) (ts us table : List Trade) → place + length ts ≤ length table → written place (ts ++ us) table ≡ written (place + length ts) us (written place ts table)
written_append place ts us table h =
    let n = place + length ts in
    let front : length (take place table ++ ts) ≡ n = length-append (take place table) ts ∙ ap (λ k. k + length ts) (length-take-le place table (omega arith)) in
    let whole : written place ts table ≡ (take place table ++ ts) ++ drop n table = sym (append_assoc (take place table) ts (drop n table)) in
    let taken : take n (written place ts table) ≡ take place table ++ ts = ap (take n) whole ∙ take_at (take place table ++ ts) (drop n table) n front in
    let past : drop (n + length us) (written place ts table) ≡ drop (n + length us) table =
    sym (drop-drop (length us) n (written place ts table)) ∙ ap (drop (length us)) (ap (drop n) whole ∙ drop_at (take place table ++ ts) (drop n table) n front) ∙ drop-drop (length us) n table in
    let count : place + length (ts ++ us) ≡ n + length us = omega (arith, length-append ts us) in
    ap (λ k. take place table ++ ((ts ++ us) ++ drop k table)) count
    ∙ ap (λ x. take place table ++ x) (append_assoc ts us (drop (n + length us) table))
    ∙ sym (append_assoc (take place table) ts (us ++ drop (n + length us) table))
    ∙ sym (ap (λ x. x ++ (us ++ drop (n + length us) (written place ts table))) taken ∙ ap (λ x. take place table ++ ts ++ (us ++ x)) past)

-- the sweep of what is left after the first buy
sweeping_next : (m : Met) (w : Swept) (place : ℕ) (table : List Trade) → place + length m.trades ≤ length table → sweeping_of (record { trades = m.trades ++ w.trades; buys = w.buys; sells = w.sells }) place table ≡ sweeping_of w (place + length m.trades) (written place m.trades table)
sweeping_next m w place table h =
    let count : place + length (m.trades ++ w.trades) ≡ place + length m.trades + length w.trades = omega (arith, length-append m.trades w.trades) in
    λ i. record { table = written_append place m.trades w.trades table h i; place = count i; buys = w.buys; sells = w.sells }

pub sweep-next : (r : Option Band) (o : Order) (os sells : List Order) (place : ℕ) (table : List Trade) → place + length (first_meets r o sells).trades ≤ length table → (first_meets r o sells).left ≡ 0 → sweep_at r (o ∷ os) sells place table ≡ sweep_at r os (first_meets r o sells).rest (place + length (first_meets r o sells).trades) (written place (first_meets r o sells).trades table)
sweep-next r o os sells place table h e =
    let m = first_meets r o sells in
    ap (λ t. sweeping_of (swept t o os m (sweep r os m.rest)) place table) (eq-eqb m.left 0 e) ∙ sweeping_next m (sweep r os m.rest) place table h

pub sweep_last : (r : Option Band) (o : Order) (os sells : List Order) (place : ℕ) (table : List Trade) → 0 < (first_meets r o sells).left → record { table = written place (first_meets r o sells).trades table; place = place + length (first_meets r o sells).trades; buys = with_lots o (first_meets r o sells).left ∷ os; sells = (first_meets r o sells).rest } ≡ sweep_at r (o ∷ os) sells place table
sweep_last r o os sells place table z =
    let m = first_meets r o sells in
    ap (λ t. sweeping_of (swept t o os m (sweep r os m.rest)) place table) (sym (ne_eqb m.left 0 (λ e. omega arith)))

-- the first order of a queue is cut to the lots that are left
abbrev pub cut_to : Order → ℕ → List Order → List Order
cut_to o left os = cond (eqb left 0) os (with_lots o left ∷ os)

pub cut_to_lem : (s : Side) (h : Held Order) (o : Order) (os : List Order) (left : ℕ) → h.elements ≡ o ∷ os → 0 < o.lots → left ≤ o.lots → after_cut (rank_of s) h o.number (o.lots - left) ≡ holding h (cut_to o left os)
cut_to_lem s h o os left e z b = go (cases_eq left o.lots)
  where
    go : (left ≡ o.lots) ⊎ (left ≡ o.lots → ⊥) → after_cut (rank_of s) h o.number (o.lots - left) ≡ holding h (cut_to o left os)
    go (inl q) =
        let n : o.lots - left ≡ 0 = omega arith in
        rw (n, e, eq-eqb o.number o.number refl, ne_eqb left 0 (λ y. omega arith), q) refl
    go (inr d) =
        cut_first_lem s h o os (o.lots - left) e (omega (arith, d)) (omega arith) ∙ ap (holding h) (same (cases_eq left 0))
      where
        same : (left ≡ 0) ⊎ (left ≡ 0 → ⊥) → cut_first o (o.lots - left) os ≡ cut_to o left os
        same (inl q) = rw (eq-eqb o.lots (o.lots - left) (omega arith), eq-eqb left 0 q) refl
        same (inr y) =
            let n : o.lots - (o.lots - left) ≡ left = omega arith in
            rw (ne_eqb o.lots (o.lots - left) (λ q. omega (arith, y)), ne_eqb left 0 y, n) refl

-- the meeting of the first buy, as it came back
module _ (r : Option Band) (o : Order) (os sells : List Order) (place : ℕ) (table : List Trade) (fits : FitsBoth (o ∷ os) sells place table) where
  pub first_fits : Fits sells place table
  first_fits = record { some = fits.selling; room = omega (arith, fits.room) }

  leaves : MeetLeaves o.lots sells (first_meets r o sells)
  leaves = meet_leaves r Buy (lifted o) o.lots sells fits.selling

  module _ (table' : List Trade) (place' left : ℕ) (rest : List Order) (met : record { table = table'; place = place'; left = left; rest = rest } ≡ meet_at r Buy (lifted o) o.lots sells place table) where
    table_is : table' ≡ written place (first_meets r o sells).trades table
    table_is = ap (λ m. m.table) met

    place_is : place' ≡ place + length (first_meets r o sells).trades
    place_is = ap (λ m. m.place) met

    left_is : left ≡ (first_meets r o sells).left
    left_is = ap (λ m. m.left) met

    rest_is : rest ≡ (first_meets r o sells).rest
    rest_is = ap (λ m. m.rest) met

    room : place + length (first_meets r o sells).trades ≤ length table
    room = omega (arith, leaves.trades, fits.room)

    pub left_fits : left ≤ o.lots
    left_fits = omega (arith, leaves.left, left_is)

    pub some_traded : left ≡ 0 → place < place'
    some_traded e = omega (arith, leaves.traded fits.buying.0 (sym left_is ∙ e), place_is)

    pub sweep_goes_on : left ≡ 0 → FitsBoth os rest place' table' × (sweep_at r os rest place' table' ≡ sweep_at r (o ∷ os) sells place table)
    sweep_goes_on e = (
      record {
        buying = fits.buying.1;
        selling = subst (AllByRecursion (λ x. 0 < x.lots)) (sym rest_is) leaves.some;
        room = omega (arith, leaves.lengths, fits.room, place_is, ap length rest_is, ap length table_is, length-written place (first_meets r o sells).trades table room);
      },
      sym (sweep-next r o os sells place table room (sym left_is ∙ e) ∙ (λ i. sweep_at r os (sym rest_is i) (sym place_is i) (sym table_is i))),
    )

    pub sweep_stops : 0 < left → record { table = table'; place = place'; buys = with_lots o left ∷ os; sells = rest } ≡ sweep_at r (o ∷ os) sells place table
    sweep_stops z =
        (λ i. record { table = table_is i; place = place_is i; buys = with_lots o (left_is i) ∷ os; sells = rest_is i }) ∙ sweep_last r o os sells place table (subst (λ x. 0 < x) left_is z)

pub sweep_empty : (r : Option Band) (sells : List Order) (place : ℕ) (table : List Trade) → record { table = table; place = place; buys = []; sells = sells } ≡ sweep_at r [] sells place table
sweep_empty r sells place table =
    let p : place + 0 ≡ place = omega arith in
    sym (λ i. record { table = written_none place table i; place = p i; buys = []; sells = sells })

-- one round of the loop: the first buy is found, meets the sells, and its lots are cut off
module _ (h h' : Held Order) (o : Order) (first : Some o ≡ head h.elements) (r : Option Band) (sells : List Order) (place : ℕ) (table table' : List Trade) (place' left : ℕ) (rest : List Order) (fits : FitsBoth h.elements sells place table) (met : Fits sells place table → record { table = table'; place = place'; left = left; rest = rest } ≡ meet_at r Buy (lifted o) o.lots sells place table) (cut : h' ≡ after_cut (rank_of Buy) h o.number (o.lots - left)) where
  abbrev os : List Order
  os = (split Buy h o first).0

  list : h.elements ≡ o ∷ os
  list = (split Buy h o first).1

  fit : FitsBoth (o ∷ os) sells place table
  fit = subst (λ x. FitsBoth x sells place table) list fits

  came : record { table = table'; place = place'; left = left; rest = rest } ≡ meet_at r Buy (lifted o) o.lots sells place table
  came = met (first_fits r o os sells place table fit)

  cut_is : h'.elements ≡ cut_to o left os
  cut_is =
      ap (λ x. x.elements) (cut ∙ cut_to_lem Buy h o os left list fit.buying.0 (left_fits r o os sells place table fit table' place' left rest came))

  pub round_goes_on : left ≡ 0 → FitsBoth h'.elements rest place' table' × (sweep_at r h'.elements rest place' table' ≡ sweep_at r h.elements sells place table)
  round_goes_on z =
      let gone : h'.elements ≡ os = cut_is ∙ rw (eq-eqb left 0 z) refl in
      let on = sweep_goes_on r o os sells place table fit table' place' left rest came z in
      (subst (λ x. FitsBoth x rest place' table') (sym gone) on.0, ap (λ x. sweep_at r x rest place' table') gone ∙ on.1 ∙ ap (λ x. sweep_at r x sells place table) (sym list))

  round_stops : 0 < left → record { table = table'; place = place'; buys = h'.elements; sells = rest } ≡ sweep_at r h.elements sells place table
  round_stops z =
      let kept : h'.elements ≡ with_lots o left ∷ os = cut_is ∙ rw (ne_eqb left 0 (λ y. omega arith)) refl in
      ap (λ x. record { table = table'; place = place'; buys = x; sells = rest }) kept ∙ sweep_stops r o os sells place table fit table' place' left rest came z
      ∙ ap (λ x. sweep_at r x sells place table) (sym list)

  -- lots are left; a buy of which none are left did trade
  pub round_ends : (0 < left) ⊎ ((left ≤ 0) × (place' ≤ place)) → record { table = table'; place = place'; buys = h'.elements; sells = rest } ≡ sweep_at r h.elements sells place table
  round_ends (inl z) = round_stops z
  round_ends (inr z) = absurd (omega (arith, z.1, some_traded r o os sells place table fit table' place' left rest came (omega (arith, z.0))))
