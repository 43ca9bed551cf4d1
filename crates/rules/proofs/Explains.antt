-- What each call's outcome says holds.
use Rattle.std.proofs.Common.{◌≡◌, ℕ, ◌+◌, ◌-◌, ◌<◌, ◌≤◌, Bool, true, false, cond, List, [], Some, None, Option, sym, refl, ap, ◌∙◌, subst, arith}
use Rattle.terms.specs.declared.message.OrderCancel.{OrderCancel}
use Rattle.terms.specs.declared.message.OrderChange.{OrderChange}
use Rattle.terms.specs.declared.message.OrderEntry.{OrderEntry}
use Rattle.terms.specs.declared.message.QuoteEntry.{QuoteEntry}
use Rattle.terms.specs.declared.message.Quoted.{Quoted}
use Rattle.terms.specs.declared.side.Side.{Side}
use Rattle.terms.specs.declared.side.Side.TheVariants.{Buy, Sell}
use Rattle.terms.specs.declared.side.TimeInForce.{TimeInForce}
use Rattle.queue.specs.Held.{first, remove}
use Rattle.queue.proofs.Inserts.{all_map}
use Rattle.orders.specs.declared.order.Found.{Found}
use Rattle.orders.specs.declared.order.Order.{Order}
use Rattle.price_range.specs.declared.band.Band.{Band}
use Rattle.rules.specs.Accounts.{cancelled_below, under_legs}
use Rattle.rules.specs.Book.{Book, Phase, waiting, trading, halted, closed, other, on, band}
use Rattle.rules.specs.Calls.{Call, order, quote, renew, change, cancel, end}
use Rattle.rules.specs.Checks as checks
use Rattle.rules.specs.Checks.{found, leg_lots, bid_of, ask_of}
use Rattle.rules.specs.Fills.{Filled, range_in}
use Rattle.rules.specs.Keeps.{Explained}
use Rattle.rules.specs.Laws.{under}
use Rattle.rules.specs.Ledger as ledger
use Rattle.rules.specs.Ledger.{Entries, at, left, by_outcome, deals, drop_orders, drop_legs, enter, posts, replace, resize}
use Rattle.rules.specs.Meeting as meeting
use Rattle.rules.specs.Meeting.{Entered, incoming, meet}
use Rattle.rules.specs.Reasons.{InPlace}
use Rattle.rules.specs.Rules.{Ruled, laid, entering, order_entered, ordered, quote_swept, quoted, renewed, number_is, lowered, cut_in_place, changing, change_entered, reentered, changed, cancelled, ended, meeting_band}
use Rattle.rules.proofs.Accounts.{below_same, below-sum, below-under, under_lots, left-under, dropped, deals-cancelled, under_sides, rests_entered}
use Rattle.rules.proofs.Agreement.{Agrees, ledger_of, to_side, lapses_same, found-on, known_found, keeps_same, kept_quote}
use Rattle.rules.proofs.Coupling.{Coupled, Same, absent_opposite, all_met, coupled_dropped, meeting as coupled-meeting, turned}
use Rattle.rules.proofs.Entries.{at_here, at_zero, Absent, absent_removed, under_absent}
use Rattle.rules.proofs.Fills.{filled}
use Rattle.rules.proofs.Postings.{Legs, coupled_entered, left-found, next_absent, under-set}
use Rattle.rules.proofs.Reasons.{by_place}

abbrev pub Explains : Call → Entries → Book → Ruled → Type 0
Explains c l b x = Explained x.outcome c x.trades l (by_outcome x.outcome (posts c x.trades (ledger_of b l)) (ledger_of b l)).entry b x.book

-- the other side of what was laid
on-laid : (s : Side) (n : ℕ) (b : Book) (own opp : List Order) → opp ≡ (on (other s) (laid s n b own opp)).elements
on-laid Buy n b own opp = refl
on-laid Sell n b own opp = refl

-- an order
pub explained_order : (s : Side) (t : TimeInForce) (e : OrderEntry) (k : ℕ) (l : Entries) (b : Book) → Agrees l b → Explains (order s t e k) l b (ordered s t e b)
explained_order s t e k l b a = (
  record { traded = refl; counted = refl; resting = rests_entered (band b) lapse s o ours theirs x y ∙ sym (under_sides s n w.own w.opposite); cancelled = subst (λ u. cancelled_below (n + 1) (cond u (drop_orders n after) after) ≡ cancelled_below (n + 1) l + cond lapse m.left 0) (lapses_same t s e.price (band b)) (lapsed lapse) },
  subst (λ os. Filled (band b) s e.price e.lots w.trades theirs os) (on-laid s (n + 1) b w.own w.opposite) (filled (band b) s (incoming o) e.lots theirs own.opp_ordered),
)
  where
    n : ℕ
    n = b.next

    o : Order
    o = entering e n

    lapse : Bool
    lapse = meeting.lapses t s e.price (band b)

    ours : List Order
    ours = (on s b).elements

    theirs : List Order
    theirs = (on (other s) b).elements

    w : Entered
    w = order_entered s t e b

    m : meeting.Met
    m = meet (band b) s (incoming o) e.lots theirs

    own : Coupled l s n ours theirs 0 0
    own = to_side s b a.coupled

    x : Absent n ours
    x = next_absent l s n ours own.owns

    y : Absent n theirs
    y = next_absent l (other s) n theirs own.opps

    after : Entries
    after = deals m.trades (enter n s e.price n e.lots l)

    in_hand : left (after n) ≡ m.left
    in_hand =
        let c = coupled-meeting (band b) (incoming o) e.lots theirs (enter n s e.price n e.lots l) (coupled_entered e.price e.lots own) in
        let away = under_absent n m.rest (all_met (λ q. q.number ≡ n → ⊥) (λ q j h. h) (band b) s (incoming o) e.lots theirs y) in
        omega (arith, c.conserved n, under_absent n ours x, away, at_here n m.left 0)

    lapsed : (u : Bool) → cancelled_below (n + 1) (cond u (drop_orders n after) after) ≡ cancelled_below (n + 1) l + cond u m.left 0
    lapsed true = dropped (n + 1) n m.left l (drop_orders n after) (omega arith) (λ j. λ i. deals-cancelled m.trades (enter n s e.price n e.lots l) j i + at n j (in_hand i) 0)
    lapsed false = omega (arith, below_same (n + 1) (λ j. (l j).cancelled) (λ j. (after j).cancelled) (deals-cancelled m.trades (enter n s e.price n e.lots l)))

-- the old legs
legs_dropped : (q : Option Quoted) (top next : ℕ) (l : Entries) (buys sells : List Order) → Legs q next l → next ≤ top → Coupled l Buy next buys sells 0 0 → cancelled_below top (drop_legs q l) ≡ cancelled_below top l + (leg_lots (bid_of q) buys + leg_lots (ask_of q) sells)
legs_dropped None top next l buys sells a h c = omega arith
legs_dropped (Some q) top next l buys sells a h c =
    let bid = left-under q.bid a.0 c in
    let rest = turned (coupled_dropped q.bid a.0 c) in
    let ask = left-under q.ask a.1 rest in
    omega (
      arith,
      dropped top q.bid _ l (drop_orders q.bid l) (omega (arith, a.2, h)) (λ m. λ i. (l m).cancelled + at q.bid m (bid i) 0),
      dropped top q.ask _ (drop_orders q.bid l) (drop_orders q.ask (drop_orders q.bid l)) (omega (arith, a.3, h)) (λ m. λ i. (drop_orders q.bid l m).cancelled + at q.ask m (ask i) 0),
    )

-- a quote
pub explained_quote : (q : QuoteEntry) (k : ℕ) (l : Entries) (b : Book) → Agrees l b → Explains (quote q k) l b (quoted q b)
explained_quote q k l b a =
    let n = b.next in
    let w = quote_swept q b in
    let c = (kept_quote q l b a k).agrees.coupled in
    let old = legs_dropped b.quote (n + 2) n l b.buys.elements b.sells.elements a.legs (omega arith) a.coupled in
    let legs = ledger.enter_legs q n (drop_legs b.quote l) in (
      record {
        traded = refl;
        counted = refl;
        resting = omega (arith, under_lots n w.buys c.own_ordered.numbers, under_lots (n + 1) w.sells c.opp_ordered.numbers);
        cancelled = below_same (n + 2) (λ m. (legs m).cancelled) (λ m. (deals w.trades legs m).cancelled) (deals-cancelled w.trades legs) ∙ old;
      },
      tt,
    )

pub explained_renewal : (k : ℕ) (l : Entries) (b : Book) (q : Option Quoted) → b.quote ≡ q → Agrees l b → Explains (renew k) l b (renewed q b)
explained_renewal k l b None e a =
    let same : ledger.opens (renew k) (ledger_of b l) ≡ ledger_of b l = ap (λ u. ledger.opens_renewal u (ledger_of b l)) e in
    (record { traded = refl; counted = refl; resting = sym (ap (λ u. under_legs u b) e); cancelled = ap (λ i. cancelled_below b.next i.entry) same ∙ omega arith }, tt)
explained_renewal k l b (Some q) e a =
    let w = (explained_quote q.entry k l b a).0 in
    let same : ledger.opens (quote q.entry k) (ledger_of b l) ≡ ledger.opens (renew k) (ledger_of b l) = sym (ap (λ u. ledger.opens_renewal u (ledger_of b l)) e) in (
      record {
        traded = refl;
        counted = refl;
        resting = w.resting;
        cancelled = subst (λ i. cancelled_below (b.next + 2) (deals (quote_swept q.entry b).trades i.entry) ≡ cancelled_below (b.next + 2) l + (leg_lots (bid_of b.quote) b.buys.elements + leg_lots (ask_of b.quote) b.sells.elements)) same w.cancelled;
      },
      tt,
    )

-- a change
range_in_lem : (p : Phase) (r : Option Band) → meeting_band p r ≡ range_in p r
range_in_lem waiting r = refl
range_in_lem trading r = refl
range_in_lem halted r = refl
range_in_lem closed r = refl

pub explained_change : (c : OrderChange) (k : ℕ) (l : Entries) (b : Book) (f : Found) → found b c.order ≡ Some f → Agrees l b → Explains (change c k) l b (changed c (Some f) b)
explained_change c k l b f h a =
    subst (λ u. Explains (change c k) l b (cond u (cut_in_place c f b) (reentered c f b))) same (go (ledger.keeps_place c (l n)) refl)
  where
    n : ℕ
    n = c.order

    o : Order
    o = f.order

    s : Side
    s = f.side

    here : first (number_is n) (on s b).elements ≡ Some o
    here = found-on b n f h

    known : Same l s n o.price o.turn × (n < b.next)
    known = known_found b n f here a

    ours : Coupled l s b.next (on s b).elements (on (other s) b).elements 0 0
    ours = to_side s b a.coupled

    lots : left (l n) ≡ o.lots
    lots = left-found n o here known.0.side ours

    same : ledger.keeps_place c (l n) ≡ checks.keeps_place c o
    same = keeps_same c (l n) o known.0.limit lots

    away : Absent n (on (other s) b).elements
    away = absent_opposite l s b.next n (on (other s) b).elements known.0.side ours.opps

    x : Entered
    x = change_entered c f b

    l₁ : Entries
    l₁ = replace n c.price b.next (resize n c.lots l)

    -- what is found is one
    alike : (g : Found) → found b c.order ≡ Some g → f ≡ g
    alike g i = let j : Some f ≡ Some g = sym h ∙ i in cc

    fills : Filled (range_in b.phase (band b)) s c.price c.lots x.trades (on (other s) b).elements (on (other s) (laid s (b.next + 1) b x.own x.opposite)).elements
    fills =
        subst (λ r. Filled r s c.price c.lots x.trades (on (other s) b).elements (on (other s) (laid s (b.next + 1) b x.own x.opposite)).elements) (range_in_lem b.phase (band b))
        (subst (λ os. Filled (meeting_band b.phase (band b)) s c.price c.lots x.trades (on (other s) b).elements os) (on-laid s (b.next + 1) b x.own x.opposite)
        (filled (meeting_band b.phase (band b)) s (incoming (changing c o b.next)) c.lots (on (other s) b).elements ours.opp_ordered))

    cut : (m : ℕ) → (resize n c.lots l m).cancelled ≡ (l m).cancelled + at n m (o.lots - c.lots) 0
    cut m = λ i. (l m).cancelled + at n m (lots i - c.lots) 0

    go : (u : Bool) → ledger.keeps_place c (l n) ≡ u → Explains (change c k) l b (cond u (cut_in_place c f b) (reentered c f b))
    go true e = (
      record {
        traded = refl;
        counted = refl;
        resting = omega (arith, under_sides s n (lowered c (on s b).elements) (on (other s) b).elements, under-set n c.lots (on s b).elements o here ours.own_ordered.numbers, under_absent n (on (other s) b).elements away);
        cancelled = rw e (dropped b.next n (o.lots - c.lots) l (resize n c.lots l) known.1 cut);
      },
      λ g i. (λ w. refl, λ w. absurd (w (subst (λ j. InPlace c j.order) (alike g i) ((by_place c o).yes (sym same ∙ e))))),
    )
    go false e = (
      record {
        traded = refl;
        counted = refl;
        resting = rests_entered (meeting_band b.phase (band b)) false s (changing c o b.next) (remove (number_is n) (on s b).elements) (on (other s) b).elements (absent_removed n (on s b).elements ours.own_ordered.numbers) away ∙ sym (under_sides s n x.own x.opposite);
        cancelled = rw e (dropped (b.next + 1) n (o.lots - c.lots) l (deals x.trades l₁) (omega (arith, known.1)) (λ m. deals-cancelled x.trades l₁ m ∙ cut m));
      },
      λ g i. subst (λ j. (InPlace c j.order → x.trades ≡ []) × ((InPlace c j.order → ⊥) → Filled (range_in b.phase (band b)) j.side c.price c.lots x.trades (on (other j.side) b).elements (on (other j.side) (laid s (b.next + 1) b x.own x.opposite)).elements)) (alike g i) (λ w. absurd ((by_place c o).no (sym same ∙ e) w), λ w. fills),
    )

-- a cancellation
pub explained_cancel : (c : OrderCancel) (l : Entries) (b : Book) (f : Found) → found b c.order ≡ Some f → Agrees l b → Explains (cancel c) l b (cancelled c (Some f) b)
explained_cancel c l b f h a =
    let n = c.order in
    let s = f.side in
    let here = found-on b n f h in
    let known = known_found b n f here a in
    let ours = to_side s b a.coupled in
    let mine = (on s b).elements in
    let theirs = (on (other s) b).elements in
    let gone = under_absent n (remove (number_is n) mine) (absent_removed n mine ours.own_ordered.numbers) in
    let away = under_absent n theirs (absent_opposite l s b.next n theirs known.0.side ours.opps) in
    let lots = left-found n f.order here known.0.side ours in (
      record {
        traded = refl;
        counted = refl;
        resting = omega (arith, under_sides s n (remove (number_is n) mine) theirs, gone, away);
        cancelled = dropped b.next n f.order.lots l (drop_orders n l) known.1 (λ m. λ i. (l m).cancelled + at n m (lots i) 0);
      },
      refl,
    )

-- the end
pub explained_end : (l : Entries) (b : Book) → Agrees l b → Explains end l b (ended b)
explained_end l b a =
    let buys = b.buys.elements in
    let sells = b.sells.elements in
    let after : Entries = λ m. ledger.drop m (left (l m)) l m in
    let each = below-sum b.next (λ m. (l m).cancelled) (λ m. under m buys + under m sells) (λ m. (after m).cancelled) (λ m. omega (arith, a.coupled.conserved m, at_here m (left (l m)) 0, at_zero 0 m)) in
    let both = below-sum b.next (λ m. under m buys) (λ m. under m sells) (λ m. under m buys + under m sells) (λ m. refl) in (
      record {
        traded = refl;
        counted = refl;
        resting = refl;
        cancelled = omega (arith, each, both, below-under b.next buys (all_map (λ o k. k.number) buys a.coupled.owns), below-under b.next sells (all_map (λ o k. k.number) sells a.coupled.opps));
      },
      refl,
    )
