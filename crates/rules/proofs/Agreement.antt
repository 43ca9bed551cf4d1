-- Ledger and book agree after every call.
use Rattle.std.proofs.Common.{◌≡◌, ℕ, ◌+◌, ◌-◌, ◌<◌, Bool, true, false, cond, eqb, ◌⊎◌, List, [], ◌∷◌, Some, None, Option, sym, refl, ap, ◌∙◌, subst, inl, inr, arith}
use Rattle.std.proofs.lemmas.Bool.{true≢false}
use Rattle.std.proofs.lemmas.Bool.Decides.{nat_tests}
use Rattle.std.specs.List.{AllByRecursion}
use Rattle.terms.specs.declared.message.OrderCancel.{OrderCancel}
use Rattle.terms.specs.declared.message.OrderChange.{OrderChange}
use Rattle.terms.specs.declared.message.OrderEntry.{OrderEntry}
use Rattle.terms.specs.declared.message.QuoteEntry.{QuoteEntry}
use Rattle.terms.specs.declared.side.Side.{Side}
use Rattle.terms.specs.declared.side.Side.TheVariants.{Buy, Sell}
use Rattle.terms.specs.declared.side.TimeInForce.{TimeInForce}
use Rattle.terms.specs.declared.side.TimeInForce.TheVariants.{Day, Immediate}
use Rattle.terms.specs.declared.trade.Answer.{Answer}
use Rattle.terms.specs.declared.trade.Trade.{Trade}
use Rattle.queue.specs.Held.{first, numbered, remove}
use Rattle.queue.proofs.Inserts.{all_map}
use Rattle.queue.proofs.Removes.{all_remove}
use Rattle.orders.specs.Priority.{rank_of}
use Rattle.orders.specs.declared.order.Found.{Found}
use Rattle.orders.specs.declared.order.Order.{Order}
use Rattle.price_range.specs.declared.band.Band.{Band}
use Rattle.rules.specs.Book.{Book, Phase, other, on, pick, band}
use Rattle.rules.specs.Calls.{Call, order, quote, change, cancel, end, answered}
use Rattle.rules.specs.Checks as checks
use Rattle.rules.specs.Checks.{found, found_in, improves, is_trading, without, bid_of, ask_of}
use Rattle.rules.specs.Laws.{FairTrades, Better}
use Rattle.rules.specs.Ledger as ledger
use Rattle.rules.specs.Ledger.{Entries, Ledger, left, enter, enter_legs, drop_orders, drop_legs, resize, replace, deals, opens, posts}
use Rattle.rules.specs.Meeting as meeting
use Rattle.rules.specs.Meeting.{Entered, Swept, can_meet, sweep, meet, incoming, joined, remains, Met}
use Rattle.rules.specs.Rules.{Ruled, entering, order_entered, ordered, bid_leg, ask_leg, update_of, quoted_buys, quoted_sells, quote_swept, quoted, number_is, lowered, cut_in_place, changing, change_entered, reentered, changed, cancelled, step_to, ended}
use Rattle.rules.proofs.Coupling.{Same, Known, Coupled, deals_same, turned, absent_opposite, coupled_joined, coupled_dropped}
use Rattle.rules.proofs.Entering.{Apart, apart_turned, apart_removed, apart_joined, apart_lowered, EnteredWell, entered_well, SweptWell, swept_well}
use Rattle.rules.proofs.Entries.{at_here, at_other, Absent, absent_removed}
use Rattle.rules.proofs.Postings.{enter_here, coupled_entered, next_absent, next_unused, found-is, left-found, coupled_resized, replace_here, coupled_replaced, coupled_ended, Legs, legs_by, coupled_unquoted}
use Rattle.rules.proofs.Priorities.{apart_lower}

pub record Agrees (l : Entries) (b : Book) : Type 0 where
  pub coupled : Coupled l Buy b.next b.buys.elements b.sells.elements 0 0
  pub apart : Apart (band b) Buy b.buys.elements b.sells.elements
  pub legs : Legs b.quote b.next l

-- the ledger of a book, with these entries
abbrev pub ledger_of : Book → Entries → Ledger
ledger_of b l = record { next = b.next; quote = b.quote; range = b.range; entry = l }

-- a call's event brings ledger and book to agree again, by fair trades
pub record Kept (c : Call) (l : Entries) (b : Book) (x : Ruled) : Type 0 where
  pub answers : (a : Answer) × (x.outcome ≡ answered a)
  pub same : posts c x.trades (ledger_of b l) ≡ ledger_of x.book (posts c x.trades (ledger_of b l)).entry
  pub agrees : Agrees (posts c x.trades (ledger_of b l)).entry x.book
  pub fair : FairTrades ((opens c (ledger_of b l)).range []) (opens c (ledger_of b l)).entry x.trades

-- from either side
pub to_side : {l : Entries} (s : Side) (b : Book) → Coupled l Buy b.next b.buys.elements b.sells.elements 0 0 → Coupled l s b.next (on s b).elements (on (other s) b).elements 0 0
to_side Buy b c = c
to_side Sell b c = turned c

pub from_side : {l : Entries} (s : Side) {next : ℕ} {own opp : List Order} → Coupled l s next own opp 0 0 → Coupled l Buy next (pick s own opp) (pick s opp own) 0 0
from_side Buy c = c
from_side Sell c = turned c

apart_to : (s : Side) (b : Book) → Apart (band b) Buy b.buys.elements b.sells.elements → Apart (band b) s (on s b).elements (on (other s) b).elements
apart_to Buy b a = a
apart_to Sell b a = apart_turned (band b) Buy b.buys.elements b.sells.elements a

apart_from : (r : Option Band) (s : Side) (own opp : List Order) → Apart r s own opp → Apart r Buy (pick s own opp) (pick s opp own)
apart_from r Buy own opp a = a
apart_from r Sell own opp a = apart_turned r Sell own opp a

-- an order
pub lapses_same : (t : TimeInForce) (s : Side) (p : ℕ) (r : Option Band) → meeting.lapses t s p r ≡ ledger.lapses t s p r
lapses_same Immediate s p r = refl
lapses_same Day Buy p None = refl
lapses_same Day Buy p (Some r) = refl
lapses_same Day Sell p None = refl
lapses_same Day Sell p (Some r) = refl

side_lapsed : (t : Bool) (n : ℕ) (l : Entries) (m : ℕ) → (cond t (drop_orders n l) l m).side ≡ (l m).side
side_lapsed true n l m = refl
side_lapsed false n l m = refl

pub kept_order : (s : Side) (t : TimeInForce) (e : OrderEntry) (k : ℕ) (l : Entries) (b : Book) → Agrees l b → Kept (order s t e k) l b (ordered s t e b)
kept_order s t e k l b a =
    record {
      answers = (_, refl);
      same = refl;
      agrees = record {
        coupled = from_side s done;
        apart = apart_from (band b) s x.own x.opposite w.apart;
        legs = legs_by b.quote b.next (b.next + 1) l after sides (omega arith) a.legs;
      };
      fair = w.fair;
    }
  where
    n : ℕ
    n = b.next

    x : Entered
    x = order_entered s t e b

    l₁ : Entries
    l₁ = enter n s e.price n e.lots l

    own : Coupled l s n (on s b).elements (on (other s) b).elements 0 0
    own = to_side s b a.coupled

    w : EnteredWell (band b) (meeting.lapses t s e.price (band b)) s (n + 1) l₁ n x
    w =
        entered_well (band b) (meeting.lapses t s e.price (band b)) (entering e n) l₁ (coupled_entered e.price e.lots own)
        (record { same = enter_here n s e.price n e.lots l; number = omega arith; turn = omega arith })
        (apart_to s b a.apart)
        (next_absent l s n (on s b).elements own.owns) (next_unused l s n (on s b).elements own.owns) (next_absent l (other s) n (on (other s) b).elements own.opps)

    after : Entries
    after = cond (ledger.lapses t s e.price (band b)) (drop_orders n (deals x.trades l₁)) (deals x.trades l₁)

    done : Coupled after s (n + 1) x.own x.opposite 0 0
    done = subst (λ u. Coupled (cond u (drop_orders n (deals x.trades l₁)) (deals x.trades l₁)) s (n + 1) x.own x.opposite 0 0) (lapses_same t s e.price (band b)) w.coupled

    sides : (m : ℕ) → m < n → (after m).side ≡ (l m).side
    sides m h = side_lapsed (ledger.lapses t s e.price (band b)) n (deals x.trades l₁) m ∙ (deals_same x.trades l₁ m).0 ∙ at_other n m s (l m).side (λ q. omega arith)

-- a quote
pub kept_quote : (q : QuoteEntry) (l : Entries) (b : Book) → Agrees l b → (k : ℕ) → Kept (quote q k) l b (quoted q b)
kept_quote q l b a k =
    record {
      answers = (_, refl);
      same = refl;
      agrees = record {
        coupled = w.coupled;
        apart = w.apart;
        legs = ((deals_same ts l₃ n).0 ∙ bid_side, (deals_same ts l₃ (n + 1)).0 ∙ at_here (n + 1) Sell (l₂ (n + 1)).side, omega arith, omega arith);
      };
      fair = w.fair;
    }
  where
    n : ℕ
    n = b.next

    l₁ : Entries
    l₁ = drop_legs b.quote l

    l₂ : Entries
    l₂ = enter n Buy q.bid_price n q.bid_lots l₁

    l₃ : Entries
    l₃ = enter (n + 1) Sell q.ask_price (n + 1) q.ask_lots l₂

    buys₁ : List Order
    buys₁ = without (bid_of b.quote) b.buys.elements

    sells₁ : List Order
    sells₁ = without (ask_of b.quote) b.sells.elements

    none : Coupled l₁ Buy n buys₁ sells₁ 0 0
    none = coupled_unquoted b.quote a.legs a.coupled

    one : Coupled l₂ Buy (n + 1) (quoted_buys q b) sells₁ 0 0
    one =
        coupled_joined (bid_leg q n) (coupled_entered q.bid_price q.bid_lots none)
        (record { same = enter_here n Buy q.bid_price n q.bid_lots l₁; number = omega arith; turn = omega arith })
        (next_absent l₁ Buy n buys₁ none.owns) (next_unused l₁ Buy n buys₁ none.owns)

    two : Coupled l₃ Sell (n + 1 + 1) (quoted_sells q b) (quoted_buys q b) 0 0
    two =
        let other_way = turned one in
        coupled_joined (ask_leg q (n + 1)) (coupled_entered q.ask_price q.ask_lots other_way)
        (record { same = enter_here (n + 1) Sell q.ask_price (n + 1) q.ask_lots l₂; number = omega arith; turn = omega arith })
        (next_absent l₂ Sell (n + 1) sells₁ other_way.owns) (next_unused l₂ Sell (n + 1) sells₁ other_way.owns)

    both : Coupled l₃ Buy (n + 2) (quoted_buys q b) (quoted_sells q b) 0 0
    both = subst (λ i. Coupled l₃ Buy i (quoted_buys q b) (quoted_sells q b) 0 0) (omega arith) (turned two)

    w : SweptWell (b.range (update_of q ∷ [])) l₃ (n + 2) (quote_swept q b)
    w = swept_well (b.range (update_of q ∷ [])) (quoted_buys q b) (quoted_sells q b) l₃ both

    ts : List Trade
    ts = (quote_swept q b).trades

    bid_side : (l₃ n).side ≡ Buy
    bid_side = at_other (n + 1) n Sell (l₂ n).side (λ e. omega arith) ∙ at_here n Buy (l₁ n).side

-- what was found rests on its side
pub found-on : (b : Book) (n : ℕ) (f : Found) → found b n ≡ Some f → first (number_is n) (on f.side b).elements ≡ Some f.order
found-on b n f h = go (numbered (rank_of Buy) b.buys n) (numbered (rank_of Sell) b.sells n) refl refl h
  where
    go : (x y : Option Order) → numbered (rank_of Buy) b.buys n ≡ x → numbered (rank_of Sell) b.sells n ≡ y → found_in x y ≡ Some f → first (number_is n) (on f.side b).elements ≡ Some f.order
    go (Some o) y e d q = let i : ◌≡◌ {A = Found} (record { side = Buy; order = o }) f = cc in subst (λ g. first (number_is n) (on g.side b).elements ≡ Some g.order) i e
    go None (Some o) e d q = let i : ◌≡◌ {A = Found} (record { side = Sell; order = o }) f = cc in subst (λ g. first (number_is n) (on g.side b).elements ≡ Some g.order) i d
    go None None e d q = let z : ◌≡◌ {A = ℕ} 0 1 = cc in absurd (omega arith)

-- its number is known on that side
pub known_found : {l : Entries} (b : Book) (n : ℕ) (f : Found) → first (number_is n) (on f.side b).elements ≡ Some f.order → Agrees l b → Same l f.side n f.order.price f.order.turn × (n < b.next)
known_found {l} b n f h a =
    let g = found-is (Known f.side b.next l) n (on f.side b).elements f.order h (to_side f.side b a.coupled).owns in
    subst (λ i. Same l f.side i f.order.price f.order.turn × (i < b.next)) g.0 (g.1.same, g.1.number)

-- a cancellation
pub kept_cancel : (c : OrderCancel) (l : Entries) (b : Book) (f : Found) → found b c.order ≡ Some f → Agrees l b → Kept (cancel c) l b (cancelled c (Some f) b)
kept_cancel c l b f h a =
    let n = c.order in
    let k = known_found b n f (found-on b n f h) a in
    let s = f.side in
    record {
      answers = (_, refl);
      same = refl;
      agrees = record {
        coupled = from_side s (coupled_dropped n k.0.side (to_side s b a.coupled));
        apart = apart_from (band b) s (remove (number_is n) (on s b).elements) (on (other s) b).elements (apart_removed (band b) s n (on s b).elements (on (other s) b).elements (apart_to s b a.apart));
        legs = legs_by b.quote b.next b.next l (drop_orders n l) (λ m g. refl) (omega arith) a.legs;
      };
      fair = tt;
    }

-- halt, resumption, end
pub kept_step : (c : Call) (p : Phase) (l : Entries) (b : Book) → opens c (ledger_of b l) ≡ ledger_of b l → posts c [] (ledger_of b l) ≡ ledger_of b l → Agrees l b → Kept c l b (step_to p b)
kept_step c p l b e d a =
    record {
      answers = (_, refl);
      same = d ∙ ap (λ i. ledger_of b i.entry) (sym d);
      agrees = subst (λ i. Agrees i (step_to p b).book) (ap (λ i. i.entry) (sym d)) (record { coupled = a.coupled; apart = a.apart; legs = a.legs });
      fair = tt;
    }

pub kept_end : (l : Entries) (b : Book) → Agrees l b → Kept end l b (ended b)
kept_end l b a =
    record {
      answers = (_, refl);
      same = refl;
      agrees = record {
        coupled = coupled_ended a.coupled;
        apart = tt;
        legs = legs_by b.quote b.next b.next l (opens end (ledger_of b l)).entry (λ m g. refl) (omega arith) a.legs;
      };
      fair = tt;
    }

-- a change
not_better : (s : Side) (was p : ℕ) → improves s was p ≡ false → Better s p was → ⊥
not_better Buy was p h k = grind (arith, nat_tests)
not_better Sell was p h k = grind (arith, nat_tests)

cannot_meet : (s : Side) (l p : ℕ) → can_meet None s l p ≡ false
cannot_meet Buy l p = refl
cannot_meet Sell l p = refl

pub meet_none : (s : Side) (i : meeting.Incoming) (k : ℕ) (os : List Order) → meet None s i k os ≡ record { trades = []; left = k; rest = os }
meet_none s i k [] = refl
meet_none s i k (o ∷ os) = rw (cannot_meet s i.limit o.price) (go (eqb k 0))
  where
    go : (t : Bool) → meeting.stepped (cond t meeting.stop meeting.stop) None s i k o os (meet None s i (k - o.lots) os) ≡ record { trades = []; left = k; rest = o ∷ os }
    go true = refl
    go false = refl

-- it meets the other side, or, where its price does not improve, nothing
entered-change : (u : Bool) (r : Option Band) {s : Side} {next : ℕ} {own opp : List Order} (o : Order) (l : Entries) → (u ≡ true) ⊎ AllByRecursion (λ p. can_meet r s o.price p.price ≡ false) opp → Coupled l s next own opp o.number o.lots → Known s next l o → Apart r s own opp → Absent o.number own → AllByRecursion (λ x. x.turn ≡ o.turn → ⊥) own → Absent o.number opp → EnteredWell r false s next l o.number (meeting.enter (cond u r None) false s o own opp)
entered-change true r o l h c k a x y z = entered_well r false o l c k a x y z
entered-change false r o l (inl h) c k a x y z = absurd (true≢false (sym h))
entered-change false r {s} {next} {own} {opp} o l (inr h) c k a x y z =
    subst (λ m. EnteredWell r false s next l o.number (remains false s o own m)) (sym (meet_none s (incoming o) o.lots opp))
    (record { fair = tt; coupled = coupled_joined o c k x y; apart = apart_joined r s own opp o a (λ _. h) })

pub keeps_same : (c : OrderChange) (e : ledger.Entry) (o : Order) → e.limit ≡ o.price → left e ≡ o.lots → ledger.keeps_place c e ≡ checks.keeps_place c o
keeps_same c e o p q = rw (p, q)

pub kept_change : (c : OrderChange) (k : ℕ) (l : Entries) (b : Book) (f : Found) → found b c.order ≡ Some f → 0 < c.lots → (is_trading b.phase ≡ true) ⊎ (improves f.side f.order.price c.price ≡ false) → Agrees l b → Kept (change c k) l b (changed c (Some f) b)
kept_change c k l b f h z t a =
    subst (λ u. Kept (change c k) l b (cond u (cut_in_place c f b) (reentered c f b))) (keeps_same c (l n) o known.0.limit (left-found n o here known.0.side ours)) (go (ledger.keeps_place c (l n)) refl)
  where
    n : ℕ
    n = c.order

    o : Order
    o = f.order

    s : Side
    s = f.side

    here : first (number_is n) (on s b).elements ≡ Some o
    here = found-on b n f h

    known : Same l s n o.price o.turn × (n < b.next)
    known = known_found b n f here a

    ours : Coupled l s b.next (on s b).elements (on (other s) b).elements 0 0
    ours = to_side s b a.coupled

    apart : Apart (band b) s (on s b).elements (on (other s) b).elements
    apart = apart_to s b a.apart

    l₁ : Entries
    l₁ = replace n c.price b.next (resize n c.lots l)

    meets : (is_trading b.phase ≡ true) ⊎ (improves s o.price c.price ≡ false) → (is_trading b.phase ≡ true) ⊎ AllByRecursion (λ p. can_meet (band b) s c.price p.price ≡ false) (on (other s) b).elements
    meets (inl e) = inl e
    meets (inr e) =
        inr (all_map (λ p u. apart_lower (band b) s o.price c.price p.price (not_better s o.price c.price e) u) (on (other s) b).elements (found-is (λ x. AllByRecursion (λ p. can_meet (band b) s x.price p.price ≡ false) (on (other s) b).elements) n (on s b).elements o here apart).1)

    w : EnteredWell (band b) false s (b.next + 1) l₁ n (change_entered c f b)
    w =
        entered-change (is_trading b.phase) (band b) (changing c o b.next) l₁ (meets t) (coupled_replaced n c.price c.lots known.0.side known.1 ours)
        (record { same = replace_here l n c.price b.next c.lots known.0.side; number = omega (arith, known.1); turn = omega arith })
        (apart_removed (band b) s n (on s b).elements (on (other s) b).elements apart)
        (absent_removed n (on s b).elements ours.own_ordered.numbers)
        (next_unused l s b.next (remove (number_is n) (on s b).elements) (all_remove (number_is n) (Known s b.next l) (on s b).elements ours.owns))
        (absent_opposite l s b.next n (on (other s) b).elements known.0.side ours.opps)

    go : (u : Bool) → ledger.keeps_place c (l n) ≡ u → Kept (change c k) l b (cond u (cut_in_place c f b) (reentered c f b))
    go true e =
        record {
          answers = (_, refl);
          same = rw e refl;
          agrees = rw e (record {
            coupled = from_side s (coupled_resized n c.lots o here known.0.side known.1 z ours);
            apart = apart_from (band b) s (lowered c (on s b).elements) (on (other s) b).elements (apart_lowered (band b) s n c.lots (on s b).elements (on (other s) b).elements apart);
            legs = legs_by b.quote b.next b.next l (resize n c.lots l) (λ m g. refl) (omega arith) a.legs;
          });
          fair = tt;
        }
    go false e =
        record {
          answers = (_, refl);
          same = rw e refl;
          agrees = rw e (record {
            coupled = from_side s w.coupled;
            apart = apart_from (band b) s (change_entered c f b).own (change_entered c f b).opposite w.apart;
            legs = legs_by b.quote b.next (b.next + 1) l (deals (change_entered c f b).trades l₁) (λ m g. (deals_same (change_entered c f b).trades l₁ m).0) (omega arith) a.legs;
          });
          fair = rw e w.fair;
        }
