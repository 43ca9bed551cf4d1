-- An order that is entered or changed, and the sweep after a quote: both leave ledger and book in agreement, and nothing that can meet.
use Rattle.std.proofs.Common.{◌≡◌, ℕ, ◌<◌, Bool, true, false, cond, eqb, List, [], ◌∷◌, Option, sym, refl, subst, arith}
use Rattle.std.proofs.lemmas.Bool.{eqb-true}
use Rattle.std.proofs.lemmas.Bool.Decides.{nat_tests}
use Rattle.std.specs.List.{AllByRecursion}
use Rattle.terms.specs.declared.side.Side.{Side}
use Rattle.terms.specs.declared.side.Side.TheVariants.{Buy, Sell}
use Rattle.queue.specs.Held.{Ordered, insert, remove, change}
use Rattle.queue.proofs.Inserts.{all_map, all_insert}
use Rattle.queue.proofs.Removes.{all_remove}
use Rattle.orders.specs.Priority.{before, rank_of, with_lots}
use Rattle.orders.specs.declared.order.Order.{Order}
use Rattle.price_range.specs.declared.band.Band.{Band}
use Rattle.rules.specs.Book.{other}
use Rattle.rules.specs.Laws.{FairTrades}
use Rattle.rules.specs.Ledger.{Entries, drop_orders, deals}
use Rattle.rules.specs.Meeting.{Incoming, can_meet, incoming, lifted, Met, meet, joined, enter, Entered, remains, sweep, swept, Swept, first_meets}
use Rattle.rules.specs.Rules.{number_is}
use Rattle.rules.proofs.Coupling.{Known, Coupled, known_by, deals_same, ordered_tail, meeting, spent, all_met, idle, coupled_joined, coupled_lapsed}
use Rattle.rules.proofs.Entries.{at_zero, all_both, all_changed, Absent}
use Rattle.rules.proofs.Fairness.{Leads, fair_meeting, deals_append, fair_append}
use Rattle.rules.proofs.Priorities.{not_ahead, apart_worse, not_behind}

-- no two of the sides can meet
abbrev pub Apart : Option Band → Side → List Order → List Order → Type 0
Apart r s own opp = AllByRecursion (λ o. AllByRecursion (λ p. can_meet r s o.price p.price ≡ false) opp) own

all_none : (R : Order → Order → Type 0) (os : List Order) → AllByRecursion (λ p. AllByRecursion (λ o. R o p) []) os
all_none R [] = tt
all_none R (o ∷ os) = (tt, all_none R os)

pub all_swap : (R : Order → Order → Type 0) (os ps : List Order) → AllByRecursion (λ o. AllByRecursion (λ p. R o p) ps) os → AllByRecursion (λ p. AllByRecursion (λ o. R o p) os) ps
all_swap R [] ps a = all_none R ps
all_swap R (o ∷ os) ps a = all_both (λ p x y. (x, y)) ps a.0 (all_swap R os ps a.1)

pub apart_turned : (r : Option Band) (s : Side) (own opp : List Order) → Apart r s own opp → Apart r (other s) opp own
apart_turned r Buy own opp a = all_swap (λ o p. can_meet r Buy o.price p.price ≡ false) own opp a
apart_turned r Sell own opp a = all_swap (λ o p. can_meet r Sell o.price p.price ≡ false) own opp a

pub apart_removed : (r : Option Band) (s : Side) (n : ℕ) (own opp : List Order) → Apart r s own opp → Apart r s (remove (number_is n) own) opp
apart_removed r s n own opp a = all_remove (number_is n) (λ o. AllByRecursion (λ p. can_meet r s o.price p.price ≡ false) opp) own a

pub apart_lowered : (r : Option Band) (s : Side) (n k : ℕ) (own opp : List Order) → Apart r s own opp → Apart r s (change (number_is n) (λ o. with_lots o k) own) opp
apart_lowered r s n k own opp a = all_changed (λ o. AllByRecursion (λ p. can_meet r s o.price p.price ≡ false) opp) n k (λ o h. h) own a

leads : (r : Option Band) (s : Side) (p t : ℕ) (own opp : List Order) → Apart r s own opp → Leads r s p t own opp
leads r s p t own opp a =
    all_map (λ o b m. all_map (λ x q. not_behind r s p t x.price x.turn o.price m q) own b) opp (all_swap (λ x o. can_meet r s x.price o.price ≡ false) own opp a)

apart_met : (r : Option Band) (s : Side) (i : Incoming) (k : ℕ) (own opp : List Order) → Apart r s own opp → Apart r s own (meet r s i k opp).rest
apart_met r s i k own opp a = all_map (λ o b. all_met (λ q. can_meet r s o.price q.price ≡ false) (λ q j h. h) r s i k opp b) own a

pub apart_joined : (r : Option Band) (s : Side) (own opp : List Order) (o : Order) → Apart r s own opp → (0 < o.lots → AllByRecursion (λ p. can_meet r s o.price p.price ≡ false) opp) → Apart r s (joined s o own) opp
apart_joined r s own opp o a f = go (eqb o.lots 0) refl
  where
    go : (t : Bool) → eqb o.lots 0 ≡ t → Apart r s (cond t own (insert (before s) o own)) opp
    go true q = a
    go false q = all_insert (before s) o (λ x. AllByRecursion (λ p. can_meet r s x.price p.price ≡ false) opp) own (f (grind (arith, nat_tests))) a

-- the ledger when the remainder has lapsed or not
abbrev pub lapsed : Bool → ℕ → Entries → Entries
lapsed t n l = cond t (drop_orders n l) l

pub record EnteredWell (r : Option Band) (t : Bool) (s : Side) (next : ℕ) (l : Entries) (n : ℕ) (e : Entered) : Type 0 where
  pub fair : FairTrades r l e.trades
  pub coupled : Coupled (lapsed t n (deals e.trades l)) s next e.own e.opposite 0 0
  pub apart : Apart r s e.own e.opposite

pub entered_well : (r : Option Band) (t : Bool) {s : Side} {next : ℕ} {own opp : List Order} (o : Order) (l : Entries) → Coupled l s next own opp o.number o.lots → Known s next l o → Apart r s own opp → Absent o.number own → AllByRecursion (λ x. x.turn ≡ o.turn → ⊥) own → Absent o.number opp → EnteredWell r t s next l o.number (enter r t s o own opp)
entered_well r t {s} {next} {own} {opp} o l c k a x y z = go t
  where
    m : Met
    m = meet r s (incoming o) o.lots opp

    done : Coupled (deals m.trades l) s next own m.rest o.number m.left
    done = meeting r (incoming o) o.lots opp l c

    fairly : FairTrades r l m.trades
    fairly = fair_meeting r (incoming o) o.turn o.lots opp l c k.same (leads r s o.price o.turn own opp a)

    after : Known s next (deals m.trades l) (with_lots o m.left)
    after = let e = known_by o (deals_same m.trades l o.number) (omega arith) k in record { same = e.same; number = e.number; turn = e.turn }

    go : (u : Bool) → EnteredWell r u s next l o.number (remains u s o own m)
    go true =
        record {
          fair = fairly;
          coupled = coupled_lapsed done x (all_met (λ q. q.number ≡ o.number → ⊥) (λ q j h. h) r s (incoming o) o.lots opp z);
          apart = apart_met r s (incoming o) o.lots own opp a;
        }
    go false =
        record {
          fair = fairly;
          coupled = coupled_joined (with_lots o m.left) done after x y;
          apart = apart_joined r s own m.rest (with_lots o m.left) (apart_met r s (incoming o) o.lots own opp a) (spent r s (incoming o) o.lots opp c.opp_ordered);
        }

-- the first of a side is taken in hand, and put back
coupled_lift : {l : Entries} {s : Side} {next : ℕ} {o : Order} {own opp : List Order} → Coupled l s next (o ∷ own) opp 0 0 → Coupled l s next own opp o.number o.lots
coupled_lift {s = s} c =
    record {
      conserved = λ m. omega (arith, c.conserved m, at_zero 0 m);
      fresh = c.fresh;
      owns = c.owns.1;
      opps = c.opps;
      own_ordered = ordered_tail s c.own_ordered;
      opp_ordered = c.opp_ordered;
    }

coupled_back : {l : Entries} {s : Side} {next : ℕ} {own opp : List Order} (o : Order) → Coupled l s next own opp o.number o.lots → Known s next l o → Ordered (rank_of s) (o ∷ own) → Coupled l s next (o ∷ own) opp 0 0
coupled_back o c k d =
    record {
      conserved = λ m. omega (arith, c.conserved m, at_zero 0 m);
      fresh = c.fresh;
      owns = (k, c.owns);
      opps = c.opps;
      own_ordered = d;
      opp_ordered = c.opp_ordered;
    }

pub record SweptWell (r : Option Band) (l : Entries) (next : ℕ) (w : Swept) : Type 0 where
  pub fair : FairTrades r l w.trades
  pub coupled : Coupled (deals w.trades l) Buy next w.buys w.sells 0 0
  pub apart : Apart r Buy w.buys w.sells

pub swept_well : (r : Option Band) {next : ℕ} (os sells : List Order) (l : Entries) → Coupled l Buy next os sells 0 0 → SweptWell r l next (sweep r os sells)
swept_well r [] sells l c = record { coupled = c; apart = tt; fair = tt }
swept_well r {next} (o ∷ os) sells l c = go (eqb m.left 0) refl (swept_well r os m.rest)
  where
    m : Met
    m = first_meets r o sells

    hand : Coupled l Buy next os sells o.number o.lots
    hand = coupled_lift c

    done : Coupled (deals m.trades l) Buy next os m.rest o.number m.left
    done = meeting r (lifted o) o.lots sells l hand

    fairly : FairTrades r l m.trades
    fairly =
        fair_meeting r (lifted o) o.turn o.lots sells l hand c.owns.0.same
        (all_map (λ x k q. all_map (λ y b. not_ahead Buy o y b) os c.own_ordered.sorted.0) sells c.opps)

    after : Known Buy next (deals m.trades l) (with_lots o m.left)
    after =
        let e = known_by o (deals_same m.trades l o.number) (omega arith) c.owns.0 in
        record { same = e.same; number = e.number; turn = e.turn }

    go : (t : Bool) → eqb m.left 0 ≡ t → ((i : Entries) → Coupled i Buy next os m.rest 0 0 → SweptWell r i next (sweep r os m.rest)) → SweptWell r l next (swept t o os m (sweep r os m.rest))
    go true e f =
        let w = sweep r os m.rest in
        let g = f _ (idle 0 (subst (λ x. Coupled (deals m.trades l) Buy next os m.rest o.number x) (eqb-true m.left 0 e) done)) in
        record {
          fair = fair_append r m.trades w.trades l fairly g.fair;
          coupled = subst (λ i. Coupled i Buy next w.buys w.sells 0 0) (sym (deals_append m.trades w.trades l)) g.coupled;
          apart = g.apart;
        }
    go false e f =
        let z : 0 < m.left = grind (arith, nat_tests) in
        let gap = spent r Buy (lifted o) o.lots sells c.opp_ordered z in
        record {
          fair = fairly;
          coupled = coupled_back (with_lots o m.left) done after (relot z c.own_ordered);
          apart = (gap, all_map (λ x q. all_map (λ p u. apart_worse r Buy o x p.price u q) m.rest gap) os c.own_ordered.sorted.0);
        }
      where
        relot : 0 < m.left → Ordered (rank_of Buy) (o ∷ os) → Ordered (rank_of Buy) (with_lots o m.left ∷ os)
        relot z d = record { sorted = d.sorted; numbers = d.numbers; keys = d.keys; some = (z, d.some.1) }
