-- A quote that is placed, by the rules.
use Rattle.std.proofs.Common.{◌≡◌, ℕ, suc, ◌+◌, ◌<◌, ◌≤◌, false, not, ◌&&◌, ◌||◌, eqb, List, [], ◌∷◌, ◌++◌, length, take, drop, Some, None, Option, sym, refl, ap, ◌∙◌, subst, arith}
use Rattle.std.proofs.lemmas.List.{take_at}
use Rattle.std.proofs.lemmas.Bool.{cond_both, or_parts, or_from, eqb-true, ne_eqb}
use Rattle.std.proofs.lemmas.Bool.Decides.{nat_tests}
use Rattle.std.specs.List.{AllByRecursion}
use Rattle.terms.specs.declared.message.QuoteEntry.{QuoteEntry}
use Rattle.terms.specs.declared.side.Side.{Side}
use Rattle.terms.specs.declared.side.Side.TheVariants.{Buy, Sell}
use Rattle.terms.specs.declared.trade.Trade.{Trade}
use Rattle.queue.proofs.Inserts.{all_insert}
use Rattle.queue.proofs.Removes.{all_remove}
use Rattle.queue.proofs.Rounds.{length-insert}
use Rattle.queue.specs.Held.{Held, Apart, any, clash, takes, insert, remove}
use Rattle.orders.specs.Priority.{before, rank_of}
use Rattle.orders.specs.declared.order.Order.{Order}
use Rattle.price_range.specs.declared.band.Band.{Band}
use Rattle.rules.specs.Book.{Book, holding, traded_lots}
use Rattle.rules.specs.ByRule.{QuoteReady, QuotePlaced}
use Rattle.rules.specs.Calls.{answered}
use Rattle.rules.specs.Checks.{full_without, bid_of, ask_of, without, leg_lots, lots_under, leg_checks}
use Rattle.rules.specs.Meeting.{joined}
use Rattle.rules.specs.Rules.{number_is, bid_leg, ask_leg, update_of, quoted_buys, quoted_sells, quote_swept}
use Rattle.rules.specs.Tables.{FitsBoth, Room, sweep_at}
use Rattle.rules.proofs.Entries.{Absent, absent_any}
use Rattle.rules.proofs.Passing.{not_full}
use Rattle.rules.proofs.Theorem.{passed}

-- a turn that nobody but the excepted order has is free without it
module _ (s : Side) (n : ℕ) (o : Order) (number : o.number ≡ n) (turn : o.turn ≡ n) where
  free_absent : (m : ℕ) (os : List Order) → Absent m os → any (takes (rank_of s) n (Some m)) os ≡ false → any (clash (rank_of s) o) os ≡ false
  free_absent m [] a h = refl
  free_absent m (x ∷ xs) a h =
      let p = or_parts (takes (rank_of s) n (Some m) x) (any (takes (rank_of s) n (Some m)) xs) h in
      or_from (clash (rank_of s) o x) (any (clash (rank_of s) o) xs) (one x a.0 p.0) (free_absent m xs a.1 p.1)
    where
      one : (y : Order) → (y.number ≡ m → ⊥) → takes (rank_of s) n (Some m) y ≡ false → clash (rank_of s) o y ≡ false
      one y d e = rw (number, turn) (subst (λ t. (not t && (eqb y.number n || eqb y.turn n)) ≡ false) (ne_eqb y.number m d) e)

  free_other : (os : List Order) → any (takes (rank_of s) n None) os ≡ false → any (clash (rank_of s) o) os ≡ false
  free_other [] h = refl
  free_other (x ∷ xs) h =
      let p = or_parts (takes (rank_of s) n None x) (any (takes (rank_of s) n None) xs) h in
      or_from (clash (rank_of s) o x) (any (clash (rank_of s) o) xs) (rw (number, turn) p.0) (free_other xs p.1)

  pub free_without : (leg : Option ℕ) (os : List Order) → Apart (λ x. x.number) os → any (takes (rank_of s) n leg) os ≡ false → any (clash (rank_of s) o) (without leg os) ≡ false
  free_without None os a h = free_other os h
  free_without (Some m) [] a h = refl
  free_without (Some m) (x ∷ xs) a h =
      let p = or_parts (takes (rank_of s) n (Some m) x) (any (takes (rank_of s) n (Some m)) xs) h in
      cond_both (eqb x.number m) xs (x ∷ remove (number_is m) xs) (λ ys. any (clash (rank_of s) o) ys ≡ false)
      (λ t. free_absent m xs (absent_any m xs (ap (λ k. any (number_is k) xs) (sym (eqb-true x.number m t)) ∙ a.0)) p.1)
      (λ t. or_from (clash (rank_of s) o x) _ (rw (number, turn) (subst (λ u. (not u && (eqb x.number n || eqb x.turn n)) ≡ false) t p.0)) (free_without (Some m) xs a.1 p.1))

all_without : (P : Order → Type 0) (leg : Option ℕ) (os : List Order) → AllByRecursion P os → AllByRecursion P (without leg os)
all_without P None os a = a
all_without P (Some n) os a = all_remove (number_is n) P os a

-- a leg that joins its side
all-joined : (s : Side) (o : Order) (os : List Order) → AllByRecursion (λ x. 0 < x.lots) os → AllByRecursion (λ x. 0 < x.lots) (joined s o os)
all-joined s o os a =
    cond_both (eqb o.lots 0) os (insert (before s) o os) (AllByRecursion (λ x. 0 < x.lots)) (λ _. a) (λ t. all_insert (before s) o (λ x. 0 < x.lots) os (grind (arith, nat_tests)) a)

length-joined : (s : Side) (o : Order) (os : List Order) → length (joined s o os) ≤ suc (length os)
length-joined s o os =
    let one = length-insert (before s) o os in
    cond_both (eqb o.lots 0) os (insert (before s) o os) (λ xs. length xs ≤ suc (length os)) (λ _. omega arith) (λ _. omega arith)

-- a quote that may be placed
module _ (q : QuoteEntry) (b : Book) (table : List Trade) (w : QuoteReady b table) where
  rooms : (full_without (bid_of b.quote) b.buys ≡ false) × (full_without (ask_of b.quote) b.sells ≡ false)
  rooms = or_parts _ _ (passed (leg_checks b.next b.quote b.buys b.sells) w.legs).1.0

  free : (any (takes (rank_of Buy) b.next (bid_of b.quote)) b.buys.elements ≡ false) × (any (takes (rank_of Sell) (b.next + 1) (ask_of b.quote)) b.sells.elements ≡ false)
  free = or_parts _ _ (passed (leg_checks b.next b.quote b.buys b.sells) w.legs).1.1.0

  pub bid_room : Room Buy (holding b.buys (without (bid_of b.quote) b.buys.elements)) (bid_leg q b.next)
  bid_room =
      record {
        place = not_full b.buys.capacity (without (bid_of b.quote) b.buys.elements) rooms.0;
        free = free_without Buy b.next (bid_leg q b.next) refl refl (bid_of b.quote) b.buys.elements w.sound.buys.elements.numbers free.0;
      }

  pub ask_room : Room Sell (holding b.sells (without (ask_of b.quote) b.sells.elements)) (ask_leg q (b.next + 1))
  ask_room =
      record {
        place = not_full b.sells.capacity (without (ask_of b.quote) b.sells.elements) rooms.1;
        free = free_without Sell (b.next + 1) (ask_leg q (b.next + 1)) refl refl (ask_of b.quote) b.sells.elements w.sound.sells.elements.numbers free.1;
      }

  pub quote_fits : FitsBoth (quoted_buys q b) (quoted_sells q b) 0 table
  quote_fits =
      let long : b.buys.capacity + b.sells.capacity ≤ length table = let t = w.room in grind (arith, nat_tests) in
      record {
        buying = all-joined Buy (bid_leg q b.next) (without (bid_of b.quote) b.buys.elements) (all_without (λ o. 0 < o.lots) (bid_of b.quote) b.buys.elements w.sound.buys.elements.some);
        selling = all-joined Sell (ask_leg q (b.next + 1)) (without (ask_of b.quote) b.sells.elements) (all_without (λ o. 0 < o.lots) (ask_of b.quote) b.sells.elements w.sound.sells.elements.some);
        room = omega (arith, long, bid_room.place, ask_room.place, length-joined Buy (bid_leg q b.next) (without (bid_of b.quote) b.buys.elements), length-joined Sell (ask_leg q (b.next + 1)) (without (ask_of b.quote) b.sells.elements));
      }

-- what came back is what the rules give
pub quote_placed : (q : QuoteEntry) (b : Book) (table table' : List Trade) (r : Option Band) (place traded rests cancels : ℕ) (buys sells buys' sells' : Held Order) → buys ≡ holding b.buys (quoted_buys q b) → sells ≡ holding b.sells (quoted_sells q b) → r ≡ b.range (update_of q ∷ []) → record { table = table'; place = place; buys = buys'.elements; sells = sells'.elements } ≡ sweep_at r buys.elements sells.elements 0 table → buys'.capacity ≡ buys.capacity → sells'.capacity ≡ sells.capacity → traded ≡ traded_lots (take place table') → rests ≡ lots_under b.next buys'.elements + lots_under (b.next + 1) sells'.elements → cancels ≡ leg_lots (bid_of b.quote) b.buys.elements + leg_lots (ask_of b.quote) b.sells.elements → QuotePlaced q b (record { number = b.next; traded = traded; resting = rests; cancelled = cancels; trades = place }) table table' buys' sells'
quote_placed q b table table' r place traded rests cancels buys sells buys' sells' e f g x m n t u v =
    let w = quote_swept q b in
    let y : record { table = table'; place = place; buys = buys'.elements; sells = sells'.elements } ≡ sweep_at (b.range (update_of q ∷ [])) (quoted_buys q b) (quoted_sells q b) 0 table = x ∙ (λ i. sweep_at (g i) (e i).elements (f i).elements 0 table) in
    let z : 0 + length w.trades ≡ length w.trades = omega arith in
    let place_is : place ≡ length w.trades = ap (λ s. s.place) y ∙ z in
    let table_is : table' ≡ w.trades ++ drop (length w.trades) table = ap (λ s. s.table) y ∙ ap (λ k. w.trades ++ drop k table) z in
    let buys-is : buys'.elements ≡ w.buys = ap (λ s. s.buys) y in
    let sells-is : sells'.elements ≡ w.sells = ap (λ s. s.sells) y in
    let traded-is : traded ≡ traded_lots w.trades = t ∙ ap traded_lots ((λ i. take (place_is i) (table_is i)) ∙ take_at w.trades (drop (length w.trades) table) (length w.trades) refl) in
    let rests-is : rests ≡ lots_under b.next w.buys + lots_under (b.next + 1) w.sells = u ∙ (λ i. lots_under b.next (buys-is i) + lots_under (b.next + 1) (sells-is i)) in
    record {
      outcome = λ i. answered (record { number = b.next; traded = traded-is i; resting = rests-is i; cancelled = v i; trades = place_is i });
      trades = table_is;
      buying = λ i. record { capacity = (m ∙ ap (λ h. h.capacity) e) i; elements = buys-is i };
      selling = λ i. record { capacity = (n ∙ ap (λ h. h.capacity) f) i; elements = sells-is i };
    }

pub fits_by : (buys sells buys' sells' : Held Order) (table : List Trade) → buys ≡ buys' → sells ≡ sells' → FitsBoth buys'.elements sells'.elements 0 table → FitsBoth buys.elements sells.elements 0 table
fits_by buys sells buys' sells' table p q f =
    subst (λ x. FitsBoth x.elements sells.elements 0 table) (sym p) (subst (λ x. FitsBoth buys'.elements x.elements 0 table) (sym q) f)
