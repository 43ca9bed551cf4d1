-- An order that is changed or cancelled, by the rules.
use Rattle.std.proofs.Common.{◌≡◌, ℕ, ◌+◌, ◌-◌, ◌<◌, ◌≤◌, Bool, true, false, cond, not, ◌&&◌, ◌||◌, eqb, ◌⊎◌, List, [], ◌∷◌, length, take, Some, None, Option, sym, refl, ap, ◌∙◌, subst, inl, inr, arith}
use Rattle.std.proofs.lemmas.Bool.{cases_eq, cond_both, or_parts, or_from, ne_eqb, le-leb}
use Rattle.std.proofs.lemmas.Bool.Decides.{nat_tests}
use Rattle.std.specs.List.{AllByRecursion}
use Rattle.terms.specs.declared.message.OrderChange.{OrderChange}
use Rattle.terms.specs.declared.side.Side.{Side}
use Rattle.terms.specs.declared.side.Side.TheVariants.{Buy, Sell}
use Rattle.terms.specs.declared.trade.Trade.{Trade}
use Rattle.queue.proofs.Cuts.{cutting_some}
use Rattle.queue.specs.Held.{Held, Sound, any, first, clash, takes, remove, change, cutting, after_cut, after_put, after_take}
use Rattle.orders.specs.Priority.{rank_of, with_lots}
use Rattle.orders.specs.declared.order.Found.{Found}
use Rattle.orders.specs.declared.order.Order.{Order}
use Rattle.price_range.specs.declared.band.Band.{Band}
use Rattle.rules.specs.Book.{Book, other, on, pick, holding, band, traded_lots}
use Rattle.rules.specs.ByRule.{ByRule, SoundBook}
use Rattle.rules.specs.Calls.{answered, change as change'}
use Rattle.rules.specs.Checks.{first_of, checks, found, keeps_place, if_found, change_takes, taken, short_table}
use Rattle.rules.specs.Rules.{number_is, changing, meeting_band}
use Rattle.rules.specs.Tables.{Fits, Room, enter_at, entering_of}
use Rattle.rules.specs.Meeting.{incoming, joined, meet}
use Rattle.rules.proofs.Agreement.{meet_none, found-on}
use Rattle.rules.proofs.Entries.{Absent, absent_removed}
use Rattle.rules.proofs.Legs.{remove_held}
use Rattle.rules.proofs.Placing.{put_placed, joins}
use Rattle.rules.proofs.Passing.{side_fits}
use Rattle.rules.proofs.Postings.{found-is}
use Rattle.rules.proofs.Ruled.{book_with, change_ruled, lowered_ruled}
use Rattle.rules.proofs.Tables.{ends}
use Rattle.rules.proofs.Theorem.{passed}

-- a turn that only the changed order may have is free when it is out
free_out : (s : Side) (o : Order) (os : List Order) → Absent o.number os → any (takes (rank_of s) o.turn (Some o.number)) os ≡ false → any (clash (rank_of s) o) os ≡ false
free_out s o [] a h = refl
free_out s o (x ∷ xs) a h =
    let p = or_parts (takes (rank_of s) o.turn (Some o.number) x) (any (takes (rank_of s) o.turn (Some o.number)) xs) h in
    let n = ne_eqb x.number o.number a.0 in
    let t = or_parts (eqb x.number o.turn) (eqb x.turn o.turn) (subst (λ u. (not u && (eqb x.number o.turn || eqb x.turn o.turn)) ≡ false) n p.0) in
    or_from (clash (rank_of s) o x) (any (clash (rank_of s) o) xs) (or_from (eqb x.number o.number) (eqb x.turn o.turn) n t.1) (free_out s o xs a.1 p.1)

takes_removed : (s : Side) (t n : ℕ) (os : List Order) → any (takes (rank_of s) t (Some n)) os ≡ false → any (takes (rank_of s) t (Some n)) (remove (number_is n) os) ≡ false
takes_removed s t n [] h = refl
takes_removed s t n (x ∷ xs) h =
    let p = or_parts (takes (rank_of s) t (Some n) x) (any (takes (rank_of s) t (Some n)) xs) h in
    cond_both (eqb x.number n) xs (x ∷ remove (number_is n) xs) (λ ys. any (takes (rank_of s) t (Some n)) ys ≡ false) (λ _. p.1)
    (λ _. or_from (takes (rank_of s) t (Some n) x) _ p.0 (takes_removed s t n xs p.1))

first_any : (n : ℕ) (os : List Order) (o : Order) → first (number_is n) os ≡ Some o → any (number_is n) os ≡ true
first_any n [] o h = let z : ◌≡◌ {A = ℕ} 0 1 = cc in absurd (omega arith)
first_any n (x ∷ xs) o h = go (eqb x.number n) h (first_any n xs o)
  where
    go : (t : Bool) → cond t (Some x) (first (number_is n) xs) ≡ Some o → (first (number_is n) xs ≡ Some o → any (number_is n) xs ≡ true) → (t || any (number_is n) xs) ≡ true
    go true e f = refl
    go false e f = f e

-- the place of a changed order, when it is out
pub change_room : (s : Side) (h : Held Order) (o x : Order) → Sound (rank_of s) h → first (number_is o.number) h.elements ≡ Some x → any (takes (rank_of s) o.turn (Some o.number)) h.elements ≡ false → Room s (holding h (remove (number_is o.number) h.elements)) o
change_room s h o x w here t =
    record {
      place = omega (arith, w.fits, remove_held o.number h.elements (first_any o.number h.elements x here));
      free = free_out s o (remove (number_is o.number) h.elements) (absent_removed o.number h.elements w.elements.numbers) (takes_removed s o.turn o.number h.elements t);
    }

-- lots that come off in place
change_same : (n : ℕ) (os : List Order) (o : Order) → first (number_is n) os ≡ Some o → change (number_is n) (λ x. with_lots x o.lots) os ≡ os
change_same n [] o h = refl
change_same n (x ∷ xs) o h = go (eqb x.number n) h (change_same n xs o)
  where
    go : (t : Bool) → cond t (Some x) (first (number_is n) xs) ≡ Some o → (first (number_is n) xs ≡ Some o → change (number_is n) (λ y. with_lots y o.lots) xs ≡ xs) → cond t (with_lots x o.lots ∷ xs) (x ∷ change (number_is n) (λ y. with_lots y o.lots) xs) ≡ x ∷ xs
    go true e f = let s : x ≡ o = cc in ap (λ y. with_lots x y.lots ∷ xs) (sym s)
    go false e f = ap (λ ys. x ∷ ys) (f e)

pub cut_lowered : (s : Side) (h : Held Order) (n k : ℕ) (o : Order) → first (number_is n) h.elements ≡ Some o → 0 < k → k ≤ o.lots → after_cut (rank_of s) h n (o.lots - k) ≡ holding h (change (number_is n) (λ x. with_lots x k) h.elements)
cut_lowered s h n k o here z b = go (cases_eq k o.lots)
  where
    go : (k ≡ o.lots) ⊎ (k ≡ o.lots → ⊥) → after_cut (rank_of s) h n (o.lots - k) ≡ holding h (change (number_is n) (λ x. with_lots x k) h.elements)
    go (inl e) =
        let m : o.lots - k ≡ 0 = omega arith in
        let kept : after_cut (rank_of s) h n (o.lots - k) ≡ h = rw (m, here) refl in
        kept ∙ ap (holding h) (sym (ap (λ j. change (number_is n) (λ x. with_lots x j) h.elements) e ∙ change_same n h.elements o here))
    go (inr d) =
        let some : 0 < o.lots - k = omega (arith, d) in
        let fits : o.lots - k ≤ o.lots = omega arith in
        let back : o.lots - (o.lots - k) ≡ k = omega arith in
        let cut : after_cut (rank_of s) h n (o.lots - k) ≡ holding h (cutting (rank_of s) (number_is n) (o.lots - k) h.elements) = rw (here, le-leb 1 (o.lots - k) some, le-leb (o.lots - k) o.lots fits) refl in
        cut
        ∙ ap (holding h) (cutting_some (number_is n) (rank_of s) (o.lots - k) h.elements o here (λ e. omega arith) ∙ ap (λ j. change (number_is n) (λ x. with_lots x j) h.elements) back)

-- entering where nothing meets
pub enter_none : (s : Side) (o : Order) (own opp : Held Order) (table : List Trade) → record { table = table; place = 0; left = o.lots; own = holding own (joined s o own.elements); opposite = opp } ≡ enter_at None false s o own opp table
enter_none s o own opp table = ap (entering_of false s o own opp) (ends (meet None s (incoming o) o.lots opp.elements) o.lots opp.elements 0 table (meet_none s (incoming o) o.lots opp.elements))

pub put-joined : (s : Side) (h : Held Order) (o : Order) → 0 < o.lots → Room s h o → after_put (rank_of s) h o ≡ holding h (joined s o h.elements)
put-joined s h o z r = put_placed s h o z r ∙ ap (holding h) (joins s o h.elements z)

-- an accepted change of an order that was found
module _ (c : OrderChange) (k : ℕ) (f : Found) (b : Book) (passes : first_of (checks (change' c k) b) ≡ None) (here : found b c.order ≡ Some f) where
  rests : first (number_is c.order) (on f.side b).elements ≡ Some f.order
  rests = found-on b c.order f here

  some_lots : 0 < c.lots
  some_lots = let t = (passed (checks (change' c k) b) passes).1.1.1.0 in grind (arith, nat_tests)

  -- lots come off in place
  pub change-lowered : (buys sells : Held Order) (table : List Trade) → keeps_place c f.order ≡ true → pick f.side buys sells ≡ after_cut (rank_of f.side) (on f.side b) c.order (f.order.lots - c.lots) → pick (other f.side) buys sells ≡ on (other f.side) b → ByRule (change' c k) b (answered (record { number = c.order; traded = 0; resting = c.lots; cancelled = f.order.lots - c.lots; trades = 0 })) table table (book_with b b.next buys sells)
  change-lowered buys sells table keeps p q =
      let fits : c.lots ≤ f.order.lots = grind (arith, nat_tests) in
      lowered_ruled c k f b buys sells table passes here keeps (p ∙ cut_lowered f.side (on f.side b) c.order c.lots f.order rests some_lots fits) q

  -- the order is out
  module _ (moves : keeps_place c f.order ≡ false) (sound : SoundBook b) (buys₁ sells₁ : Held Order) (out : pick f.side buys₁ sells₁ ≡ after_take (rank_of f.side) (on f.side b) c.order) (kept : pick (other f.side) buys₁ sells₁ ≡ on (other f.side) b) where
    abbrev order : Order
    order = changing c f.order b.next

    free : any (takes (rank_of f.side) b.next (Some c.order)) (on f.side b).elements ≡ false
    free =
        let t = (passed (checks (change' c k) b) passes).1.1.1.1.1.1.1.1.1.1.0 in
        let u : (not (keeps_place c f.order) && taken f.side b.next (Some f.order.number) b) ≡ false = subst (λ o. if_found o (change_takes c b) ≡ false) here t in
        let n : f.order.number ≡ c.order = (found-is (λ x. Unit {0}) c.order (on f.side b).elements f.order rests (all_unit (on f.side b).elements)).0 in
        ap (λ m. taken f.side b.next (Some m) b) (sym n) ∙ subst (λ v. (not v && taken f.side b.next (Some f.order.number) b) ≡ false) moves u
      where
        all_unit : (os : List Order) → AllByRecursion (λ x. Unit {0}) os
        all_unit [] = tt
        all_unit (x ∷ xs) = (tt, all_unit xs)

    pub changed_room : Room f.side (pick f.side buys₁ sells₁) (changing c f.order b.next)
    changed_room = subst (λ h. Room f.side h order) (sym out) (change_room f.side (on f.side b) order f.order (side_sound f.side) rests free)
      where
        side_sound : (s : Side) → Sound (rank_of s) (on s b)
        side_sound Buy = sound.buys
        side_sound Sell = sound.sells

    pub changed_fits : (table : List Trade) → short_table (length table) b ≡ false → Fits (pick (other f.side) buys₁ sells₁).elements 0 table
    changed_fits table t = subst (λ h. Fits h.elements 0 table) (sym kept) (side_fits (other f.side) b table sound t)

    -- and meets the other side
    pub change-entered : (buys sells : Held Order) (table table' : List Trade) (place left traded : ℕ) (r : Option Band) → r ≡ meeting_band b.phase (band b) → record { table = table'; place = place; left = left; own = pick f.side buys sells; opposite = pick (other f.side) buys sells } ≡ enter_at r false f.side (changing c f.order b.next) (pick f.side buys₁ sells₁) (pick (other f.side) buys₁ sells₁) table → traded ≡ traded_lots (take place table') → ByRule (change' c k) b (answered (record { number = c.order; traded = traded; resting = left; cancelled = f.order.lots - c.lots; trades = place })) table table' (book_with b (b.next + 1) buys sells)
    change-entered buys sells table table' place left traded r e x t =
        change_ruled c f b buys sells table table' place left traded (f.order.lots - c.lots) k passes here moves (x ∙ (λ i. enter_at (e i) false f.side order (out i) (kept i) table)) t refl

    -- or, in a halt, only rests
    pub change_rested : (buys sells : Held Order) → None ≡ meeting_band b.phase (band b) → pick f.side buys sells ≡ after_put (rank_of f.side) (pick f.side buys₁ sells₁) (changing c f.order b.next) → pick (other f.side) buys sells ≡ pick (other f.side) buys₁ sells₁ → ByRule (change' c k) b (answered (record { number = c.order; traded = 0; resting = c.lots; cancelled = f.order.lots - c.lots; trades = 0 })) [] [] (book_with b (b.next + 1) buys sells)
    change_rested buys sells e p q =
        change-entered buys sells [] [] 0 c.lots 0 None e
        ((λ i. record { table = []; place = 0; left = c.lots; own = (p ∙ put-joined f.side (pick f.side buys₁ sells₁) order some_lots changed_room) i; opposite = q i })
        ∙ enter_none f.side order (pick f.side buys₁ sells₁) (pick (other f.side) buys₁ sells₁) [])
        refl
