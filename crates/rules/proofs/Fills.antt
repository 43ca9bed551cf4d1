-- An order that meets the other side fills its first orders.
use Rattle.std.proofs.Common.{◌≡◌, ℕ, ◌-◌, min, max, Bool, true, false, cond, ◌⊎◌, List, [], ◌∷◌, ◌++◌, map, length, take, Some, None, Option, sym, refl, ap, inl, inr, arith}
use Rattle.std.proofs.lemmas.Bool.{true≢false}
use Rattle.std.proofs.lemmas.Bool.Decides.{nat_tests}
use Rattle.std.specs.List.{AllByRecursion}
use Rattle.terms.specs.declared.side.Side.{Side}
use Rattle.terms.specs.declared.side.Side.TheVariants.{Buy, Sell}
use Rattle.terms.specs.declared.trade.Trade.{Trade}
use Rattle.queue.specs.Held.{Ordered}
use Rattle.queue.proofs.Inserts.{all_map}
use Rattle.orders.specs.Priority.{rank_of}
use Rattle.orders.specs.declared.order.Order.{Order}
use Rattle.price_range.specs.declared.band.Band.{Band}
use Rattle.rules.specs.Book.{other, resting_lots, traded_lots}
use Rattle.rules.specs.Fills.{CanMeet, counterparty, Whole, Filled}
use Rattle.rules.specs.Meeting.{Incoming, Met, Step, can_meet, meet, stepped, trade}
use Rattle.rules.proofs.Coupling.{StepIs, is_done, is_apart, is_part, is_whole, step_is, ordered_tail}
use Rattle.rules.proofs.Priorities.{apart_later}

-- the rules' test is whether some price is within both limits
meets : (r : Option Band) (s : Side) (l : ℕ) (o : Order) → can_meet r s l o.price ≡ true → CanMeet r s l o
meets None Buy l o h = absurd (true≢false (sym h))
meets None Sell l o h = absurd (true≢false (sym h))
meets (Some r) Buy l o h = (max r.low o.price, ((grind (arith, nat_tests), grind (arith, nat_tests)), (grind (arith, nat_tests), grind (arith, nat_tests))))
meets (Some r) Sell l o h = (max r.low l, ((grind (arith, nat_tests), grind (arith, nat_tests)), (grind (arith, nat_tests), grind (arith, nat_tests))))

pub cannot_meet : (r : Option Band) (s : Side) (l : ℕ) (o : Order) → can_meet r s l o.price ≡ false → CanMeet r s l o → ⊥
cannot_meet None s l o h (p, (i, x)) = i
cannot_meet (Some r) Buy l o h (p, ((i, j), (x, y))) = grind (arith, nat_tests)
cannot_meet (Some r) Sell l o h (p, ((i, j), (x, y))) = grind (arith, nat_tests)

-- those that can meet, and those behind them
abbrev near_of : Option Band → Side → ℕ → List Order → List Order
near_of r s l [] = []
near_of r s l (o ∷ os) = cond (can_meet r s l o.price) (o ∷ near_of r s l os) []

abbrev far_of : Option Band → Side → ℕ → List Order → List Order
far_of r s l [] = []
far_of r s l (o ∷ os) = cond (can_meet r s l o.price) (far_of r s l os) (o ∷ os)

near_far : (r : Option Band) (s : Side) (l : ℕ) (os : List Order) → os ≡ near_of r s l os ++ far_of r s l os
near_far r s l [] = refl
near_far r s l (o ∷ os) = go (can_meet r s l o.price) (near_far r s l os)
  where
    go : (t : Bool) → os ≡ near_of r s l os ++ far_of r s l os → o ∷ os ≡ cond t (o ∷ near_of r s l os) [] ++ cond t (far_of r s l os) (o ∷ os)
    go true e = ap (λ xs. o ∷ xs) e
    go false e = refl

near_can : (r : Option Band) (s : Side) (l : ℕ) (os : List Order) → AllByRecursion (CanMeet r s l) (near_of r s l os)
near_can r s l [] = tt
near_can r s l (o ∷ os) = go (can_meet r s l o.price) refl (near_can r s l os)
  where
    go : (t : Bool) → can_meet r s l o.price ≡ t → AllByRecursion (CanMeet r s l) (near_of r s l os) → AllByRecursion (CanMeet r s l) (cond t (o ∷ near_of r s l os) [])
    go true e a = (meets r s l o e, a)
    go false e a = tt

-- behind one that cannot meet none can
behind : (r : Option Band) (s : Side) (l : ℕ) (o : Order) (os : List Order) → can_meet r s l o.price ≡ false → Ordered (rank_of (other s)) (o ∷ os) → AllByRecursion (λ x. CanMeet r s l x → ⊥) (o ∷ os)
behind r s l o os e d = (cannot_meet r s l o e, all_map (λ x b. cannot_meet r s l x (apart_later r s l o x e b)) os d.sorted.0)

far_cannot : (r : Option Band) (s : Side) (l : ℕ) (os : List Order) → Ordered (rank_of (other s)) os → AllByRecursion (λ o. CanMeet r s l o → ⊥) (far_of r s l os)
far_cannot r s l [] d = tt
far_cannot r s l (o ∷ os) d = go (can_meet r s l o.price) refl (far_cannot r s l os (ordered_tail (other s) d))
  where
    go : (t : Bool) → can_meet r s l o.price ≡ t → AllByRecursion (λ x. CanMeet r s l x → ⊥) (far_of r s l os) → AllByRecursion (λ x. CanMeet r s l x → ⊥) (cond t (far_of r s l os) (o ∷ os))
    go true e a = a
    go false e a = behind r s l o os e d

-- what a meeting trades
record Meets (r : Option Band) (s : Side) (l k : ℕ) (os : List Order) (m : Met) : Type 0 where
  parties : map (counterparty s) m.trades ≡ map (λ o. o.number) (take (length m.trades) os)
  whole : Whole m.trades os
  traded : traded_lots m.trades ≡ min k (resting_lots (near_of r s l os))
  stops : (traded_lots m.trades ≡ k) ⊎ AllByRecursion (λ o. CanMeet r s l o → ⊥) m.rest

party_is : (r : Option Band) (s : Side) (i : Incoming) (o : Order) (k : ℕ) → counterparty s (trade r s i o k) ≡ o.number
party_is r Buy i o k = refl
party_is r Sell i o k = refl

lots_are : (r : Option Band) (s : Side) (i : Incoming) (o : Order) (k : ℕ) → (trade r s i o k).lots ≡ k
lots_are r Buy i o k = refl
lots_are r Sell i o k = refl

whole_on : (t : Trade) (ts : List Trade) (o : Order) (os : List Order) → t.lots ≡ o.lots → Whole ts os → Whole (t ∷ ts) (o ∷ os)
whole_on t [] o os e w = omega (arith, e)
whole_on t (u ∷ ts) o os e w = (e, w)

met : (r : Option Band) (s : Side) (i : Incoming) (k : ℕ) (os : List Order) → Ordered (rank_of (other s)) os → Meets r s i.limit k os (meet r s i k os)
met r s i k [] d = record { parties = refl; whole = tt; traded = omega arith; stops = inr tt }
met r s i k (o ∷ os) d = go (step_is r s i.limit k o) (met r s i (k - o.lots) os (ordered_tail (other s) d))
  where
    go : {w : Step} → StepIs r s i.limit k o w → Meets r s i.limit (k - o.lots) os (meet r s i (k - o.lots) os) → Meets r s i.limit k (o ∷ os) (stepped w r s i k o os (meet r s i (k - o.lots) os))
    go (is_done e) f = record { parties = refl; whole = tt; traded = omega (arith, e); stops = inl (sym e) }
    go (is_apart e a) f = record { parties = refl; whole = tt; traded = rw a (omega arith); stops = inr (behind r s i.limit o os a d) }
    go (is_part e a h) f =
        let dealt = lots_are r s i o k in
        record {
          parties = ap (λ n. n ∷ []) (party_is r s i o k);
          whole = omega (arith, dealt, h);
          traded = rw a (omega (arith, dealt, h));
          stops = inl (omega (arith, dealt));
        }
    go (is_whole e a h) f =
        let dealt = lots_are r s i o o.lots in
        record {
          parties = λ j. party_is r s i o o.lots j ∷ f.parties j;
          whole = whole_on (trade r s i o o.lots) (meet r s i (k - o.lots) os).trades o os dealt f.whole;
          traded = rw a (omega (arith, dealt, h, f.traded));
          stops = more dealt f.stops;
        }
      where
        more : (trade r s i o o.lots).lots ≡ o.lots → (traded_lots (meet r s i (k - o.lots) os).trades ≡ k - o.lots) ⊎ AllByRecursion (λ x. CanMeet r s i.limit x → ⊥) (meet r s i (k - o.lots) os).rest → (traded_lots (trade r s i o o.lots ∷ (meet r s i (k - o.lots) os).trades) ≡ k) ⊎ AllByRecursion (λ x. CanMeet r s i.limit x → ⊥) (meet r s i (k - o.lots) os).rest
        more dealt (inl g) = inl (omega (arith, dealt, g, h))
        more dealt (inr g) = inr g

pub filled : (r : Option Band) (s : Side) (i : Incoming) (k : ℕ) (os : List Order) → Ordered (rank_of (other s)) os → Filled r s i.limit k (meet r s i k os).trades os (meet r s i k os).rest
filled r s i k os d =
    let m = met r s i k os d in
    record {
      near = near_of r s i.limit os;
      far = far_of r s i.limit os;
      split = near_far r s i.limit os;
      can = near_can r s i.limit os;
      cannot = far_cannot r s i.limit os d;
      parties = m.parties;
      whole = m.whole;
      traded = m.traded;
      stops = m.stops;
    }
