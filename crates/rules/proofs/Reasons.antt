-- The tests of the rules decide the reasons, and so the first test that holds is the reason with the lowest number.
use Rattle.std.proofs.Common.{◌≡◌, ℕ, ◌+◌, ◌-◌, ◌%◌, ◌<◌, ◌≤◌, Bool, true, false, cond, not, ◌&&◌, ◌||◌, eqb, ltb, leb, ◌⊎◌, List, [], ◌∷◌, Some, None, Option, sym, refl, ap, ◌∙◌, subst, inl, inr, arith}
use Rattle.std.proofs.lemmas.Bool.{true≢false, not-true, not-false, ltb-true, ltb-false, leb-true, leb-false, eqb-true, eqb-false, and_parts, and_cases, or_cases, or_parts}
use Rattle.terms.specs.Values.{refusal_number}
use Rattle.terms.specs.declared.message.OrderChange.{OrderChange}
use Rattle.terms.specs.declared.message.QuoteEntry.{QuoteEntry}
use Rattle.terms.specs.declared.message.Quoted.{Quoted}
use Rattle.terms.specs.declared.refusal.Refusal.{Refusal}
use Rattle.terms.specs.declared.setup.Instrument.{Instrument}
use Rattle.terms.specs.declared.setup.Span.{Span}
use Rattle.terms.specs.declared.side.Side.{Side}
use Rattle.terms.specs.declared.side.Side.TheVariants.{Buy, Sell}
use Rattle.terms.specs.declared.side.TimeInForce.{TimeInForce}
use Rattle.terms.specs.declared.side.TimeInForce.TheVariants.{Day, Immediate}
use Rattle.queue.specs.Held.{any, excepted, takes}
use Rattle.orders.specs.Priority.{rank_of}
use Rattle.orders.specs.declared.order.Found.{Found}
use Rattle.orders.specs.declared.order.Order.{Order}
use Rattle.price_range.specs.declared.band.Band.{Band}
use Rattle.rules.specs.Book.{Book, Phase, waiting, trading, halted, closed, on, band}
use Rattle.rules.specs.Calls.{Call, order, quote, renew, change, cancel, halt, resume, end, resting}
use Rattle.rules.specs.Checks as checks
use Rattle.rules.specs.Checks.{Check, first_of, allows, found, bid_of, ask_of, leg_checks}
use Rattle.rules.specs.Laws.{Better}
use Rattle.rules.specs.Reasons.{Reason, Between, In, Price, Spread, NoTurn, SomeOf, Other, Taken, Rests, OfDay, Finding, Unreached, InPlace, leg_reasons, own_reasons, reasons, Holds, Reasoned}
use Rattle.rules.specs.Rules.{rule, accepted, unless_refused, renewed, changed, cancelled, cut_in_place, reentered}

-- a test is true just where A holds
pub record Decides (t : Bool) (A : Type 0) : Type 0 where
  pub yes : t ≡ true → A
  pub no : t ≡ false → A → ⊥

by_leb : (m n : ℕ) → Decides (leb m n) (m ≤ n)
by_leb m n = record { yes = leb-true m n; no = λ e h. omega (arith, leb-false m n e, h) }

by_ltb : (m n : ℕ) → Decides (ltb m n) (m < n)
by_ltb m n = record { yes = ltb-true m n; no = λ e h. omega (arith, ltb-false m n e, h) }

by_eqb : (m n : ℕ) → Decides (eqb m n) (m ≡ n)
by_eqb m n = record { yes = eqb-true m n; no = eqb-false m n }

by_true : (t : Bool) → Decides (not t) (t ≡ false)
by_true t = record { yes = not-true t; no = λ e h. true≢false (sym (not-false t e) ∙ h) }

by_not : {t : Bool} {A : Type 0} → Decides t A → Decides (not t) (A → ⊥)
by_not {t} d = record { yes = λ e. d.no (not-true t e); no = λ e f. f (d.yes (not-false t e)) }

by_and : {t u : Bool} {A B : Type 0} → Decides t A → Decides u B → Decides (t && u) (A × B)
by_and {t} {u} {A} {B} d e = record { yes = λ h. let p = and_parts t u h in (d.yes p.0, e.yes p.1); no = λ h. go (and_cases t u h) }
  where
    go : (t ≡ false) ⊎ (u ≡ false) → A × B → ⊥
    go (inl h) (a, b) = d.no h a
    go (inr h) (a, b) = e.no h b

by_or : {t u : Bool} {A B : Type 0} → Decides t A → Decides u B → Decides (t || u) (A ⊎ B)
by_or {t} {u} {A} {B} d e = record { yes = λ h. some (or_cases t u h); no = λ h. none (or_parts t u h) }
  where
    some : (t ≡ true) ⊎ (u ≡ true) → A ⊎ B
    some (inl h) = inl (d.yes h)
    some (inr h) = inr (e.yes h)

    none : (t ≡ false) × (u ≡ false) → A ⊎ B → ⊥
    none h (inl a) = d.no h.0 a
    none h (inr b) = e.no h.1 b

by_any : {p : Order → Bool} {P : Order → Type 0} → ((o : Order) → Decides (p o) (P o)) → (os : List Order) → Decides (any p os) (SomeOf P os)
by_any d [] = record { yes = λ e. absurd (true≢false (sym e)); no = λ e h. h }
by_any d (o ∷ os) = by_or (d o) (by_any d os)

by_found : {p : Found → Bool} {P : Found → Type 0} → ((f : Found) → Decides (p f) (P f)) → (f : Option Found) → Decides (checks.if_found f p) (Finding f P)
by_found d None = record { yes = λ e. absurd (true≢false (sym e)); no = λ e h. h }
by_found d (Some f) = d f

-- the tests one by one
by_span : (a b n : ℕ) → Decides (not (leb a n && leb n b)) (Between a b n → ⊥)
by_span a b n = by_not (by_and (by_leb a n) (by_leb n b))

by_price : (i : Instrument) (p : ℕ) → Decides (checks.bad_price i p) (Price i p → ⊥)
by_price i p = by_not (by_and (by_and (by_leb 1 p) (by_leb p 100000)) (by_and (by_not (by_eqb i.tick 0)) (by_eqb (p % i.tick) 0)))

by_outside : (s : Span) (n : ℕ) → Decides (checks.outside s n) (In s n → ⊥)
by_outside s n = by_span s.least s.greatest n

by_spread : (i : Instrument) (q : QuoteEntry) → Decides (checks.bad_spread i q) (Spread i q → ⊥)
by_spread i q =
    let ask = q.ask_price in
    let bid = q.bid_price in
    let d = by_or (by_leb ask bid) (by_outside i.spread (ask - bid)) in
    record { yes = λ e. no_spread (d.yes e); no = λ e f. outside (or_parts (leb ask bid) (checks.outside i.spread (ask - bid)) e) f }
  where
    no_spread : (q.ask_price ≤ q.bid_price) ⊎ (In i.spread (q.ask_price - q.bid_price) → ⊥) → Spread i q → ⊥
    no_spread (inl h) s = omega (arith, h, s.0)
    no_spread (inr h) s = h s.1

    outside : (leb q.ask_price q.bid_price ≡ false) × (checks.outside i.spread (q.ask_price - q.bid_price) ≡ false) → (Spread i q → ⊥) → ⊥
    outside h f =
        let w = and_parts _ _ (not-false _ h.1) in
        f (leb-false q.ask_price q.bid_price h.0, (leb-true _ _ w.0, leb-true _ _ w.1))

by_turns : (next : ℕ) → Decides (checks.turns_used_up 2 next) (NoTurn (next + 1))
by_turns next =
    let d = by_ltb 1000001 (next + 2) in
    record { yes = λ e. omega (arith, d.yes e); no = λ e h. d.no e (omega (arith, h)) }

by_next : (b : Book) → Decides (checks.turns_used_up 1 b.next) (NoTurn b.next)
by_next b =
    let d = by_ltb 1000001 (b.next + 1) in
    record { yes = λ e. omega (arith, d.yes e); no = λ e h. d.no e (omega (arith, h)) }

by_other : (except : Option ℕ) (s : Side) (o : Order) → Decides (not (excepted (rank_of s) except o)) (Other except o)
by_other None s o = record { yes = λ e. tt; no = λ e h. true≢false e }
by_other (Some n) s o = by_not (by_eqb o.number n)

by_taken : (s : Side) (turn : ℕ) (except : Option ℕ) (os : List Order) → Decides (any (takes (rank_of s) turn except) os) (Taken turn except os)
by_taken s turn except = by_any (λ o. by_and (by_other except s o) (by_or (by_eqb o.number turn) (by_eqb o.turn turn)))

by_day : (t : TimeInForce) → Decides (not (checks.is_immediate t)) (OfDay t)
by_day Day = record { yes = λ e. tt; no = λ e h. true≢false e }
by_day Immediate = record { yes = λ e. absurd (true≢false (sym e)); no = λ e h. h }

by_leg : (leg : Option ℕ) (os : List Order) → Decides (checks.holds leg os) (Rests leg os)
by_leg None os = record { yes = λ e. absurd (true≢false (sym e)); no = λ e h. h }
by_leg (Some n) os = by_any (λ o. by_eqb o.number n) os

by_trading : (p : Phase) → Decides (checks.is_trading p) (p ≡ trading)
by_trading p = record { yes = which p; no = λ e h. true≢false (sym (ap checks.is_trading h) ∙ e) }
  where
    which : (q : Phase) → checks.is_trading q ≡ true → q ≡ trading
    which waiting e = absurd (true≢false (sym e))
    which trading e = refl
    which halted e = absurd (true≢false (sym e))
    which closed e = absurd (true≢false (sym e))

by_halted : (p : Phase) → Decides (checks.is_halted p) (p ≡ halted)
by_halted p = record { yes = which p; no = λ e h. true≢false (sym (ap checks.is_halted h) ∙ e) }
  where
    which : (q : Phase) → checks.is_halted q ≡ true → q ≡ halted
    which waiting e = absurd (true≢false (sym e))
    which trading e = absurd (true≢false (sym e))
    which halted e = refl
    which closed e = absurd (true≢false (sym e))

by_none : (f : Option Found) → Decides (checks.is_none f) (f ≡ None)
by_none None = record { yes = λ e. refl; no = λ e h. true≢false e }
by_none (Some f) = record { yes = λ e. absurd (true≢false (sym e)); no = λ e h. true≢false (sym (ap checks.is_none h)) }

by_better : (s : Side) (was p : ℕ) → Decides (checks.improves s was p) (Better s p was)
by_better Buy was p = by_ltb was p
by_better Sell was p = by_ltb p was

by_reach : (s : Side) (p : ℕ) (r : Option Band) → Decides (checks.out_of_reach s p r) (Unreached s p r)
by_reach s p None = record { yes = λ e. tt; no = λ e h. true≢false e }
by_reach Buy p (Some r) = by_ltb r.high p
by_reach Sell p (Some r) = by_ltb p r.low

pub by_place : (c : OrderChange) (o : Order) → Decides (checks.keeps_place c o) (InPlace c o)
by_place c o = by_and (by_eqb c.price o.price) (by_leb c.lots o.lots)

-- a table of tests, and one of reasons
abbrev Row : Check → Reason → Type 0
Row c r = (c.0 ≡ r.refusal) × Decides c.1 r.holds

abbrev Rows : List Check → List Reason → Type 0
Rows [] [] = Unit {0}
Rows [] (r ∷ rs) = ⊥
Rows (c ∷ cs) [] = ⊥
Rows (c ∷ cs) (r ∷ rs) = Row c r × Rows cs rs

leg_rows : (b : Book) → Rows (leg_checks b.next b.quote b.buys b.sells) (leg_reasons b)
leg_rows b = (
  (refl, by_turns b.next),
  (
    (refl, by_or (by_leb _ _) (by_leb _ _)),
    ((refl, by_or (by_taken Buy b.next (bid_of b.quote) b.buys.elements) (by_taken Sell (b.next + 1) (ask_of b.quote) b.sells.elements)), tt),
  ),
)

by_short : (k : ℕ) (b : Book) → Decides (checks.short_table k b) (k < b.buys.capacity + b.sells.capacity)
by_short k b = by_ltb k (b.buys.capacity + b.sells.capacity)

own_rows : (c : Call) (b : Book) → Rows (checks.value_checks c b) (own_reasons c b)
own_rows (order s t e k) b = (
  (refl, by_span 1 255 e.member),
  (
    (refl, by_price b.terms e.price),
    (
      (refl, by_span 1 10000000 e.lots),
      (
        (refl, by_short k b),
        (
          (refl, by_next b),
          (
            (refl, by_and (by_day t) (by_leb _ _)),
            ((refl, by_taken s b.next None (on s b).elements), tt),
          ),
        ),
      ),
    ),
  ),
)
own_rows (quote q k) b = (
  (refl, by_or (by_price b.terms q.bid_price) (by_price b.terms q.ask_price)),
  (
    (refl, by_or (by_span 1 10000000 q.bid_lots) (by_span 1 10000000 q.ask_lots)),
    (
      (refl, by_spread b.terms q),
      (
        (refl, by_or (by_outside b.terms.quote_lots q.bid_lots) (by_outside b.terms.quote_lots q.ask_lots)),
        ((refl, by_short k b), leg_rows b),
      ),
    ),
  ),
)
own_rows (renew k) b =
    ((refl, by_short k b), ((refl, by_and (by_leg (bid_of b.quote) b.buys.elements) (by_leg (ask_of b.quote) b.sells.elements)), leg_rows b))
own_rows (change c k) b =
    let f = found b c.order in (
      (refl, by_span 1 255 c.member),
      (
        (refl, by_price b.terms c.price),
        (
          (refl, by_span 1 10000000 c.lots),
          (
            (refl, by_and (by_trading b.phase) (by_short k b)),
            (
              (refl, by_none f),
              (
                (refl, by_found (λ g. by_not (by_eqb g.order.member c.member)) f),
                (
                  (refl, by_and (by_halted b.phase) (by_found (λ g. by_or (by_better g.side g.order.price c.price) (by_ltb g.order.lots c.lots)) f)),
                  (
                    (refl, by_and (by_trading b.phase) (by_found (λ g. by_and (by_better g.side g.order.price c.price) (by_reach g.side c.price (band b))) f)),
                    (
                      (refl, by_found (λ g. by_and (by_not (by_place c g.order)) (by_next b)) f),
                      ((refl, by_found (λ g. by_and (by_not (by_place c g.order)) (by_taken g.side b.next (Some g.order.number) (on g.side b).elements)) f), tt),
                    ),
                  ),
                ),
              ),
            ),
          ),
        ),
      ),
    )
own_rows (cancel c) b =
    let f = found b c.order in
    ((refl, by_span 1 255 c.member), ((refl, by_none f), ((refl, by_found (λ g. by_not (by_eqb g.order.member c.member)) f), tt)))
own_rows halt b = tt
own_rows resume b = tt
own_rows end b = tt
own_rows resting b = tt

rows : (c : Call) (b : Book) → Rows (checks.checks c b) (reasons c b)
rows c b = ((refl, by_true (allows b.phase c)), own_rows c b)

-- the numbers of a table rise, from n on
abbrev rising : ℕ → List Check → Bool
rising n [] = true
rising n ((r, t) ∷ cs) = leb n (refusal_number r) && rising (refusal_number r) cs

checks_rise : (c : Call) (b : Book) → rising 7 (checks.checks c b) ≡ true
checks_rise (order s t e k) b = refl
checks_rise (quote q k) b = refl
checks_rise (renew k) b = refl
checks_rise (change c k) b = refl
checks_rise (cancel c) b = refl
checks_rise halt b = refl
checks_rise resume b = refl
checks_rise end b = refl
checks_rise resting b = refl

none_holds : (cs : List Check) (rs : List Reason) → Rows cs rs → first_of cs ≡ None → (r : Refusal) → Holds r rs → ⊥
none_holds [] [] w e r h = h
none_holds [] (x ∷ rs) w e r h = w
none_holds (c ∷ cs) [] w e r h = w
none_holds ((q, t) ∷ cs) (x ∷ rs) (d, ds) e r h = go t d.1 e h (λ g. none_holds cs rs ds g r)
  where
    go : (u : Bool) → Decides u x.holds → cond u (Some q) (first_of cs) ≡ None → Holds r (x ∷ rs) → (first_of cs ≡ None → Holds r rs → ⊥) → ⊥
    go true d e h later = let z : ◌≡◌ {A = ℕ} 0 1 = cc in omega arith
    go false d e (inl h) later = d.no refl h.1
    go false d e (inr h) later = later e h

-- a reason of a table that rises from n has no lower number
not_lower : (n : ℕ) (cs : List Check) (rs : List Reason) → Rows cs rs → rising n cs ≡ true → (r : Refusal) → Holds r rs → n ≤ refusal_number r
not_lower n [] [] w e r h = absurd h
not_lower n [] (x ∷ rs) w e r h = absurd w
not_lower n (c ∷ cs) [] w e r h = absurd w
not_lower n ((q, t) ∷ cs) (x ∷ rs) (d, ds) e r h = go h (not_lower (refusal_number q) cs rs ds (and_parts _ _ e).1 r)
  where
    least : n ≤ refusal_number q
    least = leb-true n (refusal_number q) (and_parts _ _ e).0

    go : Holds r (x ∷ rs) → (Holds r rs → refusal_number q ≤ refusal_number r) → n ≤ refusal_number r
    go (inl h) later = subst (λ i. n ≤ refusal_number i) (d.0 ∙ h.0) least
    go (inr h) later = omega (arith, least, later h)

first_holds : (n : ℕ) (cs : List Check) (rs : List Reason) → Rows cs rs → rising n cs ≡ true → (r : Refusal) → first_of cs ≡ Some r → Holds r rs × ((r' : Refusal) → Holds r' rs → refusal_number r ≤ refusal_number r')
first_holds n [] rs w e r h = let z : ◌≡◌ {A = ℕ} 0 1 = cc in absurd (omega arith)
first_holds n (c ∷ cs) [] w e r h = absurd w
first_holds n ((q, t) ∷ cs) (x ∷ rs) (d, ds) e r h = go t d.1 h (first_holds (refusal_number q) cs rs ds (and_parts _ _ e).1 r)
  where
    lowest : (r' : Refusal) → Holds r' (x ∷ rs) → refusal_number q ≤ refusal_number r'
    lowest r' (inl k) = subst (λ i. refusal_number q ≤ refusal_number i) (d.0 ∙ k.0) (omega arith)
    lowest r' (inr k) = not_lower (refusal_number q) cs rs ds (and_parts _ _ e).1 r' k

    later : (x.holds → ⊥) → ((r' : Refusal) → Holds r' rs → refusal_number r ≤ refusal_number r') → (r' : Refusal) → Holds r' (x ∷ rs) → refusal_number r ≤ refusal_number r'
    later n f r' (inl k) = absurd (n k.1)
    later n f r' (inr k) = f r' k

    go : (u : Bool) → Decides u x.holds → cond u (Some q) (first_of cs) ≡ Some r → (first_of cs ≡ Some r → Holds r rs × ((r' : Refusal) → Holds r' rs → refusal_number r ≤ refusal_number r')) → Holds r (x ∷ rs) × ((r' : Refusal) → Holds r' (x ∷ rs) → refusal_number r ≤ refusal_number r')
    go true y g w = let same : q ≡ r = cc in (inl (sym d.0 ∙ same, y.yes refl), λ r' k. subst (λ i. refusal_number i ≤ refusal_number r') same (lowest r' k))
    go false y g w = (inr (w g).0, later (y.no refl) (w g).1)

-- an accepted call has an answer
unreasoned : (c : Call) (b : Book) → ((r : Refusal) → Holds r (reasons c b) → ⊥) → Reasoned c b (accepted c b).outcome
unreasoned (order s t e k) b h = h
unreasoned (quote q k) b h = h
unreasoned (renew k) b h = go b.quote
  where
    go : (q : Option Quoted) → Reasoned (renew k) b (renewed q b).outcome
    go None = h
    go (Some q) = h
unreasoned (change c k) b h = go (found b c.order)
  where
    by : (f : Found) (t : Bool) → Reasoned (change c k) b (cond t (cut_in_place c f b) (reentered c f b)).outcome
    by f true = h
    by f false = h

    go : (f : Option Found) → Reasoned (change c k) b (changed c f b).outcome
    go None = h
    go (Some f) = by f (checks.keeps_place c f.order)
unreasoned (cancel c) b h = go (found b c.order)
  where
    go : (f : Option Found) → Reasoned (cancel c) b (cancelled c f b).outcome
    go None = h
    go (Some f) = h
unreasoned halt b h = h
unreasoned resume b h = h
unreasoned end b h = h
unreasoned resting b h = h

pub reasoned : (c : Call) (b : Book) → Reasoned c b (rule c b).outcome
reasoned c b = go (first_of (checks.checks c b)) refl
  where
    go : (o : Option Refusal) → first_of (checks.checks c b) ≡ o → Reasoned c b (unless_refused o b (accepted c b)).outcome
    go None e = unreasoned c b (none_holds (checks.checks c b) (reasons c b) (rows c b) e)
    go (Some r) e = first_holds 7 (checks.checks c b) (reasons c b) (rows c b) (checks_rise c b) r e
