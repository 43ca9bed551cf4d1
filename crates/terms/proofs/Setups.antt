-- A set-up and its nine numbers determine each other, inside the limits.
use Rattle.std.proofs.Common.{◌≡◌, ℕ, zero, suc, true, ◌&&◌, leb, List, [], ◌∷◌, length, get_or, Some, None, Ok, Err, Option, Result, sym, refl, ap, ◌∙◌, ⊎_elim, arith}
use Rattle.std.proofs.lemmas.Bool.{cases_Bool, cond-true, cond-false, and_parts, and_from, leb-true, le-leb}
use Rattle.terms.specs.Setups.{SpanIn, Allowed, within, span_allowed, instrument_allowed, instrument_from, day_from, setup_with, setup_from, setup_numbers, IsSetupFrom}
use Rattle.terms.specs.Values.{make_number, make_of, market_number, market_of}
use Rattle.terms.specs.declared.letter.Make.{Make}
use Rattle.terms.specs.declared.letter.Make.TheVariants.{Sorted, Heaps}
use Rattle.terms.specs.declared.letter.Market.{Market}
use Rattle.terms.specs.declared.letter.Market.TheVariants.{Warrant, Stock}
use Rattle.terms.specs.declared.refusal.Refusal.{Refusal}
use Rattle.terms.specs.declared.refusal.Refusal.TheVariants.{OutsideLimits}
use Rattle.terms.specs.declared.setup.Instrument.{Instrument}
use Rattle.terms.specs.declared.setup.Setup.{Setup}
use Rattle.terms.specs.declared.setup.Span.{Span}
use Rattle.terms.proofs.Cases.{case_value}

-- the k numbers from place i on, place by place
unfoldable pub places : ℕ → ℕ → List ℕ → List ℕ
places i zero ns = []
places i (suc k) ns = get_or ns i 0 ∷ places (suc i) k ns

places_behind : (i k n : ℕ) (ns : List ℕ) → places (suc i) k (n ∷ ns) ≡ places i k ns
unfolding places
places_behind i zero n ns = refl
places_behind i (suc k) n ns = ap (λ ms. get_or ns i 0 ∷ ms) (places_behind (suc i) k n ns)

pub places_all : (k : ℕ) (ns : List ℕ) → length ns ≡ k → places 0 k ns ≡ ns
unfolding places
places_all zero [] e = refl
places_all zero (n ∷ ns) e = absurd (omega arith)
places_all (suc k) [] e = absurd (omega arith)
places_all (suc k) (n ∷ ns) e = ap (λ ms. n ∷ ms) (places_behind 0 k n ns ∙ places_all k ns (omega arith))

pub refused : {A : Type 0} {x : Refusal} (p : A) → ◌≡◌ {A = Result A Refusal} (Err x) (Ok p) → ⊥
refused p e = let z : ◌≡◌ {A = ℕ} 0 1 = cc in omega arith

-- the tests say what they test
span_true : (max : ℕ) (s : Span) → span_allowed max s ≡ true → SpanIn max s
span_true max s h =
    let one = and_parts (leb 1 s.least) (leb s.least s.greatest && leb s.greatest max) h in
    let two = and_parts (leb s.least s.greatest) (leb s.greatest max) one.1 in
    (leb-true 1 s.least one.0, leb-true s.least s.greatest two.0, leb-true s.greatest max two.1)

span_test : (max : ℕ) (s : Span) → SpanIn max s → span_allowed max s ≡ true
span_test max s h =
    and_from (leb 1 s.least) _ (le-leb 1 s.least h.0) (and_from (leb s.least s.greatest) _ (le-leb s.least s.greatest h.1) (le-leb s.greatest max h.2))

kinds_only : (i : Instrument) (d : Span) (x : Option Make) (y : Option Market) (s : Setup) → setup_with i d x y ≡ Ok s → (k : Make) × (j : Market) × (x ≡ Some k) × (y ≡ Some j) × (record { instrument = i; day = d; make = k; market = j } ≡ s)
kinds_only i d None y s e = absurd (refused s e)
kinds_only i d (Some k) None s e = absurd (refused s e)
kinds_only i d (Some k) (Some j) s e = (k, j, refl, refl, cc)

allowed_true : (s : Setup) → instrument_allowed s.instrument && span_allowed 100000 s.day ≡ true → Allowed s
allowed_true s h =
    let i = s.instrument in
    let parts = and_parts (instrument_allowed i) (span_allowed 100000 s.day) h in
    let inner = and_parts (within 1 100 i.tick) (span_allowed 100000 i.spread && span_allowed 10000000 i.quote_lots) parts.0 in
    let tick = and_parts (leb 1 i.tick) (leb i.tick 100) inner.0 in
    let spans = and_parts (span_allowed 100000 i.spread) (span_allowed 10000000 i.quote_lots) inner.1 in
    record {
      tick = (leb-true 1 i.tick tick.0, leb-true i.tick 100 tick.1);
      spread = span_true 100000 i.spread spans.0;
      lots = span_true 10000000 i.quote_lots spans.1;
      day = span_true 100000 s.day parts.1;
    }

allowed_test : (s : Setup) → Allowed s → instrument_allowed s.instrument && span_allowed 100000 s.day ≡ true
allowed_test s h =
    let i = s.instrument in
    let tick = and_from (leb 1 i.tick) (leb i.tick 100) (le-leb 1 i.tick h.tick.0) (le-leb i.tick 100 h.tick.1) in
    let spans = and_from (span_allowed 100000 i.spread) (span_allowed 10000000 i.quote_lots) (span_test 100000 i.spread h.spread) (span_test 10000000 i.quote_lots h.lots) in
    and_from (instrument_allowed i) (span_allowed 100000 s.day) (and_from (within 1 100 i.tick) _ tick spans) (span_test 100000 s.day h.day)

pub setup_only : (ns : List ℕ) (s : Setup) → length ns ≡ 9 → setup_from ns ≡ Ok s → Allowed s × (setup_numbers s ≡ ns)
unfolding places
setup_only ns s nine e =
    let test = instrument_allowed (instrument_from ns) && span_allowed 100000 (day_from ns) in
    let made = setup_with (instrument_from ns) (day_from ns) (make_of (get_or ns 7 0)) (market_of (get_or ns 8 0)) in
    ⊎_elim
    (λ t.
    let kinds = kinds_only (instrument_from ns) (day_from ns) _ _ s (sym (cond-true test made (Err OutsideLimits) t) ∙ e) in
    let seventh = case_value make_number (Sorted ∷ (Heaps ∷ [])) (get_or ns 7 0) kinds.0 kinds.2 in
    let eighth = case_value market_number (Warrant ∷ (Stock ∷ [])) (get_or ns 8 0) kinds.1 kinds.3 in
    rw (sym kinds.4) (allowed_true _ t, rw (seventh, eighth) (places_all 9 ns nine)))
    (λ t. absurd (refused s (sym (cond-false test made (Err OutsideLimits) t) ∙ e)))
    (cases_Bool test)

make_back : (k : Make) → make_of (make_number k) ≡ Some k
make_back Sorted = refl
make_back Heaps = refl

market_back : (k : Market) → market_of (market_number k) ≡ Some k
market_back Warrant = refl
market_back Stock = refl

pub setup_back : (s : Setup) → Allowed s → setup_from (setup_numbers s) ≡ Ok s
setup_back s h = rw (allowed_test s h, make_back s.make, market_back s.market)

-- whatever is equal to the set-up from ns
pub is_setup_from : (ns : List ℕ) (r : Result Setup Refusal) → length ns ≡ 9 → r ≡ setup_from ns → IsSetupFrom ns r
is_setup_from ns r nine e =
    record {
      value = e;
      accepts = λ s h n. e ∙ ap setup_from (sym n) ∙ setup_back s h;
      only = λ s q. setup_only ns s nine (sym e ∙ q);
    }
