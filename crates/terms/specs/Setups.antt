-- Which set-ups are allowed, and the nine numbers that a tape gives for one.
use Rattle.std.specs.Prelude.{◌≡◌, ℕ, ◌≤◌, Bool, cond, ◌&&◌, List, [], ◌∷◌, Some, None, Ok, Err, Option, Result, nat_le, slice_index}
use Rattle.terms.specs.declared.letter.Make.{Make}
use Rattle.terms.specs.declared.letter.Market.{Market}
use Rattle.terms.specs.declared.refusal.Refusal.{Refusal}
use Rattle.terms.specs.declared.refusal.Refusal.TheVariants.{OutsideLimits}
use Rattle.terms.specs.declared.setup.Instrument.{Instrument}
use Rattle.terms.specs.declared.setup.Setup.{Setup}
use Rattle.terms.specs.declared.setup.Span.{Span}
use Rattle.terms.specs.Values.{make_number, make_of, market_number, market_of}

-- the numbers of a span are 1 to max, the least not above the greatest
abbrev pub SpanIn : ℕ → Span → Type 0
SpanIn max s = (1 ≤ s.least) × (s.least ≤ s.greatest) × (s.greatest ≤ max)

-- a set-up inside its limits
pub record Allowed (s : Setup) : Type 0 where
  pub tick : (1 ≤ s.instrument.tick) × (s.instrument.tick ≤ 100)
  pub spread : SpanIn 100000 s.instrument.spread
  pub lots : SpanIn 10000000 s.instrument.quote_lots
  pub day : SpanIn 100000 s.day

-- The same as tests, and a set-up from the numbers that a tape gives.

-- n is a to b
abbrev pub within : ℕ → ℕ → ℕ → Bool
within a b n = nat_le a n && nat_le n b

-- both numbers are 1 to max, the least not above the greatest
abbrev pub span_allowed : ℕ → Span → Bool
span_allowed max s = nat_le 1 s.least && (nat_le s.least s.greatest && nat_le s.greatest max)

-- the tick is 1 to 100, the spreads are prices, the quote lots lots of an order
abbrev pub instrument_allowed : Instrument → Bool
instrument_allowed i = within 1 100 i.tick && (span_allowed 100000 i.spread && span_allowed 10000000 i.quote_lots)

abbrev pub instrument_from : List ℕ → Instrument
instrument_from ns =
    record {
      tick = slice_index ns 0;
      spread = record { least = slice_index ns 1; greatest = slice_index ns 2 };
      quote_lots = record { least = slice_index ns 3; greatest = slice_index ns 4 };
    }

abbrev pub day_from : List ℕ → Span
day_from ns = record { least = slice_index ns 5; greatest = slice_index ns 6 }

abbrev pub setup_with : Instrument → Span → Option Make → Option Market → Result Setup Refusal
setup_with i d None k = Err OutsideLimits
setup_with i d (Some m) None = Err OutsideLimits
setup_with i d (Some m) (Some k) = Ok (record { instrument = i; day = d; make = m; market = k })

-- tick, least and greatest spread, least and greatest quote lots, floor, ceiling, make, market
abbrev pub setup_from : List ℕ → Result Setup Refusal
setup_from ns =
    cond (instrument_allowed (instrument_from ns) && span_allowed 100000 (day_from ns))
    (setup_with (instrument_from ns) (day_from ns) (make_of (slice_index ns 7)) (market_of (slice_index ns 8)))
    (Err OutsideLimits)

abbrev pub setup_numbers : Setup → List ℕ
setup_numbers s =
    s.instrument.tick ∷ (s.instrument.spread.least ∷ (s.instrument.spread.greatest
    ∷ (s.instrument.quote_lots.least ∷ (s.instrument.quote_lots.greatest ∷ (s.day.least ∷ (s.day.greatest
    ∷ (make_number s.make ∷ (market_number s.market ∷ []))))))))

-- what is made of nine numbers: each allowed set-up from its own numbers, and no other
pub record IsSetupFrom (ns : List ℕ) (r : Result Setup Refusal) : Type 0 where
  pub value : r ≡ setup_from ns
  pub accepts : (s : Setup) → Allowed s → setup_numbers s ≡ ns → r ≡ Ok s
  pub only : (s : Setup) → r ≡ Ok s → Allowed s × (setup_numbers s ≡ ns)
