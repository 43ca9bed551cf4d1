-- What the delivered ranges answer after a list of quote updates.
use Rattle.std.specs.Prelude.{ℕ, ◌≤◌, min, max, cond, List, [], ◌∷◌, Some, None, Option, nat_le}
use Rattle.terms.specs.declared.setup.Span.{Span}
use Rattle.price_range.specs.declared.band.Band.{Band}

-- the bid and ask of a quote
pub record Update : Type 0 where
  pub bid : ℕ
  pub ask : ℕ

-- low is not above high
abbrev pub Proper : Option Band → Type 0
Proper None = Unit {0}
Proper (Some b) = b.low ≤ b.high

-- low to high, or none where low is above high
abbrev pub band_of : ℕ → ℕ → Option Band
band_of low high = cond (nat_le low high) (Some (record { low = low; high = high })) None

-- a band, or another where there is none
abbrev pub or_else : Option Band → Option Band → Option Band
or_else None o = o
or_else (Some b) o = Some b

-- of two quotes the later one counts, unless its bid is above its ask
abbrev pub told : Option Band → Update → Option Band
told last u = or_else (band_of u.bid u.ask) last

-- the prices of the last quote, where those of the one before are given
abbrev pub quote_answers : Option Band → List Update → Option Band
quote_answers last [] = last
quote_answers last (u ∷ us) = quote_answers (told last u) us

-- the same in other words: none until a quote is told, then bid to ask of the last one whose bid is not above its ask
abbrev pub last_quote : List Update → Option Band
last_quote [] = None
last_quote (u ∷ us) = or_else (last_quote us) (band_of u.bid u.ask)

-- floor to ceiling
abbrev pub day_band : Span → Option Band
day_band day = Some (record { low = day.least; high = day.greatest })

-- the prices common to floor to ceiling and another band
abbrev pub common : Span → Option Band → Option Band
common day None = None
common day (Some b) = band_of (max b.low day.least) (min b.high day.greatest)

-- a price is inside a band, and of the day
abbrev pub Inside : Option Band → ℕ → Type 0
Inside None p = ⊥
Inside (Some b) p = (b.low ≤ p) × (p ≤ b.high)

abbrev pub OfDay : Span → ℕ → Type 0
OfDay day p = (day.least ≤ p) × (p ≤ day.greatest)

-- the band o has just the prices of another that are of the day
abbrev pub Common : Span → Option Band → Option Band → Type 0
Common day other o = (p : ℕ) → (Inside o p → Inside other p × OfDay day p) × (Inside other p → OfDay day p → Inside o p)
