-- The laws of the quote range.
use Rattle.std.specs.Prelude.{◌≡◌, ℕ, ◌<◌, ◌≤◌, List, [], ◌∷◌, ◌++◌, Some, None, Option, nat_le, refl}
use Rattle.std.specs.Option.{ForSome}
use Rattle.std.proofs.Common.{ap, ◌∙◌}
use Rattle.std.proofs.lemmas.Bool.{cond_both, cond-false, leb-true, lt-leb}
use Rattle.price_range.specs.Bands.{Update, Proper, band_of, told, quote_answers, or_else, last_quote}
use Rattle.price_range.specs.declared.band.Band.{Band}

band_proper : (low high : ℕ) → Proper (band_of low high)
band_proper low high = cond_both (nat_le low high) _ _ Proper (λ t. leb-true low high t) (λ _. tt)

proper_of : (o : Option Band) → ForSome o (λ b. b.low ≤ b.high) → Proper o
proper_of None p = tt
proper_of (Some b) p = p b refl

or_proper : (a b : Option Band) → Proper a → Proper b → Proper (or_else a b)
or_proper None b p q = q
or_proper (Some x) b p q = p

answers_proper : (last : Option Band) (us : List Update) → Proper last → Proper (quote_answers last us)
answers_proper last [] p = p
answers_proper last (u ∷ us) p = answers_proper (told last u) us (or_proper (band_of u.bid u.ask) last (band_proper u.bid u.ask) p)

pub quote_proper : (last : Option Band) (us : List Update) → ForSome last (λ b. b.low ≤ b.high) → Proper (quote_answers last us)
quote_proper last us p = answers_proper last us (proper_of last p)

-- a quote, proper or not, stands for its band
pub update_proper : (last : Update) (us : List Update) → Proper (quote_answers (band_of last.bid last.ask) us)
update_proper last us = answers_proper (band_of last.bid last.ask) us (band_proper last.bid last.ask)

-- a bid above its ask moves nothing
pub quote_backwards : (last : Option Band) (us vs : List Update) (u : Update) → u.ask < u.bid → quote_answers last (us ++ (u ∷ vs)) ≡ quote_answers last (us ++ vs)
quote_backwards last [] vs u h = ap (λ o. quote_answers (or_else o last) vs) (cond-false (nat_le u.bid u.ask) _ None (lt-leb u.bid u.ask h))
quote_backwards last (w ∷ us) vs u h = quote_backwards (told last w) us vs u h

or_assoc : (a b c : Option Band) → or_else a (or_else b c) ≡ or_else (or_else a b) c
or_assoc None b c = refl
or_assoc (Some x) b c = refl

pub quote_last : (last : Option Band) (us : List Update) → quote_answers last us ≡ or_else (last_quote us) last
quote_last last [] = refl
quote_last last (u ∷ us) = quote_last (told last u) us ∙ or_assoc (last_quote us) (band_of u.bid u.ask) last

or_none : (o : Option Band) → or_else o None ≡ o
or_none None = refl
or_none (Some b) = refl

-- where there has been no quote
pub quote_first : (us : List Update) → quote_answers None us ≡ last_quote us
quote_first us = quote_last None us ∙ or_none (last_quote us)

-- nor has there been one where all that was told has its bid above its ask
pub update_first : (last : Update) (us : List Update) → last.ask < last.bid → quote_answers (band_of last.bid last.ask) us ≡ last_quote us
update_first last us h = ap (λ o. quote_answers o us) (cond-false (nat_le last.bid last.ask) _ None (lt-leb last.bid last.ask h)) ∙ quote_first us
