-- What is pushed onto a text, number by number and letter by letter.
use Rattle.std.proofs.Common.{◌≡◌, ℕ, ◌+◌, ◌<◌, List, [], ◌∷◌, ◌++◌, length, get_or, take, decimal, sym, ap, ◌∙◌, append_assoc, lit<}
use Rattle.std.proofs.lemmas.List.{append-nil, take_more}
use Rattle.terms.specs.Values.{letter_byte}
use Rattle.terms.specs.declared.letter.Letter.{Letter}
use Rattle.terms.specs.declared.letter.Letter.TheVariants.{Buy, Sell, ImmediateBuy, ImmediateSell, Change, Cancel, Quote, Renew, Halt, Resume, End}
use Rattle.tape.specs.Lines.{spaced}

spaced_push : (ns : List ℕ) (n : ℕ) → spaced (ns ++ (n ∷ [])) ≡ spaced ns ++ (32 ∷ decimal n)
spaced_push [] n = ap (λ bs. 32 ∷ bs) (append-nil (decimal n))
spaced_push (m ∷ ns) n =
    ap (λ bs. 32 ∷ bs) (ap (λ bs. decimal m ++ bs) (spaced_push ns n) ∙ sym (append_assoc (decimal m) (spaced ns) (32 ∷ decimal n)))

pub spaced_more : (old ns : List ℕ) (i n : ℕ) → i < length ns → get_or ns i 0 ≡ n → (old ++ spaced (take i ns)) ++ (32 ∷ decimal n) ≡ old ++ spaced (take (i + 1) ns)
spaced_more old ns i n h e =
    append_assoc old (spaced (take i ns)) (32 ∷ decimal n)
    ∙ ap (λ bs. old ++ bs) (sym (ap spaced (take_more ns i 0 h ∙ ap (λ m. take i ns ++ (m ∷ [])) e) ∙ spaced_push (take i ns) n))

-- a letter is one byte of a text
pub letter_small : (l : Letter) → letter_byte l < 128
letter_small Buy = lit< tt
letter_small Sell = lit< tt
letter_small ImmediateBuy = lit< tt
letter_small ImmediateSell = lit< tt
letter_small Change = lit< tt
letter_small Cancel = lit< tt
letter_small Quote = lit< tt
letter_small Renew = lit< tt
letter_small Halt = lit< tt
letter_small Resume = lit< tt
letter_small End = lit< tt
