-- A text of lines is taken apart into the same lines.
use Rattle.std.proofs.Common.{◌≡◌, ℕ, ◌+◌, ◌%◌, ◌^◌, ◌<◌, List, [], ◌∷◌, ◌++◌, map, decimal, refl, append_assoc, arith}
use Rattle.std.proofs.lemmas.Fmt.{decimal_by_steps}
use Rattle.std.proofs.lemmas.Bool.{ne_eqb}
use Rattle.std.specs.List.{AllByRecursion}
use Rattle.tape.specs.Lines.{Word, line_end, line, lines_of}

-- no space and no end of a line
abbrev pub Clean : Word → Type 0
Clean = AllByRecursion (λ b. (b ≡ 32 → ⊥) × (b ≡ 10 → ⊥))

clean_more : (w v : Word) → Clean w → Clean v → Clean (w ++ v)
clean_more [] v h k = k
clean_more (b ∷ w) v h k = (h.0, clean_more w v h.1 k)

clean_digit : (d : ℕ) → Clean ((48 + d) ∷ [])
clean_digit d = ((λ e. omega arith, λ e. omega arith), tt)

pub clean_decimal : (n : ℕ) → n < 2 ^ 64 → Clean (decimal n)
clean_decimal =
    decimal_by_steps (λ n ds. Clean ds) (λ n h. clean_digit n) (λ n ds h k. clean_more ds ((48 + n % 10) ∷ []) k (clean_digit (n % 10)))

pub clean_decimals : (ns : List ℕ) → AllByRecursion (λ n. n < 2 ^ 64) ns → AllByRecursion Clean (map decimal ns)
clean_decimals [] h = tt
clean_decimals (n ∷ ns) h = (clean_decimal n h.0, clean_decimals ns h.1)

word_back : (w : Word) (bs : List ℕ) (ws : List Word) (ls : List (List Word)) → Clean w → lines_of bs ≡ ([] ∷ ws) ∷ ls → lines_of (w ++ bs) ≡ (w ∷ ws) ∷ ls
word_back [] bs ws ls h e = e
word_back (b ∷ w) bs ws ls h e =
    rw (ne_eqb b 10 h.0.1, ne_eqb b 32 h.0.0, word_back w bs ws ls h.1 e)

end_back : (ws : List Word) (bs : List ℕ) → AllByRecursion Clean ws → lines_of (line_end ws ++ bs) ≡ ([] ∷ ws) ∷ lines_of bs
end_back [] bs h = refl
end_back (w ∷ ws) bs h =
    let one = word_back w (line_end ws ++ bs) ws (lines_of bs) h.0 (end_back ws bs h.1) in
    rw (append_assoc w (line_end ws) bs, one)

-- a line of one word at least
pub line_back : (w : Word) (ws : List Word) (bs : List ℕ) → AllByRecursion Clean (w ∷ ws) → lines_of (line (w ∷ ws) ++ bs) ≡ (w ∷ ws) ∷ lines_of bs
line_back w ws bs h =
    let one = word_back w (line_end ws ++ bs) ws (lines_of bs) h.0 (end_back ws bs h.1) in
    rw (append_assoc w (line_end ws) bs, one)
