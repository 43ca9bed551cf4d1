-- Text in lines of words, as a tape's programs print it.
--   line ws       the words with one space between them, and byte 10 at the end
--   spaced ns     each number in decimal, a space before it
--   lines_of bs    a text taken apart again into its lines and their words
use Rattle.std.specs.Prelude.{ℕ, cond, List, [], ◌∷◌, ◌++◌, decimal, ◌==◌}
use Rattle.std.specs.List.{flat_map}

abbrev pub Word : Type 0
Word = List ℕ

-- the words behind the first
abbrev pub line_end : List Word → List ℕ
line_end [] = 10 ∷ []
line_end (w ∷ ws) = 32 ∷ (w ++ line_end ws)

abbrev pub line : List Word → List ℕ
line [] = 10 ∷ []
line (w ∷ ws) = w ++ line_end ws

abbrev pub spaced : List ℕ → List ℕ
spaced = flat_map (λ n. 32 ∷ decimal n)

-- a byte before the first word of the first line
abbrev pub onto_word : ℕ → List (List Word) → List (List Word)
onto_word b [] = []
onto_word b ([] ∷ ls) = [] ∷ ls
onto_word b ((w ∷ ws) ∷ ls) = ((b ∷ w) ∷ ws) ∷ ls

-- an empty word before the first line's
abbrev pub onto_line : List (List Word) → List (List Word)
onto_line [] = []
onto_line (ws ∷ ls) = ([] ∷ ws) ∷ ls

-- byte 10 ends a line, a space ends a word
abbrev pub lines_of : List ℕ → List (List Word)
lines_of [] = []
lines_of (b ∷ bs) = cond (b == 10) (([] ∷ []) ∷ lines_of bs) (cond (b == 32) (onto_line (lines_of bs)) (onto_word b (lines_of bs)))
