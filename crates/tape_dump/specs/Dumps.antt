-- What the program prints for a tape.
--   setup_words, message_words, stop_words, count_words   the words of each kind of line
--   dump_lines tape                                    the lines for a tape
--   dumped tape                                       the text
--   entry_of ws                                        a line read back: a message and its offset
use Rattle.std.specs.Prelude.{ℕ, ◌-◌, cond, List, [], ◌∷◌, ◌++◌, map, length, Some, None, Ok, Err, codes, decimal, Option, Result, nat_lt}
use Rattle.std.specs.Str.Parse.{digits_value}
use Rattle.std.specs.List.{flat_map}
use Rattle.terms.specs.Messages.{letter_for, numbers_for}
use Rattle.terms.specs.Setups.{setup_numbers}
use Rattle.terms.specs.Values.{letter_byte, letter_of, refusal_number}
use Rattle.terms.specs.declared.letter.Letter.{Letter}
use Rattle.terms.specs.declared.refusal.Refusal.{Refusal}
use Rattle.terms.specs.declared.refusal.Refusal.TheVariants.{TapeTooLong}
use Rattle.terms.specs.declared.setup.Setup.{Setup}
use Rattle.tape.specs.Lines.{Word, line}
use Rattle.tape.specs.Messages.{message_from}
use Rattle.tape.specs.Readings.{Placed, Reading, ends, read_all}
use Rattle.tape.specs.Setups.{read_setup}

abbrev pub setup_words : Setup → List Word
setup_words s = codes "0" ∷ (codes "set-up" ∷ map decimal (setup_numbers s))

abbrev pub message_words : Placed → List Word
message_words p = decimal p.place ∷ ((letter_byte (letter_for p.message) ∷ []) ∷ map decimal (numbers_for p.message))

abbrev pub stop_words : Refusal → ℕ → List Word
stop_words e place = codes "X" ∷ (decimal (refusal_number e) ∷ (decimal place ∷ []))

abbrev pub count_words : ℕ → ℕ → List Word
count_words messages bytes = decimal messages ∷ (codes "messages," ∷ (decimal bytes ∷ (codes "bytes" ∷ [])))

-- the count, after the refusal that ended the reading
abbrev pub end_lines : ℕ → ℕ → Option Refusal → List (List Word)
end_lines messages bytes None = count_words messages bytes ∷ []
end_lines messages bytes (Some e) = stop_words e bytes ∷ (count_words messages bytes ∷ [])

abbrev pub reading_lines : Reading → List (List Word)
reading_lines r = map message_words r.messages ++ end_lines (length r.messages) r.bytes r.stop

-- what stands behind the set-up of a tape, or why there is none; bytes is the tape's length
abbrev pub behind_setup : ℕ → Result (Setup × List ℕ) Refusal → Reading
behind_setup bytes (Ok p) = read_all (bytes - length p.1) p.1
behind_setup bytes (Err e) = ends 0 (Some e)

abbrev pub setup_lines : Result (Setup × List ℕ) Refusal → List (List Word)
setup_lines (Ok p) = setup_words p.0 ∷ []
setup_lines (Err e) = []

-- a tape that is too long is not read
abbrev pub setup_of : List ℕ → Result (Setup × List ℕ) Refusal
setup_of tape = cond (nat_lt 4096 (length tape)) (Err TapeTooLong) (read_setup tape)

abbrev pub reading_of : List ℕ → Reading
reading_of tape = behind_setup (length tape) (setup_of tape)

abbrev pub dump_lines : List ℕ → List (List Word)
dump_lines tape = setup_lines (setup_of tape) ++ reading_lines (reading_of tape)

abbrev pub dumped : List ℕ → List ℕ
dumped tape = flat_map line (dump_lines tape)

-- a line whose second word is a letter, read as a message
abbrev pub entry_with : Word → List Word → Option Letter → Option Placed
entry_with p ns None = None
entry_with p ns (Some l) = Some (record { place = digits_value 10 p; message = message_from l (map (digits_value 10) ns) })

abbrev pub entry_of : List Word → Option Placed
entry_of [] = None
entry_of (p ∷ []) = None
entry_of (p ∷ ([] ∷ ns)) = None
entry_of (p ∷ ((b ∷ []) ∷ ns)) = entry_with p ns (letter_of b)
entry_of (p ∷ ((b ∷ (c ∷ bs)) ∷ ns)) = None
