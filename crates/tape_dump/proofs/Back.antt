-- The printed lines, read back.
use Rattle.std.proofs.Common.{◌≡◌, ℕ, zero, suc, ◌+◌, ◌-◌, ◌^◌, ◌<◌, ◌≤◌, Bool, true, not, ◌&&◌, eqb, ltb, List, [], ◌∷◌, ◌++◌, map, length, get_or, take, drop, Some, None, Ok, Err, codes, decimal, Option, Result, sym, refl, ap, ◌∙◌, subst, ⊎_elim, arith, length-append}
use Rattle.std.proofs.lemmas.Fmt.{decimal_is_IsNumeral}
use Rattle.std.proofs.lemmas.Bool.{cases_Bool, cond-true, cond-false, and_parts, both_ways, not-true, eq-eqb}
use Rattle.std.specs.Str.Parse.{digits_value}
use Rattle.std.specs.List.{flat_map, AllByRecursion}
use Rattle.terms.proofs.Setups.{refused}
use Rattle.terms.proofs.Small.{refusal_small}
use Rattle.terms.specs.Messages.{letter_for, numbers_for}
use Rattle.terms.specs.Setups.{setup_numbers}
use Rattle.terms.specs.Values.{letter_byte, letter_of, refusal_number}
use Rattle.terms.specs.declared.letter.Letter.{Letter}
use Rattle.terms.specs.declared.message.Message.{Message}
use Rattle.terms.specs.declared.refusal.Refusal.{Refusal}
use Rattle.terms.specs.declared.refusal.Refusal.TheVariants.{TapeTooLong}
use Rattle.terms.specs.declared.setup.Setup.{Setup}
use Rattle.tape.proofs.Inverses.{message_back, message_only, letter_back, setup_only}
use Rattle.tape.proofs.ReadAll.{Bytes, message_shorter, message_bytes, read_covers}
use Rattle.tape.proofs.Runs.{fits_behind}
use Rattle.tape.proofs.Words.{Clean, clean_decimal, clean_decimals, line_back}
use Rattle.tape.specs.Lines.{Word, line, lines_of}
use Rattle.tape.specs.Messages.{message_from, read_message}
use Rattle.tape.specs.Numbers.{Encodable}
use Rattle.tape.specs.Readings.{Placed, Reading, going, read_on, read_all, Covers}
use Rattle.tape.specs.Setups.{read_setup, encoded_setup}
use Rattle.tape_dump.specs.Dumps.{setup_words, message_words, stop_words, count_words, end_lines, reading_lines, behind_setup, setup_lines, setup_of, reading_of, dumped, entry_with, entry_of}

abbrev Wide : List ℕ → Type 0
Wide = AllByRecursion (λ n. n < 2 ^ 64)

wide : (ns : List ℕ) → Encodable ns → Wide ns
wide [] h = tt
wide (n ∷ ns) h = (omega (arith, h.0), wide ns h.1)

-- a line of one word at least, and clean ones
abbrev Ready : List Word → Type 0
Ready [] = ⊥
Ready (w ∷ ws) = AllByRecursion Clean (w ∷ ws)

lines_back : (ls : List (List Word)) → AllByRecursion Ready ls → lines_of (flat_map line ls) ≡ ls
lines_back [] h = refl
lines_back ([] ∷ ls) h = absurd h.0
lines_back ((w ∷ ws) ∷ ls) h = line_back w ws (flat_map line ls) h.0 ∙ ap (λ ms. (w ∷ ws) ∷ ms) (lines_back ls h.1)

-- a message and its offset, small enough to be printed
abbrev Printable : Placed → Type 0
Printable p = (p.place < 2 ^ 64) × Wide (numbers_for p.message)

values_back : (ns : List ℕ) → Wide ns → map (digits_value 10) (map decimal ns) ≡ ns
values_back [] h = refl
values_back (n ∷ ns) h = rw ((decimal_is_IsNumeral n h.0).1, values_back ns h.1)

entry_back : (p : Placed) → Printable p → entry_of (message_words p) ≡ Some p
entry_back p h =
    let m = p.message in
    let same : message_from (letter_for m) (map (digits_value 10) (map decimal (numbers_for m))) ≡ m =
    ap (message_from (letter_for m)) (values_back (numbers_for m) h.1) ∙ message_back m in
    ap (entry_with (decimal p.place) (map decimal (numbers_for m))) (letter_back (letter_for m))
    ∙ ap (λ n. Some (record { place = n; message = message_from (letter_for m) (map (digits_value 10) (map decimal (numbers_for m))) })) (decimal_is_IsNumeral p.place h.0).1
    ∙ ap (λ x. Some (record { place = p.place; message = x })) same

entries_back : (ps : List Placed) (ls : List (List Word)) → AllByRecursion Printable ps → map entry_of (take (length ps) (map message_words ps ++ ls)) ≡ map Some ps
entries_back [] ls h = refl
entries_back (p ∷ ps) ls h = rw (entry_back p h.0, entries_back ps ls h.1)

no_letter : (l : Letter) (b : ℕ) → letter_of b ≡ None → letter_byte l ≡ b → ⊥
no_letter l b none e =
    let some : letter_of b ≡ Some l = ap letter_of (sym e) ∙ letter_back l in
    let z : ◌≡◌ {A = ℕ} 0 1 = cc in omega arith

letter_clean : (l : Letter) → Clean (letter_byte l ∷ [])
letter_clean l = ((no_letter l 32 refl, no_letter l 10 refl), tt)

-- a word of the program's own, by a test that computes
clean : Word → Bool
clean [] = true
clean (b ∷ w) = not (eqb b 32) && (not (eqb b 10) && clean w)

clean_true : (w : Word) → clean w ≡ true → Clean w
unfolding clean
clean_true [] h = tt
clean_true (b ∷ w) h =
    let one = and_parts (not (eqb b 32)) (not (eqb b 10) && clean w) h in
    let two = and_parts (not (eqb b 10)) (clean w) one.1 in (
      (
        λ e. both_ways (eqb b 32) (not-true (eqb b 32) one.0) (eq-eqb b 32 e),
        λ e. both_ways (eqb b 10) (not-true (eqb b 10) two.0) (eq-eqb b 10 e),
      ),
      clean_true w two.1,
    )

messages_ready : (ps : List Placed) (ls : List (List Word)) → AllByRecursion Printable ps → AllByRecursion Ready ls → AllByRecursion Ready (map message_words ps ++ ls)
messages_ready [] ls h k = k
messages_ready (p ∷ ps) ls h k = (
  (
    clean_decimal p.place h.0.0,
    (letter_clean (letter_for p.message), clean_decimals (numbers_for p.message) h.0.1),
  ),
  messages_ready ps ls h.1 k,
)

setup_ready : (s : Setup) → Encodable (setup_numbers s) → Ready (setup_words s)
unfolding clean
setup_ready s h =
    (clean_true (codes "0") refl, (clean_true (codes "set-up") refl, clean_decimals (setup_numbers s) (wide (setup_numbers s) h)))

count_ready : (n bytes : ℕ) → n < 2 ^ 64 → bytes < 2 ^ 64 → Ready (count_words n bytes)
unfolding clean
count_ready n bytes h k =
    (clean_decimal n h, (clean_true (codes "messages,") refl, (clean_decimal bytes k, (clean_true (codes "bytes") refl, tt))))

stop_ready : (e : Refusal) (place : ℕ) → place < 2 ^ 64 → Ready (stop_words e place)
unfolding clean
stop_ready e place h =
    let small = refusal_small e in
    (clean_true (codes "X") refl, (clean_decimal (refusal_number e) (omega arith), (clean_decimal place h, tt)))

end_ready : (n bytes : ℕ) (stop : Option Refusal) → n < 2 ^ 64 → bytes < 2 ^ 64 → AllByRecursion Ready (end_lines n bytes stop)
end_ready n bytes None h k = (count_ready n bytes h k, tt)
end_ready n bytes (Some e) h k = (stop_ready e bytes k, (count_ready n bytes h k, tt))

-- what is printed of a reading of at most `turns` messages fits
pub record Fitting (turns : ℕ) (r : Reading) : Type 0 where
  pub each : AllByRecursion Printable r.messages
  pub few : length r.messages ≤ turns
  pub small : r.bytes < 2 ^ 64

going_fits : (turns at : ℕ) (bs : List ℕ) (r : Result (Message × List ℕ) Refusal) (more : List ℕ → Reading) → at < 2 ^ 64
    → ((m : Message) (rest : List ℕ) → r ≡ Ok (m, rest) → Wide (numbers_for m) × Fitting turns (more rest)) → Fitting (suc turns) (going at r more)
going_fits turns at bs (Err e) more h ih = record { each = tt; few = omega arith; small = h }
going_fits turns at bs (Ok p) more h ih =
    let k = ih p.0 p.1 refl in
    let few = k.1.few in
    record { each = ((h, k.0), k.1.each); few = omega arith; small = k.1.small }

reading_fits : (turns at : ℕ) (bs : List ℕ) → Bytes bs → at + length bs < 2 ^ 64 → Fitting turns (read_on turns at bs)
unfolding read_on
reading_fits zero at bs fits h = record { each = tt; few = omega arith; small = omega arith }
reading_fits (suc turns) at [] fits h = record { each = tt; few = omega arith; small = omega arith }
reading_fits (suc turns) at (b ∷ bs) fits h =
    let ih = reading_fits turns in
    going_fits turns at (b ∷ bs) (read_message (b ∷ bs)) _ (omega arith)
    (λ m rest e.
    let less = message_shorter (b ∷ bs) m rest fits e in (
      wide (numbers_for m) (message_only (b ∷ bs) m rest fits e).0,
      ih (at + (length (b ∷ bs) - length rest)) rest (message_bytes (b ∷ bs) m rest fits e) (omega arith),
    ))

reading_ready : (turns : ℕ) (r : Reading) → turns < 2 ^ 64 → Fitting turns r → AllByRecursion Ready (reading_lines r)
reading_ready turns r h f =
    let few = f.few in
    messages_ready r.messages _ f.each (end_ready (length r.messages) r.bytes r.stop (omega arith) f.small)

-- the messages of a reading, read back from the lines behind the first
abbrev Back : List (List Word) → Reading → Type 0
Back ls r = map entry_of (take (length r.messages) (drop 1 (lines_of (flat_map line ls)))) ≡ map Some r.messages

setup_back : (tape : List ℕ) (r : Result (Setup × List ℕ) Refusal) → Bytes tape → length tape < 2 ^ 64 → ((s : Setup) (rest : List ℕ) → r ≡ Ok (s, rest) → Encodable (setup_numbers s) × Bytes rest × (length rest ≤ length tape))
    → Back (setup_lines r ++ reading_lines (behind_setup (length tape) r)) (behind_setup (length tape) r)
setup_back tape (Err e) fits h k = refl
setup_back tape (Ok p) fits h k =
    let known = k p.0 p.1 refl in
    let bytes = known.2 in
    let reading = read_all (length tape - length p.1) p.1 in
    let f = reading_fits (length p.1) (length tape - length p.1) p.1 known.1 (omega arith) in
    let ready = reading_ready (length p.1) reading (omega arith) f in
    let lines = lines_back (setup_words p.0 ∷ reading_lines reading) (setup_ready p.0 known.0, ready) in
    ap (λ ls. map entry_of (take (length reading.messages) (drop 1 ls))) lines ∙ entries_back reading.messages _ f.each

-- a tape that is accepted is not too long
setup_read : (tape : List ℕ) (s : Setup) (rest : List ℕ) → setup_of tape ≡ Ok (s, rest) → read_setup tape ≡ Ok (s, rest)
setup_read tape s rest e =
    ⊎_elim
    (λ t. absurd (refused (s, rest) (sym (cond-true (ltb 4096 (length tape)) (Err TapeTooLong) (read_setup tape) t) ∙ e)))
    (λ t. sym (cond-false (ltb 4096 (length tape)) (Err TapeTooLong) (read_setup tape) t) ∙ e)
    (cases_Bool (ltb 4096 (length tape)))

pub setup_known : (tape : List ℕ) (s : Setup) (rest : List ℕ) → Bytes tape → setup_of tape ≡ Ok (s, rest) → Encodable (setup_numbers s) × Bytes rest × (length rest ≤ length tape)
setup_known tape s rest fits e =
    let read = setup_read tape s rest e in
    let h = setup_only tape s rest fits read in
    let long = ap length h.1 ∙ length-append (encoded_setup s) rest in
    (h.0, fits_behind (encoded_setup s) rest (λ i. subst (λ zs. get_or zs i 0 < 256) h.1 (fits i)), omega arith)

pub dump_back : (tape : List ℕ) → Bytes tape → length tape < 2 ^ 64 → map entry_of (take (length (reading_of tape).messages) (drop 1 (lines_of (dumped tape)))) ≡ map Some (reading_of tape).messages
dump_back tape fits h = setup_back tape (setup_of tape) fits h (λ s rest e. setup_known tape s rest fits e)

-- what was read of a tape is what stands on it
pub dump_covers : (tape : List ℕ) → Bytes tape → (s : Setup) (rest : List ℕ) → setup_of tape ≡ Ok (s, rest) → (tape ≡ encoded_setup s ++ rest) × Covers (length (encoded_setup s)) rest (reading_of tape)
dump_covers tape fits s rest e =
    let read = setup_read tape s rest e in
    let h = setup_only tape s rest fits read in
    let known = setup_known tape s rest fits e in
    let long = ap length h.1 ∙ length-append (encoded_setup s) rest in
    let at : length tape - length rest ≡ length (encoded_setup s) = omega arith in
    let same : read_all (length (encoded_setup s)) rest ≡ reading_of tape = ap (λ k. read_all k rest) (sym at) ∙ ap (behind_setup (length tape)) (sym e) in
    (h.1, subst (Covers (length (encoded_setup s)) rest) same (read_covers (length rest) (length (encoded_setup s)) rest known.1 (omega arith)))
