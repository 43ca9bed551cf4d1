-- The lines of a reading, printed one by one.
use Rattle.std.proofs.Common.{◌≡◌, ℕ, ◌+◌, ◌-◌, ◌<◌, ◌≤◌, List, [], ◌∷◌, ◌++◌, map, length, Some, None, Ok, Err, sym, ap, ◌∙◌, append_assoc, add-zero, zero-add, arith}
use Rattle.std.proofs.lemmas.List.{append-nil}
use Rattle.std.specs.List.{flat_map}
use Rattle.terms.specs.declared.message.Message.{Message}
use Rattle.terms.specs.declared.refusal.Refusal.{Refusal}
use Rattle.terms.specs.declared.setup.Setup.{Setup}
use Rattle.tape.specs.Lines.{Word, line}
use Rattle.tape.specs.Messages.{read_message}
use Rattle.tape.specs.Readings.{Placed, Reading, preceded, ends, read_all}
use Rattle.tape.proofs.ReadAll.{Bytes, message_shorter, all_more, all_read, all_refused}
use Rattle.tape_dump.specs.Dumps.{setup_words, message_words, stop_words, count_words, end_lines, reading_lines, behind_setup, setup_lines, setup_of, dumped}

-- the lines of a reading, where n messages were read before it
abbrev pub lines_after : ℕ → Reading → List (List Word)
lines_after n r = map message_words r.messages ++ end_lines (n + length r.messages) r.bytes r.stop

pub lines_none : (r : Reading) → lines_after 0 r ≡ reading_lines r
lines_none r = rw (zero-add (length r.messages))

pub lines_more : (n : ℕ) (p : Placed) (r : Reading) → flat_map line (lines_after n (preceded p r)) ≡ line (message_words p) ++ flat_map line (lines_after (n + 1) r)
lines_more n p r =
    let k : n + length (p ∷ r.messages) ≡ (n + 1) + length r.messages = omega arith in
    rw k

pub lines_done : (n at : ℕ) → flat_map line (lines_after n (ends at None)) ≡ line (count_words n at)
lines_done n at = rw add-zero (append-nil (line (count_words n at)))

pub lines_refused : (n at : ℕ) (e : Refusal) → flat_map line (lines_after n (ends at (Some e))) ≡ line (stop_words e at) ++ line (count_words n at)
lines_refused n at e = rw add-zero (ap (λ bs. line (stop_words e at) ++ bs) (append-nil (line (count_words n at))))

-- the lines for bs, which are the last of len bytes, where n messages were read before
abbrev pub lines_left : ℕ → ℕ → List ℕ → List ℕ
lines_left len n bs = flat_map line (lines_after n (read_all (len - length bs) bs))

pub left_more : (len n : ℕ) (bs : List ℕ) (m : Message) (rest : List ℕ) → Bytes bs → length bs ≤ len → Ok (m, rest) ≡ read_message bs
    → lines_left len n bs ≡ line (message_words (record { place = len - length bs; message = m })) ++ lines_left len (n + 1) rest
left_more len n bs m rest fits room read =
    let less = message_shorter bs m rest fits (sym read) in
    let next : (len - length bs) + (length bs - length rest) ≡ len - length rest = omega arith in
    ap (λ r. flat_map line (lines_after n r)) (all_more (len - length bs) bs m rest fits read)
    ∙ lines_more n _ _
    ∙ ap (λ at. line (message_words (record { place = len - length bs; message = m })) ++ flat_map line (lines_after (n + 1) (read_all at rest))) next

pub left_refused : (len n : ℕ) (bs : List ℕ) (e : Refusal) → 0 < length bs → Err e ≡ read_message bs → lines_left len n bs ≡ line (stop_words e (len - length bs)) ++ line (count_words n (len - length bs))
left_refused len n bs e some read =
    ap (λ r. flat_map line (lines_after n r)) (all_refused (len - length bs) bs e some read) ∙ lines_refused n (len - length bs) e

pub left_none : (len n : ℕ) (bs : List ℕ) → length bs ≡ 0 → lines_left len n bs ≡ line (count_words n len)
left_none len n bs none =
    let at : len - length bs ≡ len = omega arith in
    ap (λ r. flat_map line (lines_after n r)) (all_read (len - length bs) bs none) ∙ lines_done n (len - length bs) ∙ ap (λ k. line (count_words n k)) at

-- a text that has grown by the first of the lines to come
pub grown : (was now all a b c : List ℕ) → now ≡ was ++ a → c ≡ a ++ b → was ++ c ≡ all → now ++ b ≡ all
grown was now all a b c e f g = ap (λ ys. ys ++ b) e ∙ append_assoc was a b ∙ ap (λ ys. was ++ ys) (sym f) ∙ g

-- the text of a tape whose set-up is read, and of one whose set-up is refused
pub dumped_read : (tape : List ℕ) (s : Setup) (rest was mid now : List ℕ) → Ok (s, rest) ≡ setup_of tape → was ≡ [] → mid ≡ was ++ line (setup_words s)
    → now ≡ mid ++ flat_map line (reading_lines (read_all (length tape - length rest) rest)) → now ≡ dumped tape
dumped_read tape s rest was mid now r z m e =
    e ∙ ap (λ bs. bs ++ flat_map line (reading_lines (read_all (length tape - length rest) rest))) (m ∙ ap (λ bs. bs ++ line (setup_words s)) z)
    ∙ ap (λ q. flat_map line (setup_lines q ++ reading_lines (behind_setup (length tape) q))) r

pub dumped_refused : (tape : List ℕ) (x : Refusal) (was mid now : List ℕ) → Err x ≡ setup_of tape → was ≡ [] → mid ≡ was ++ line (stop_words x 0) → now ≡ mid ++ line (count_words 0 0) → now ≡ dumped tape
dumped_refused tape x was mid now r z m e =
    e ∙ ap (λ bs. bs ++ line (count_words 0 0)) (m ∙ ap (λ bs. bs ++ line (stop_words x 0)) z)
    ∙ ap (λ bs. line (stop_words x 0) ++ bs) (sym (append-nil (line (count_words 0 0))))
    ∙ ap (λ q. flat_map line (setup_lines q ++ reading_lines (behind_setup (length tape) q))) r
