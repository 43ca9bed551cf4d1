-- Reading all messages goes on by one message, and ends where a message is refused or no byte is left.
use Rattle.std.proofs.Common.{◌≡◌, ℕ, zero, suc, ◌+◌, ◌-◌, ◌<◌, ◌≤◌, List, [], ◌∷◌, ◌++◌, length, get_or, Some, None, Ok, Err, Option, Result, sym, refl, ap, ◌∙◌, subst, append_assoc, not-suc-le-zero, arith, length-append}
use Rattle.terms.specs.declared.message.Message.{Message}
use Rattle.terms.specs.declared.refusal.Refusal.{Refusal}
use Rattle.tape.specs.Messages.{encoded_message, read_message}
use Rattle.tape.specs.Readings.{Reading, ends, preceded, going, read_on, read_all, Consecutive, Ended, Covers}
use Rattle.tape.proofs.Inverses.{message_only}
use Rattle.tape.proofs.Runs.{fits_behind}

-- bytes
abbrev pub Bytes : List ℕ → Type 0
Bytes bs = (i : ℕ) → get_or bs i 0 < 256

-- what is behind a message is shorter
pub message_shorter : (bs : List ℕ) (m : Message) (rest : List ℕ) → Bytes bs → read_message bs ≡ Ok (m, rest) → length rest < length bs
message_shorter bs m rest fits e =
    let h = (message_only bs m rest fits e).1 in
    let k = ap length h ∙ length-append (encoded_message m) rest in
    omega arith

pub message_bytes : (bs : List ℕ) (m : Message) (rest : List ℕ) → Bytes bs → read_message bs ≡ Ok (m, rest) → Bytes rest
message_bytes bs m rest fits e =
    fits_behind (encoded_message m) rest (λ i. subst (λ zs. get_or zs i 0 < 256) (message_only bs m rest fits e).1 (fits i))

same_going : (at : ℕ) (r : Result (Message × List ℕ) Refusal) (f g : List ℕ → Reading) → ((m : Message) (rest : List ℕ) → r ≡ Ok (m, rest) → f rest ≡ g rest) → going at r f ≡ going at r g
same_going at (Err e) f g h = refl
same_going at (Ok p) f g h = ap (preceded _) (h p.0 p.1 refl)

-- turns beyond the bytes change nothing
pub turns_enough : (t u at : ℕ) (bs : List ℕ) → Bytes bs → length bs ≤ t → length bs ≤ u → read_on t at bs ≡ read_on u at bs
unfolding read_on
turns_enough zero zero at bs fits h k = refl
turns_enough zero (suc u) at [] fits h k = refl
turns_enough zero (suc u) at (b ∷ bs) fits h k = absurd (not-suc-le-zero h)
turns_enough (suc t) zero at [] fits h k = refl
turns_enough (suc t) zero at (b ∷ bs) fits h k = absurd (not-suc-le-zero k)
turns_enough (suc t) (suc u) at [] fits h k = refl
turns_enough (suc t) (suc u) at (b ∷ bs) fits h k =
    let ih = turns_enough t u in
    same_going at (read_message (b ∷ bs)) _ _
    (λ m rest e.
    let less = message_shorter (b ∷ bs) m rest fits e in
    ih (at + (length (b ∷ bs) - length rest)) rest (message_bytes (b ∷ bs) m rest fits e) (omega arith) (omega arith))

pub all_more : (at : ℕ) (bs : List ℕ) (m : Message) (rest : List ℕ) → Bytes bs → Ok (m, rest) ≡ read_message bs → read_all at bs ≡ preceded (record { place = at; message = m }) (read_all (at + (length bs - length rest)) rest)
unfolding read_on
all_more at [] m rest fits e = absurd (not-suc-le-zero (message_shorter [] m rest fits (sym e)))
all_more at (b ∷ bs) m rest fits e =
    let less = message_shorter (b ∷ bs) m rest fits (sym e) in
    ap (λ r. going at r (λ ys. read_on (length bs) (at + (length (b ∷ bs) - length ys)) ys)) (sym e)
    ∙ ap (preceded _) (turns_enough (length bs) (length rest) _ rest (message_bytes (b ∷ bs) m rest fits (sym e)) (omega arith) (omega arith))

pub all_refused : (at : ℕ) (bs : List ℕ) (e : Refusal) → 0 < length bs → Err e ≡ read_message bs → read_all at bs ≡ ends at (Some e)
unfolding read_on
all_refused at [] e some q = absurd (not-suc-le-zero some)
all_refused at (b ∷ bs) e some q = ap (λ r. going at r (λ ys. read_on (length bs) (at + (length (b ∷ bs) - length ys)) ys)) (sym q)

pub all_read : (at : ℕ) (bs : List ℕ) → length bs ≡ 0 → read_all at bs ≡ ends at None
unfolding read_on
all_read at [] none = refl
all_read at (b ∷ bs) none = absurd (omega arith)

-- what is read covers what stands there
ends_covers : (at : ℕ) (bs : List ℕ) (stop : Option Refusal) → Ended stop bs → Covers at bs (ends at stop)
ends_covers at bs stop h = record { rest = bs; bytes = refl; places = tt; end = refl; ended = h }

more_covers : (at : ℕ) (bs : List ℕ) (m : Message) (rest : List ℕ) (r : Reading) → bs ≡ encoded_message m ++ rest → Covers (at + (length bs - length rest)) rest r → Covers at bs (preceded (record { place = at; message = m }) r)
more_covers at bs m rest r e k =
    let long = ap length e ∙ length-append (encoded_message m) rest in
    let step : at + (length bs - length rest) ≡ at + length (encoded_message m) = omega arith in
    let stop = k.end in
    record {
      rest = k.rest;
      bytes = e ∙ ap (λ ys. encoded_message m ++ ys) k.bytes ∙ sym (append_assoc (encoded_message m) _ k.rest);
      places = (refl, subst (λ j. Consecutive j r.messages) step k.places);
      end = omega arith;
      ended = k.ended;
    }

going_covers : (at : ℕ) (bs : List ℕ) (r : Result (Message × List ℕ) Refusal) (f : List ℕ → Reading) → read_message bs ≡ r → ((m : Message) (rest : List ℕ) → r ≡ Ok (m, rest) → (bs ≡ encoded_message m ++ rest) × Covers (at + (length bs - length rest)) rest (f rest)) → Covers at bs (going at r f)
going_covers at bs (Err e) f q h = ends_covers at bs (Some e) q
going_covers at bs (Ok p) f q h = let k = h p.0 p.1 refl in more_covers at bs p.0 p.1 (f p.1) k.0 k.1

pub read_covers : (turns at : ℕ) (bs : List ℕ) → Bytes bs → length bs ≤ turns → Covers at bs (read_on turns at bs)
unfolding read_on
read_covers zero at [] fits h = ends_covers at [] None refl
read_covers zero at (b ∷ bs) fits h = absurd (not-suc-le-zero h)
read_covers (suc turns) at [] fits h = ends_covers at [] None refl
read_covers (suc turns) at (b ∷ bs) fits h =
    let ih = read_covers turns in
    going_covers at (b ∷ bs) (read_message (b ∷ bs)) _ refl
    (λ m rest e.
    let less = message_shorter (b ∷ bs) m rest fits e in
    ((message_only (b ∷ bs) m rest fits e).1, ih (at + (length (b ∷ bs) - length rest)) rest (message_bytes (b ∷ bs) m rest fits e) (omega arith)))
