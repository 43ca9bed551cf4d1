-- The messages of a tape, read one behind the other.
--   Placed          a message, and the offset of its letter
--   Reading         the messages that were read, the offset where reading ended, and the refusal that ended it, if any
--   read_all at bs   the messages of bs, which begins at the offset `at`
use Rattle.std.specs.Prelude.{◌≡◌, ℕ, zero, suc, ◌+◌, ◌-◌, List, [], ◌∷◌, ◌++◌, length, Some, None, Ok, Err, Option, Result}
use Rattle.terms.specs.declared.message.Message.{Message}
use Rattle.terms.specs.declared.refusal.Refusal.{Refusal}
use Rattle.std.specs.List.{flat_map}
use Rattle.tape.specs.Messages.{encoded_message, read_message}

pub record Placed : Type 0 where
  pub place : ℕ
  pub message : Message

pub record Reading : Type 0 where
  pub messages : List Placed
  pub bytes : ℕ
  pub stop : Option Refusal

abbrev pub ends : ℕ → Option Refusal → Reading
ends at stop = record { messages = []; bytes = at; stop = stop }

abbrev pub preceded : Placed → Reading → Reading
preceded p r = record { messages = p ∷ r.messages; bytes = r.bytes; stop = r.stop }

-- a refused message ends the reading at its letter
abbrev pub going : ℕ → Result (Message × List ℕ) Refusal → (List ℕ → Reading) → Reading
going at (Err e) more = ends at (Some e)
going at (Ok p) more = preceded (record { place = at; message = p.0 }) (more p.1)

-- at most so many messages; the next one begins where this one ended
unfoldable pub read_on : ℕ → ℕ → List ℕ → Reading
read_on zero at bs = ends at None
read_on (suc turns) at [] = ends at None
read_on (suc turns) at (b ∷ bs) =
    going at (read_message (b ∷ bs)) (λ rest. read_on turns (at + (length (b ∷ bs) - length rest)) rest)

-- a message has a byte at least, so that there are no more messages than bytes
abbrev pub read_all : ℕ → List ℕ → Reading
read_all at bs = read_on (length bs) at bs

-- The same in other words: what was read, written out again, is what stands there, up to where reading ended.

-- each message begins where the one before it ended
abbrev pub Consecutive : ℕ → List Placed → Type 0
Consecutive at [] = Unit {0}
Consecutive at (p ∷ ps) = (p.place ≡ at) × Consecutive (at + length (encoded_message p.message)) ps

-- reading ends where nothing is left, or at a message that is refused
abbrev pub Ended : Option Refusal → List ℕ → Type 0
Ended None rest = rest ≡ []
Ended (Some e) rest = read_message rest ≡ Err e

pub record Covers (at : ℕ) (bs : List ℕ) (r : Reading) : Type 0 where
  pub rest : List ℕ
  pub bytes : bs ≡ flat_map (λ p. encoded_message p.message) r.messages ++ rest
  pub places : Consecutive at r.messages
  pub end : r.bytes + length rest ≡ at + length bs
  pub ended : Ended r.stop rest
