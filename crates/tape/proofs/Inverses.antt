-- The set-up and the messages are read back from their bytes, and from no others.
use Rattle.std.proofs.Common.{◌≡◌, ℕ, suc, ◌<◌, List, [], ◌∷◌, ◌++◌, length, get_or, Some, None, Ok, Err, Option, Result, sym, refl, ap, ◌∙◌, subst, append_assoc, arith, lit<}
use Rattle.std.specs.List.{flat_map}
use Rattle.terms.proofs.Cases.{case_value}
use Rattle.terms.proofs.Setups.{places, places_all, refused, setup_back}
use Rattle.terms.proofs.Setups.{setup_only as accepted}
use Rattle.terms.specs.Messages.{letter_for, numbers_for}
use Rattle.terms.specs.Setups.{setup_from, setup_numbers, Allowed}
use Rattle.terms.specs.Values.{letter_byte, letters, letter_of, make_number, market_number}
use Rattle.terms.specs.declared.letter.Letter.{Letter}
use Rattle.terms.specs.declared.letter.Letter.TheVariants as letter
use Rattle.terms.specs.declared.setup.Setup.{Setup}
use Rattle.terms.specs.declared.letter.Make.{Make}
use Rattle.terms.specs.declared.letter.Make.TheVariants.{Sorted, Heaps}
use Rattle.terms.specs.declared.letter.Market.{Market}
use Rattle.terms.specs.declared.letter.Market.TheVariants.{Warrant, Stock}
use Rattle.terms.specs.declared.message.Message.{Message}
use Rattle.terms.specs.declared.message.Message.TheVariants.{Buy, Sell, ImmediateBuy, ImmediateSell, Change, Cancel, Quote, Renew, Halt, Resume, End}
use Rattle.terms.specs.declared.refusal.Refusal.{Refusal}
use Rattle.tape.specs.Messages.{arity, message_from, encoded_message, body, behind_letter, read_message}
use Rattle.tape.specs.Numbers.{Encodable, encoded, read_numbers}
use Rattle.tape.specs.Setups.{before, tested, read_setup, encoded_setup}
use Rattle.tape.proofs.Encodings.{ok_same}
use Rattle.tape.proofs.Runs.{reads_all, only_all, numbers_followed}

-- a message is its letter and its numbers
pub message_back : (m : Message) → message_from (letter_for m) (numbers_for m) ≡ m
message_back (Buy o) = refl
message_back (Sell o) = refl
message_back (ImmediateBuy o) = refl
message_back (ImmediateSell o) = refl
message_back (Change o) = refl
message_back (Cancel o) = refl
message_back (Quote q) = refl
message_back Renew = refl
message_back Halt = refl
message_back Resume = refl
message_back End = refl

arity-is : (m : Message) → length (numbers_for m) ≡ arity (letter_for m)
arity-is (Buy o) = refl
arity-is (Sell o) = refl
arity-is (ImmediateBuy o) = refl
arity-is (ImmediateSell o) = refl
arity-is (Change o) = refl
arity-is (Cancel o) = refl
arity-is (Quote q) = refl
arity-is Renew = refl
arity-is Halt = refl
arity-is Resume = refl
arity-is End = refl

parts_back : (l : Letter) (ns : List ℕ) → length ns ≡ arity l → (letter_for (message_from l ns) ≡ l) × (numbers_for (message_from l ns) ≡ ns)
unfolding places
parts_back letter.Buy ns e = (refl, places_all 3 ns e)
parts_back letter.Sell ns e = (refl, places_all 3 ns e)
parts_back letter.ImmediateBuy ns e = (refl, places_all 3 ns e)
parts_back letter.ImmediateSell ns e = (refl, places_all 3 ns e)
parts_back letter.Change ns e = (refl, places_all 4 ns e)
parts_back letter.Cancel ns e = (refl, places_all 2 ns e)
parts_back letter.Quote ns e = (refl, places_all 4 ns e)
parts_back letter.Renew ns e = (refl, places_all 0 ns e)
parts_back letter.Halt ns e = (refl, places_all 0 ns e)
parts_back letter.Resume ns e = (refl, places_all 0 ns e)
parts_back letter.End ns e = (refl, places_all 0 ns e)

pub letter_back : (l : Letter) → letter_of (letter_byte l) ≡ Some l
letter_back letter.Buy = refl
letter_back letter.Sell = refl
letter_back letter.ImmediateBuy = refl
letter_back letter.ImmediateSell = refl
letter_back letter.Change = refl
letter_back letter.Cancel = refl
letter_back letter.Quote = refl
letter_back letter.Renew = refl
letter_back letter.Halt = refl
letter_back letter.Resume = refl
letter_back letter.End = refl

pub message_reads : (m : Message) (rest : List ℕ) → Encodable (numbers_for m) → read_message (encoded_message m ++ rest) ≡ Ok (m, rest)
message_reads m rest h =
    ap (λ o. behind_letter o (flat_map encoded (numbers_for m) ++ rest)) (letter_back (letter_for m))
    ∙ ap (λ k. body (message_from (letter_for m)) (read_numbers k (flat_map encoded (numbers_for m) ++ rest))) (sym (arity-is m))
    ∙ ap (body (message_from (letter_for m))) (reads_all (numbers_for m) rest h)
    ∙ ap (λ x. Ok (x, rest)) (message_back m)

body_is : {A : Type 0} (f : List ℕ → A) (r : Result (List ℕ × List ℕ) Refusal) (a : A) (rest : List ℕ) → body f r ≡ Ok (a, rest) → (ns : List ℕ) × (r ≡ Ok (ns, rest)) × (f ns ≡ a)
body_is f (Err e) a rest q = absurd (refused (a, rest) q)
body_is f (Ok p) a rest q =
    let same = ok_same (f p.0, p.1) (a, rest) q in
    (p.0, ap (λ ys. Ok (p.0, ys)) (ap (λ s. s.1) same), ap (λ s. s.0) same)

behind_only : (o : Option Letter) (b : ℕ) (bs : List ℕ) (m : Message) (rest : List ℕ) → letter_of b ≡ o → ((i : ℕ) → get_or bs i 0 < 256) → behind_letter o bs ≡ Ok (m, rest) → Encodable (numbers_for m) × (b ∷ bs ≡ encoded_message m ++ rest)
behind_only None b bs m rest l fits e = absurd (refused (m, rest) e)
behind_only (Some l) b bs m rest at fits e =
    let parts = body_is (message_from l) (read_numbers (arity l) bs) m rest e in
    let ns = parts.0 in
    let h = only_all (arity l) bs ns rest fits parts.1 in
    let back = parts_back l ns h.0 in
    let b-is : b ≡ letter_byte (letter_for (message_from l ns)) = sym (case_value letter_byte letters b l at) ∙ ap letter_byte (sym back.0) in
    let bs-is : bs ≡ flat_map encoded (numbers_for (message_from l ns)) ++ rest = h.2 ∙ ap (λ ms. flat_map encoded ms ++ rest) (sym back.1) in
    rw (sym parts.2) (subst Encodable (sym back.1) h.1, ap (λ x. x ∷ bs) b-is ∙ ap (λ ys. letter_byte (letter_for (message_from l ns)) ∷ ys) bs-is)

pub message_only : (bs : List ℕ) (m : Message) (rest : List ℕ) → ((i : ℕ) → get_or bs i 0 < 256) → read_message bs ≡ Ok (m, rest) → Encodable (numbers_for m) × (bs ≡ encoded_message m ++ rest)
message_only [] m rest fits e = absurd (refused (m, rest) e)
message_only (b ∷ bs) m rest fits e = behind_only (letter_of b) b bs m rest refl (λ i. fits (suc i)) e

pub message_followed : (bs : List ℕ) (m : Message) (rest more : List ℕ) → ((i : ℕ) → get_or bs i 0 < 256) → read_message bs ≡ Ok (m, rest) → read_message (bs ++ more) ≡ Ok (m, rest ++ more)
message_followed bs m rest more fits e =
    let h = message_only bs m rest fits e in
    ap read_message (ap (λ ys. ys ++ more) h.1 ∙ append_assoc (encoded_message m) rest more) ∙ message_reads m (rest ++ more) h.0

before-is : (r : Result Setup Refusal) (bs : List ℕ) (s : Setup) (rest : List ℕ) → before r bs ≡ Ok (s, rest) → (r ≡ Ok s) × (bs ≡ rest)
before-is (Err e) bs s rest q = absurd (refused (s, rest) q)
before-is (Ok t) bs s rest q =
    let same = ok_same (t, bs) (s, rest) q in
    (ap (λ p. Ok p.0) same, ap (λ p. p.1) same)

tested-is : (r : Result (List ℕ × List ℕ) Refusal) (s : Setup) (rest : List ℕ) → tested r ≡ Ok (s, rest) → (ns : List ℕ) × (r ≡ Ok (ns, rest)) × (setup_from ns ≡ Ok s)
tested-is (Err e) s rest q = absurd (refused (s, rest) q)
tested-is (Ok p) s rest q =
    let h = before-is (setup_from p.0) p.1 s rest q in
    (p.0, ap (λ ys. Ok (p.0, ys)) h.1, h.0)

pub setup_only : (bs : List ℕ) (s : Setup) (rest : List ℕ) → ((i : ℕ) → get_or bs i 0 < 256) → read_setup bs ≡ Ok (s, rest) → Encodable (setup_numbers s) × (bs ≡ encoded_setup s ++ rest)
setup_only bs s rest fits e =
    let parts = tested-is (read_numbers 9 bs) s rest e in
    let h = only_all 9 bs parts.0 rest fits parts.1 in
    let back = sym (accepted parts.0 s h.0 parts.2).1 in
    (subst Encodable back h.1, h.2 ∙ ap (λ ns. flat_map encoded ns ++ rest) back)

-- numbers inside their limits have an encoding
make_small : (k : Make) → make_number k < 2
make_small Sorted = lit< tt
make_small Heaps = lit< tt

market_small : (k : Market) → market_number k < 2
market_small Warrant = lit< tt
market_small Stock = lit< tt

allowed_small : (s : Setup) → Allowed s → Encodable (setup_numbers s)
allowed_small s h =
    let tick = h.tick in
    let spread = h.spread in
    let lots = h.lots in
    let day = h.day in
    let make = make_small s.make in
    let market = market_small s.market in
    (omega arith, (omega arith, (omega arith, (omega arith, (omega arith, (omega arith, (omega arith, (omega arith, (omega arith, tt)))))))))

pub setup_reads : (s : Setup) (rest : List ℕ) → Allowed s → read_setup (encoded_setup s ++ rest) ≡ Ok (s, rest)
setup_reads s rest h = ap tested (reads_all (setup_numbers s) rest (allowed_small s h)) ∙ ap (λ r. before r rest) (setup_back s h)

pub setup_followed : (bs : List ℕ) (s : Setup) (rest more : List ℕ) → ((i : ℕ) → get_or bs i 0 < 256) → read_setup bs ≡ Ok (s, rest) → read_setup (bs ++ more) ≡ Ok (s, rest ++ more)
setup_followed bs s rest more fits e =
    let parts = tested-is (read_numbers 9 bs) s rest e in
    ap tested (numbers_followed 9 bs parts.0 rest more fits parts.1) ∙ ap (λ r. before r (rest ++ more)) parts.2
