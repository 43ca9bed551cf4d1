-- Numbers one behind the other.
use Rattle.std.proofs.Common.{◌≡◌, ℕ, zero, suc, ◌+◌, ◌-◌, ◌<◌, List, [], ◌∷◌, ◌++◌, length, get_or, take, set, Ok, Err, Result, sym, refl, ap, ◌∙◌, subst, append_assoc, arith}
use Rattle.std.proofs.lemmas.List.{append-nil, take_more_set, take_all}
use Rattle.terms.proofs.Setups.{refused}
use Rattle.terms.specs.declared.refusal.Refusal.{Refusal}
use Rattle.std.specs.List.{flat_map}
use Rattle.tape.specs.Numbers.{Encodable, encoded, onto, next, read_number, read_numbers}
use Rattle.tape.proofs.Encodings.{ok_same, reads_encoded, only_encoded}

-- what is read in all, where ns were read before
abbrev pub behind_read : List ℕ → Result (List ℕ × List ℕ) Refusal → Result (List ℕ × List ℕ) Refusal
behind_read ns (Ok p) = Ok (ns ++ p.0, p.1)
behind_read ns (Err e) = Err e

behind_onto : (ns : List ℕ) (x : ℕ) (r : Result (List ℕ × List ℕ) Refusal) → behind_read (ns ++ x ∷ []) r ≡ behind_read ns (onto x r)
behind_onto ns x (Ok p) = rw append_assoc
behind_onto ns x (Err e) = refl

step : (n i : ℕ) → i < n → n - i ≡ suc (n - (i + 1))
step n i h = omega arith

pub numbers_more : (n i x : ℕ) (ns bs rest : List ℕ) → i < n → i < length ns → Ok (x, rest) ≡ read_number bs → behind_read (take (i + 1) (set ns i x)) (read_numbers (n - (i + 1)) rest) ≡ behind_read (take i ns) (read_numbers (n - i) bs)
unfolding read_numbers
numbers_more n i x ns bs rest h k e =
    rw (take_more_set ns i x k, behind_onto (take i ns) x (read_numbers (n - (i + 1)) rest), step n i h, sym e)

pub numbers_refused : (n i : ℕ) (ns bs : List ℕ) (x : Refusal) → i < n → Err x ≡ read_number bs → Err x ≡ behind_read ns (read_numbers (n - i) bs)
unfolding read_numbers
numbers_refused n i ns bs x h e = rw (step n i h, sym e)

pub numbers_all : (n i : ℕ) (ns bs : List ℕ) → n ≡ i → length ns ≡ n → Ok (ns, bs) ≡ behind_read (take i ns) (read_numbers (n - i) bs)
unfolding read_numbers
numbers_all n i ns bs e k =
    let z : n - i ≡ 0 = omega arith in rw (z, take_all i ns (omega arith), append-nil ns)

-- numbers and their bytes, as for one number
pub reads_all : (ns rest : List ℕ) → Encodable ns → read_numbers (length ns) (flat_map encoded ns ++ rest) ≡ Ok (ns, rest)
unfolding read_numbers
reads_all [] rest h = refl
reads_all (n ∷ ns) rest h =
    let split = append_assoc (encoded n) (flat_map encoded ns) rest in
    let one = reads_encoded 3 n (flat_map encoded ns ++ rest) h.0 in
    let more = reads_all ns rest h.1 in
    rw (split, one, more)

abbrev AllRead : ℕ → List ℕ → List ℕ → List ℕ → Type 0
AllRead k bs ns rest = (length ns ≡ k) × Encodable ns × (bs ≡ flat_map encoded ns ++ rest)

pub fits_behind : (xs ys : List ℕ) → ((i : ℕ) → get_or (xs ++ ys) i 0 < 256) → (i : ℕ) → get_or ys i 0 < 256
fits_behind [] ys fits i = fits i
fits_behind (x ∷ xs) ys fits i = fits_behind xs ys (λ j. fits (suc j)) i

onto-is : (x : ℕ) (r : Result (List ℕ × List ℕ) Refusal) (ns rest : List ℕ) → onto x r ≡ Ok (ns, rest) → (ms : List ℕ) × (r ≡ Ok (ms, rest)) × (ns ≡ x ∷ ms)
onto-is x (Err e) ns rest q = absurd (refused (ns, rest) q)
onto-is x (Ok p) ns rest q =
    let same = ok_same (x ∷ p.0, p.1) (ns, rest) q in
    (p.0, ap (λ ys. Ok (p.0, ys)) (ap (λ s. s.1) same), sym (ap (λ s. s.0) same))

next-is : (r : Result (ℕ × List ℕ) Refusal) (more : List ℕ → Result (List ℕ × List ℕ) Refusal) (p : List ℕ × List ℕ) → next r more ≡ Ok p → (q : ℕ × List ℕ) × (r ≡ Ok q) × (onto q.0 (more q.1) ≡ Ok p)
next-is (Err e) more p h = absurd (refused p h)
next-is (Ok q) more p h = (q, refl, h)

pub only_all : (k : ℕ) (bs ns rest : List ℕ) → ((i : ℕ) → get_or bs i 0 < 256) → read_numbers k bs ≡ Ok (ns, rest) → AllRead k bs ns rest
unfolding read_numbers
only_all zero bs ns rest fits e =
    let same = ok_same ([], bs) (ns, rest) e in
    let n : [] ≡ ns = ap (λ p. p.0) same in
    rw (sym n) (refl, tt, ap (λ p. p.1) same)
only_all (suc k) bs ns rest fits e =
    let first = next-is (read_number bs) (read_numbers k) (ns, rest) e in
    let n = first.0.0 in
    let ys = first.0.1 in
    let one = only_encoded 3 bs n ys fits first.1 in
    let others = onto-is n (read_numbers k ys) ns rest first.2 in
    let ms = others.0 in
    let fits-ys : (i : ℕ) → get_or ys i 0 < 256 = fits_behind (encoded n) ys (λ i. subst (λ zs. get_or zs i 0 < 256) one.1 (fits i)) in
    let ih = only_all k ys ms rest fits-ys others.1 in
    rw others.2
    (ap suc ih.0, (one.0, ih.1), one.1 ∙ ap (λ zs. encoded n ++ zs) ih.2 ∙ sym (append_assoc (encoded n) (flat_map encoded ms) rest))

pub numbers_followed : (k : ℕ) (bs ns rest more : List ℕ) → ((i : ℕ) → get_or bs i 0 < 256) → read_numbers k bs ≡ Ok (ns, rest) → read_numbers k (bs ++ more) ≡ Ok (ns, rest ++ more)
numbers_followed k bs ns rest more fits e =
    let h = only_all k bs ns rest fits e in
    ap (λ j. read_numbers j (bs ++ more)) (sym h.0)
    ∙ ap (read_numbers (length ns)) (ap (λ zs. zs ++ more) h.2 ∙ append_assoc (flat_map encoded ns) rest more)
    ∙ reads_all ns (rest ++ more) h.1
