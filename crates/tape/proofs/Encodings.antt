-- Reading and encoding a number are inverse to each other.
use Rattle.std.proofs.Common.{◌≡◌, ℕ, zero, suc, ◌+◌, ◌-◌, ◌*◌, ◌/◌, ◌%◌, ◌^◌, ◌<◌, ◌≤◌, List, [], ◌∷◌, ◌++◌, get_or, Ok, Err, Result, sym, refl, ap, ⊎_elim, pow-suc, arith}
use Rattle.std.proofs.lemmas.Bool.{lt-ltb, le-ltb, eq-eqb, ne_eqb, cases_lt, cases_eq}
use Rattle.terms.proofs.Setups.{refused}
use Rattle.terms.specs.declared.refusal.Refusal.{Refusal}
use Rattle.tape.specs.Numbers.{groups, lowest, read_groups}
use Rattle.tape.proofs.Numbers.{pow_first}

suc_step : (k : ℕ) → 128 ^ (suc k + 1) ≡ 128 ^ (k + 1) * 128
suc_step k = let p : suc k + 1 ≡ suc (k + 1) = omega arith in rw p (pow-suc 128 (k + 1))

-- the bytes of n, whatever stands behind them, read as n
pub reads_encoded : (k n : ℕ) (rest : List ℕ) → n < 128 ^ (k + 1) → read_groups k (groups k n ++ rest) ≡ Ok (n, rest)
unfolding read_groups groups
reads_encoded zero n rest small = let e = lt-ltb n 128 small in rw e
reads_encoded (suc k) n rest small =
    let ih = reads_encoded k (n / 128) rest (omega (arith, suc_step k)) in
    ⊎_elim
    (λ low. let e = lt-ltb n 128 low in rw (e, e))
    (λ high.
    let e = le-ltb n 128 high in
    let top = le-ltb (128 + n % 128) 128 (omega arith) in
    let some = ne_eqb (n / 128) 0 (λ z. omega arith) in
    let back : ((128 + n % 128) - 128) + 128 * (n / 128) ≡ n = omega arith in
    rw (e, top, ih, some, back))
    (cases_lt n 128)

-- what reads as n begins with the bytes of n
abbrev Encodes : ℕ → List ℕ → ℕ → List ℕ → Type 0
Encodes k bs n rest = (n < 128 ^ (k + 1)) × (bs ≡ groups k n ++ rest)

pub ok_same : {A : Type 0} (p q : A × List ℕ) → ◌≡◌ {A = Result (A × List ℕ) Refusal} (Ok p) (Ok q) → p ≡ q
ok_same p q e = cc

groups_low : (k n : ℕ) → n < 128 → groups k n ≡ n ∷ []
unfolding groups
groups_low zero n low = refl
groups_low (suc k) n low = rw (lt-ltb n 128 low)

last_group : (k b n : ℕ) (bs rest : List ℕ) → b < 128 → ◌≡◌ {A = Result (ℕ × List ℕ) Refusal} (Ok (b, bs)) (Ok (n, rest)) → Encodes k (b ∷ bs) n rest
last_group k b n bs rest low e =
    let same = ok_same (b, bs) (n, rest) e in
    let v : b ≡ n = ap (λ p. p.0) same in
    let r : bs ≡ rest = ap (λ p. p.1) same in
    (omega (arith, pow_first k), rw (sym v, groups_low k b low, r))

-- of two groups and more, the first is the remainder and the others are the quotient
more_groups : (k b m : ℕ) (bs rest : List ℕ) → 128 ≤ b → b < 256 → 0 < m → Encodes k bs m rest → Encodes (suc k) (b ∷ bs) ((b - 128) + 128 * m) rest
unfolding groups
more_groups k b m bs rest high fits some h =
    let n : ℕ = (b - 128) + 128 * m in
    let q : n / 128 ≡ m = omega arith in
    let r : 128 + n % 128 ≡ b = omega arith in
    (omega (arith, suc_step k, h.0), rw (le-ltb n 128 (omega arith), q, r) (ap (λ ys. b ∷ ys) h.1))

below : (k b n : ℕ) (bs rest : List ℕ) (r : Result (ℕ × List ℕ) Refusal) → 128 ≤ b → b < 256 → ((m : ℕ) (ys : List ℕ) → r ≡ Ok (m, ys) → Encodes k bs m ys) → lowest b r ≡ Ok (n, rest) → Encodes (suc k) (b ∷ bs) n rest
below k b n bs rest (Err x) high fits ih e = absurd (refused (n, rest) e)
below k b n bs rest (Ok p) high fits ih e =
    ⊎_elim
    (λ z. absurd (refused (n, rest) (rw (eq-eqb p.0 0 z) at e)))
    (λ some.
    let same = ok_same ((b - 128) + 128 * p.0, p.1) (n, rest) (rw (ne_eqb p.0 0 some) at e) in
    let v : (b - 128) + 128 * p.0 ≡ n = ap (λ p. p.0) same in
    let r : p.1 ≡ rest = ap (λ p. p.1) same in
    rw (sym v, sym r) (more_groups k b p.0 bs p.1 high fits (omega arith) (ih p.0 p.1 refl)))
    (cases_eq p.0 0)

pub only_encoded : (k : ℕ) (bs : List ℕ) (n : ℕ) (rest : List ℕ) → ((i : ℕ) → get_or bs i 0 < 256) → read_groups k bs ≡ Ok (n, rest) → Encodes k bs n rest
unfolding read_groups
only_encoded k [] n rest fits e = absurd (refused (n, rest) e)
only_encoded zero (b ∷ bs) n rest fits e =
    ⊎_elim
    (λ low. last_group zero b n bs rest low (rw (lt-ltb b 128 low) at e))
    (λ high. absurd (refused (n, rest) (rw (le-ltb b 128 high) at e)))
    (cases_lt b 128)
only_encoded (suc k) (b ∷ bs) n rest fits e =
    let ih = only_encoded k bs in
    ⊎_elim
    (λ low. last_group (suc k) b n bs rest low (rw (lt-ltb b 128 low) at e))
    (λ high. below k b n bs rest (read_groups k bs) high (fits 0) (λ m ys. ih m ys (λ i. fits (suc i))) (rw (le-ltb b 128 high) at e))
    (cases_lt b 128)
