-- How a number is read byte by byte.
use Rattle.std.proofs.Common.{◌≡◌, ℕ, zero, suc, ◌+◌, ◌-◌, ◌*◌, ◌^◌, ◌<◌, ◌≤◌, List, [], ◌∷◌, length, get_or, take, drop, Ok, Err, Result, refl, not-suc-le-zero, pow-suc, arith, lit≤}
use native.Mathlib.Nat.{pow-le-pow_right}
use lib.Seq.{take-length}
use Rattle.std.proofs.lemmas.Bool.{lt-ltb, le-ltb, eq-eqb, ne_eqb}
use Rattle.terms.specs.declared.refusal.Refusal.{Refusal}
use Rattle.terms.specs.declared.refusal.Refusal.TheVariants.{EndsEarly, BadNumber}
use Rattle.tape.specs.Numbers.{lowest, read_groups}

-- the bytes behind the first, as a slice pattern has them
abbrev pub behind : List ℕ → List ℕ
behind bs = take (length bs - 1) (drop 1 bs)

pub behind_cons : (b : ℕ) (bs : List ℕ) → behind (b ∷ bs) ≡ bs
behind_cons b bs = let q : length (b ∷ bs) - 1 ≡ length bs = omega arith in rw q (take-length bs)

pub read_empty : (more : ℕ) (bs : List ℕ) → length bs < 1 → Err EndsEarly ≡ read_groups more bs
unfolding read_groups
read_empty more [] none = refl
read_empty more (b ∷ bs) none = absurd (omega arith)

pub read_last : (more : ℕ) (bs : List ℕ) → 0 < length bs → get_or bs 0 0 < 128 → Ok (get_or bs 0 0, behind bs) ≡ read_groups more bs
unfolding read_groups
read_last more [] some low = absurd (not-suc-le-zero some)
read_last zero (b ∷ bs) some low = rw (behind_cons b bs, lt-ltb b 128 low)
read_last (suc more) (b ∷ bs) some low = rw (behind_cons b bs, lt-ltb b 128 low)

pub read_fifth : (bs : List ℕ) → 0 < length bs → 128 ≤ get_or bs 0 0 → Err BadNumber ≡ read_groups 0 bs
unfolding read_groups
read_fifth [] some high = absurd (not-suc-le-zero some)
read_fifth (b ∷ bs) some high = rw (le-ltb b 128 high)

pub read_more : (more : ℕ) (bs : List ℕ) (r : Result (ℕ × List ℕ) Refusal) → 0 < length bs → 128 ≤ get_or bs 0 0 → 0 < more → r ≡ read_groups (more - 1) (behind bs) → lowest (get_or bs 0 0) r ≡ read_groups more bs
unfolding read_groups
read_more more [] r some high turn e = absurd (not-suc-le-zero some)
read_more zero (b ∷ bs) r some high turn e = absurd (not-suc-le-zero turn)
read_more (suc more) (b ∷ bs) r some high turn e =
    let q : suc more - 1 ≡ more = omega arith in rw (e, behind_cons b bs, q, le-ltb b 128 high)

pub lowest_zero : (b n : ℕ) (bs : List ℕ) → n ≡ 0 → Err BadNumber ≡ lowest b (Ok (n, bs))
lowest_zero b n bs none = rw (eq-eqb n 0 none)

pub lowest_some : (b n : ℕ) (bs : List ℕ) → (n ≡ 0 → ⊥) → Ok ((b - 128) + 128 * n, bs) ≡ lowest b (Ok (n, bs))
lowest_some b n bs some = rw (ne_eqb n 0 some)

pub pow_step : (more : ℕ) → 0 < more → 128 ^ (more + 1) ≡ 128 ^ ((more - 1) + 1) * 128
pow_step more turn =
    let p : more + 1 ≡ suc more = omega arith in
    let q : (more - 1) + 1 ≡ more = omega arith in
    rw (p, q) (pow-suc 128 more)

pub pow_first : (more : ℕ) → 128 ≤ 128 ^ (more + 1)
pow_first more = let p : 1 ≤ more + 1 = omega arith in pow-le-pow_right {n = 128} (lit≤ tt) p

pub pow_room : (more : ℕ) → more < 4 → 128 ^ (more + 1) ≤ 2 ^ 28
pow_room more small = let p : more + 1 ≤ 4 = omega arith in pow-le-pow_right {n = 128} (lit≤ tt) p
