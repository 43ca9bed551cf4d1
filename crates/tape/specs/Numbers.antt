-- A tape's numbers.
--   encoded n       the bytes of the number n
--   Encodable ns    numbers that have an encoding
--   read_number bs   the number that stands first in bs, and the bytes behind it
--   read_numbers k   k numbers, one behind the other
--   seen r          what a reader returned, its reference read
use Rattle.std.specs.Prelude.{ℕ, zero, suc, ◌+◌, ◌-◌, ◌*◌, ◌/◌, ◌%◌, ◌^◌, ◌<◌, cond, List, [], ◌∷◌, Ok, Err, Result, ◌==◌, nat_lt}
use Rattle.std.specs.Borrow.{Bor}
use Rattle.std.specs.List.{AllByRecursion}
use Rattle.terms.specs.declared.refusal.Refusal.{Refusal}
use Rattle.terms.specs.declared.refusal.Refusal.TheVariants.{EndsEarly, BadNumber}

abbrev pub seen : {A : Type 0} → Result (A × Bor (List ℕ)) Refusal → Result (A × List ℕ) Refusal
seen (Ok p) = Ok (p.0, p.1.now)
seen (Err e) = Err e

-- seven bits a byte, lowest first, the top bit set on all but the last; at most k bytes before the last
unfoldable pub groups : ℕ → ℕ → List ℕ
groups zero n = n ∷ []
groups (suc k) n = cond (nat_lt n 128) (n ∷ []) ((128 + n % 128) ∷ groups k (n / 128))

abbrev pub encoded : ℕ → List ℕ
encoded = groups 3

abbrev pub Encodable : List ℕ → Type 0
Encodable = AllByRecursion (λ n. n < 2 ^ 28)

-- the byte b, whose top bit is set, and the value of the groups behind it, which is not 0
abbrev pub lowest : ℕ → Result (ℕ × List ℕ) Refusal → Result (ℕ × List ℕ) Refusal
lowest b (Ok p) = cond (p.0 == 0) (Err BadNumber) (Ok ((b - 128) + 128 * p.0, p.1))
lowest b (Err e) = Err e

unfoldable pub read_groups : ℕ → List ℕ → Result (ℕ × List ℕ) Refusal
read_groups more [] = Err EndsEarly
read_groups zero (b ∷ bs) = cond (nat_lt b 128) (Ok (b, bs)) (Err BadNumber)
read_groups (suc more) (b ∷ bs) = cond (nat_lt b 128) (Ok (b, bs)) (lowest b (read_groups more bs))

abbrev pub read_number : List ℕ → Result (ℕ × List ℕ) Refusal
read_number = read_groups 3

-- x, and then the numbers that were read behind it
abbrev pub onto : ℕ → Result (List ℕ × List ℕ) Refusal → Result (List ℕ × List ℕ) Refusal
onto x (Ok p) = Ok (x ∷ p.0, p.1)
onto x (Err e) = Err e

abbrev pub next : Result (ℕ × List ℕ) Refusal → (List ℕ → Result (List ℕ × List ℕ) Refusal) → Result (List ℕ × List ℕ) Refusal
next (Ok p) more = onto p.0 (more p.1)
next (Err e) more = Err e

unfoldable pub read_numbers : ℕ → List ℕ → Result (List ℕ × List ℕ) Refusal
read_numbers zero bs = Ok ([], bs)
read_numbers (suc k) bs = next (read_number bs) (read_numbers k)
