-- Steps of writing a number's digits from the last to the first.
use Rattle.std.proofs.Common.{◌≡◌, ℕ, zero, suc, ◌+◌, ◌*◌, Some, None, Option, IfNone, IfSome, ◌-◌, ◌/◌, ◌%◌, ◌^◌, ◌<◌, ◌≤◌, List, [], ◌∷◌, ◌++◌, length, get_or, take, drop, set, decimal, sym, ap, ◌∙◌, append_assoc, arith, length-append, add-zero, pow-suc, refl, ⊎_elim, lit≤}
use native.Mathlib.Nat.{pow-le-pow_right}
use Rattle.std.proofs.lemmas.Bool.{cases_lt}
use Rattle.std.proofs.lemmas.Fmt.{decimal_digit, decimal_step, decimal_nonempty, decimal_is_IsNumeral, first_decimal, length-decimal-le}
use Rattle.std.proofs.lemmas.List.Edits.{get_or-between}
use Rattle.std.proofs.lemmas.List.{length_push, drop-set}
use Rattle.std.specs.List.{between}
use Rattle.std.specs.Option.{unwrap_or}
use Rattle.tape.specs.Text.{Spelled}

pub length_one : (n : ℕ) → n < 10 → length (decimal n) ≡ 1
length_one n small = ap length (decimal_digit n small)

pub length-step : (n : ℕ) → 10 ≤ n → n < 2 ^ 64 → length (decimal n) ≡ length (decimal (n / 10)) + 1
length-step n large fits = ap length (decimal_step n large fits) ∙ length_push (decimal (n / 10)) (48 + n % 10)

-- a number that is not below a power of ten has more digits than the power
pub more_digits : (k n : ℕ) → 10 ^ k ≤ n → n < 2 ^ 64 → k < length (decimal n)
more_digits zero n h fits = decimal_nonempty n fits
more_digits (suc k) n h fits =
    let some : 1 ≤ 10 ^ k = let z : 0 ≤ k = omega arith in pow-le-pow_right {n = 10} (lit≤ tt) z in
    let step = pow-suc 10 k in
    let ih = more_digits k (n / 10) (omega arith) (omega arith) in
    omega (arith, length-step n (omega arith) fits)

power_digits : (k n : ℕ) → 10 ^ k ≤ n → n < 10 * 10 ^ k → n < 2 ^ 64 → k + 1 ≡ length (decimal n)
power_digits k n h g fits =
    let step = pow-suc 10 k in
    omega (arith, more_digits k n h fits, length-decimal-le (suc k) n (omega arith) (omega arith) fits)

-- o is the greatest power of ten that is not above n, if there is one
pub digits_of_power : (o : Option ℕ) (n : ℕ) → IfNone o (n ≡ 0) → IfSome o (λ k. 10 ^ k ≤ n) → IfSome o (λ k. n < 10 * 10 ^ k) → n < 2 ^ 64 → unwrap_or o 0 + 1 ≡ length (decimal n)
digits_of_power None n none h g fits = sym (length_one n (omega arith))
digits_of_power (Some k) n none h g fits = power_digits k n h g fits

-- the last digit, and the digits before it, which are those of the tenth part, if there are any
pub last_digit : (n : ℕ) → n < 2 ^ 64 → (ds : List ℕ) × (decimal n ≡ ds ++ ((48 + n % 10) ∷ [])) × (1 < length (decimal n) → ds ≡ decimal (n / 10))
last_digit n fits =
    ⊎_elim
    (λ small. ([], decimal_digit n small ∙ ap (λ d. (48 + d) ∷ []) (omega arith), λ more. absurd (omega (arith, length_one n small))))
    (λ large. (decimal (n / 10), decimal_step n large fits, λ more. refl))
    (cases_lt n 10)

-- the digits ds of a number are those of `rest`, if there are any, and then those in the places from i on
abbrev pub Written : List ℕ → List ℕ → ℕ → ℕ → Type 0
Written digits places i rest = (ds : List ℕ) × (digits ≡ ds ++ drop i places) × (length ds ≡ i) × (0 < i → ds ≡ decimal rest)

-- one digit more is written
pub digit_written : (digits places : List ℕ) (i rest : ℕ) → rest < 2 ^ 64 → 0 < i → i ≤ length places → Written digits places i rest → Written digits (set places (i - 1) (48 + rest % 10)) (i - 1) (rest / 10)
digit_written digits places i rest fits some room v =
    let last = last_digit rest fits in
    let d = 48 + rest % 10 in
    let split : v.0 ≡ last.0 ++ (d ∷ []) = v.3 some ∙ last.1 in
    let long = ap length split ∙ length-append last.0 (d ∷ []) in
    let same = ap length (v.3 some) in
    let before : i - 1 + 1 ≡ i = omega arith in
    let put : drop (i - 1) (set places (i - 1) d) ≡ d ∷ drop i places =
    drop-set places (i - 1) d (omega arith) ∙ ap (λ k. d ∷ drop k places) before in (
      last.0,
      v.1 ∙ ap (λ ds. ds ++ drop i places) split ∙ append_assoc last.0 (d ∷ []) (drop i places) ∙ ap (λ bs. last.0 ++ bs) (sym put),
      omega (arith, v.2),
      λ more. last.2 (omega (arith, v.2)),
    )

pub spelled : (n at end : ℕ) (out now : List ℕ) → n < 2 ^ 64 → end ≡ at + length (decimal n) → between at end now ≡ decimal n → take at now ≡ take at out → drop end now ≡ drop end out → Spelled n at end out now
spelled n at end out now fits e part front back =
    let reads = decimal_is_IsNumeral n fits in
    record {
      digits = rw part reads.0;
      reads = rw part reads.1;
      shortest = λ some.
          let first = first_decimal n some fits in
          let long = decimal_nonempty n fits in
          rw (sym (ap (λ k. get_or now k 0) (add-zero at)), sym (get_or-between now at end 0 0 (omega arith)), part) first;
      front = front;
      back = back;
    }
