-- The set-up that a tape begins with.
use Rattle.std.specs.Prelude.{ℕ, List, Ok, Err, Result}
use Rattle.std.specs.List.{flat_map}
use Rattle.terms.specs.Setups.{setup_from, setup_numbers}
use Rattle.terms.specs.declared.refusal.Refusal.{Refusal}
use Rattle.terms.specs.declared.setup.Setup.{Setup}
use Rattle.tape.specs.Numbers.{encoded, read_numbers}

abbrev pub encoded_setup : Setup → List ℕ
encoded_setup s = flat_map encoded (setup_numbers s)

-- a value that may be refused, and the bytes behind it
abbrev pub before : {A : Type 0} → Result A Refusal → List ℕ → Result (A × List ℕ) Refusal
before (Ok a) bs = Ok (a, bs)
before (Err e) bs = Err e

abbrev pub tested : Result (List ℕ × List ℕ) Refusal → Result (Setup × List ℕ) Refusal
tested (Ok p) = before (setup_from p.0) p.1
tested (Err e) = Err e

-- nine numbers are read, and then they are tested
abbrev pub read_setup : List ℕ → Result (Setup × List ℕ) Refusal
read_setup bs = tested (read_numbers 9 bs)
