-- A test that refuses.
use Rattle.std.specs.Prelude.{Bool, cond, Ok, Err, Result}
use Rattle.terms.specs.declared.refusal.Refusal.{Refusal}

-- refused for this reason where the test holds, and else passed
abbrev pub refused_if : Refusal → Bool → Result (Unit {0}) Refusal
refused_if r holds = cond holds (Err r) (Ok tt)
