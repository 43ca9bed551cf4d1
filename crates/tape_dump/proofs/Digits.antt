-- A number's digits in an array of twenty places.
use Rattle.std.proofs.Common.{◌≡◌, ℕ, ◌+◌, ◌^◌, ◌<◌, ◌≤◌, true, List, length, take, drop, decimal, Some, Option, IsSome, ◌∙◌, sym, refl, subst, arith, lit<}
use Rattle.std.proofs.lemmas.Bool.{le-leb}
use Rattle.std.proofs.lemmas.Fmt.{length-decimal-le, IsAscii-decimal}
use Rattle.std.proofs.lemmas.List.{take_at}
use Rattle.std.proofs.lemmas.Str.{IsUtf8-from_ascii}
use Rattle.std.specs.Str.{IsUtf8}
use Rattle.tape.specs.Text.{has_room, put, ended, written}

-- twenty places hold every number
room_for : (n : ℕ) (out : List ℕ) → n < 2 ^ 64 → length out ≡ 20 → has_room out 0 (decimal n) ≡ true
room_for n out fits long =
    let some : length (decimal n) ≤ 20 = length-decimal-le 20 n (lit< tt) (omega arith) fits in
    le-leb (0 + length (decimal n)) (length out) (omega arith)

end_of : (n : ℕ) (out : List ℕ) → n < 2 ^ 64 → length out ≡ 20 → ended out 0 (decimal n) ≡ Some (0 + length (decimal n))
end_of n out fits long = let room = room_for n out fits long in rw room

pub has_end : (n : ℕ) (out : List ℕ) (r : Option ℕ) → n < 2 ^ 64 → length out ≡ 20 → r ≡ ended out 0 (decimal n) → IsSome r
has_end n out r fits long e = subst IsSome (sym (e ∙ end_of n out fits long)) refl

-- the digits that were written, as a part of their array
pub digits_part : (n end : ℕ) (out now : List ℕ) → n < 2 ^ 64 → length out ≡ 20 → Some end ≡ ended out 0 (decimal n) → now ≡ written out 0 (decimal n) → take end now ≡ decimal n
digits_part n end out now fits long e w =
    let room = room_for n out fits long in
    let some = end_of n out fits long in
    let last : end ≡ 0 + length (decimal n) = cc in
    let o : written out 0 (decimal n) ≡ put out 0 (decimal n) = rw room in
    rw (w, o) (take_at (decimal n) (drop (0 + length (decimal n)) out) end (omega arith))

pub is_text : (n : ℕ) (bs : List ℕ) → n < 2 ^ 64 → bs ≡ decimal n → IsUtf8 bs
is_text n bs fits e = subst IsUtf8 (sym e) (IsUtf8-from_ascii (decimal n) (IsAscii-decimal n fits))
