use Rattle.std.proofs.Common.{◌∙◌, sym, arith}
use Rattle.tape_dump.proofs.Digits.{has_end, digits_part, is_text}
use Rattle.tape_dump.proofs.text.digits.Goals as goal

pub unwrap-end-requires : goal.unwrap-end-requires
unwrap-end-requires c = has_end _ _ _ (omega arith) (omega arith) c.write_decimal.ensures.ends

pub from_utf8_unchecked-requires : goal.from_utf8_unchecked-requires
from_utf8_unchecked-requires c = is_text _ _ (omega arith) (digits_part _ _ _ _ (omega arith) (omega arith) (sym c.unwrap-end.ensures ∙ c.write_decimal.ensures.ends) c.write_decimal.ensures.writes)

pub returns : goal.returns
returns c = c.from_utf8_unchecked.ensures ∙ digits_part _ _ _ _ (omega arith) (omega arith) (sym c.unwrap-end.ensures ∙ c.write_decimal.ensures.ends) c.write_decimal.ensures.writes
