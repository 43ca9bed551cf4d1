use Rattle.std.proofs.Common.{refl}
use Rattle.rules.proofs.worked_cases.Goals as goal

pub returns-clause-settled : goal.returns-clause-settled
returns-clause-settled g =
    record {
      all_trade = (refl, refl);
      ten_rest = (refl, refl);
      ten_are_cancelled = (refl, refl);
      sell_above_the_high = (refl, refl);
      it_is_left_untouched = (refl, refl);
      quote_moves_over_a_buy = (refl, refl);
      first_come = (refl, refl);
      cut_keeps_its_place = (refl, refl);
      raised_goes_back = (refl, refl);
    }
