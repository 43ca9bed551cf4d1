-- Where an order is changed, as the rules see it.
use Rattle.std.specs.Prelude.{◌≡◌, cond, Some, None, Option, Result, MatchResult}
use Rattle.terms.specs.declared.message.OrderChange.{OrderChange}
use Rattle.terms.specs.declared.refusal.Refusal.{Refusal}
use Rattle.terms.specs.declared.refusal.Refusal.TheVariants.{HaltedRise, BeyondRange}
use Rattle.orders.specs.declared.order.Found.{Found}
use Rattle.price_range.specs.declared.band.Band.{Band}
use Rattle.rules.specs.Book.{Phase, trading, halted}
use Rattle.rules.specs.Checks.{rises, beyond_range}
use Rattle.book.specs.declared.change_checks.Setting.{Setting}
use Rattle.book.specs.declared.change_checks.Setting.TheVariants.{Trading, Halted}

abbrev pub phase_in : Setting → Phase
phase_in (Trading r) = trading
phase_in Halted = halted

abbrev pub band_in : Setting → Option Band
band_in (Trading r) = r
band_in Halted = None

-- why a rise is refused, if it is
abbrev pub rise_in : Setting → OrderChange → Found → Option Refusal
rise_in (Trading r) c f = cond (beyond_range c r f) (Some BeyondRange) None
rise_in Halted c f = cond (rises c f) (Some HaltedRise) None

-- the order that was found is handed on if no reason holds; else the first that does is
abbrev pub Checked : Result Found Refusal → Option Found → Option Refusal → Type 0
Checked r found reason = MatchResult r (λ f. (reason ≡ None) × (found ≡ Some f)) (λ e. reason ≡ Some e)
