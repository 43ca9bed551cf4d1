-- A call that its phase allows, and that makes no other test.
use Rattle.std.proofs.Common.{◌≡◌, true, cond, not, [], Some, None, refl, ap, ◌∙◌}
use Rattle.terms.specs.declared.refusal.Refusal.TheVariants.{WrongPhase}
use Rattle.terms.specs.declared.side.Side.{Side}
use Rattle.terms.specs.declared.side.Side.TheVariants.{Buy, Sell}
use Rattle.queue.specs.Held.{Held}
use Rattle.orders.specs.declared.order.Order.{Order}
use Rattle.rules.specs.Book.{Answers, Book, Phase, waiting, trading, halted, closed, resting_lots}
use Rattle.rules.specs.ByRule.{ByRule}
use Rattle.rules.specs.Calls.{Call, resting, lots}
use Rattle.rules.specs.Checks.{allows, checks, first_of, value_checks}
use Rattle.book.specs.Dispatch.{phase_book}
use Rattle.book.specs.declared.call.Phase.{Phase as Phase'}
use Rattle.book.specs.declared.call.Phase.TheVariants.{Waiting, Trading, Halted, Closed}

pub allowed : (c : Call) (b : Book) → allows b.phase c ≡ true → value_checks c b ≡ [] → first_of (checks c b) ≡ None
allowed c b h v = ap (λ t. cond (not t) (Some WrongPhase) (first_of (value_checks c b))) h ∙ ap first_of v

pub resting_allowed : (p : Phase) → allows p resting ≡ true
resting_allowed waiting = refl
resting_allowed trading = refl
resting_allowed halted = refl
resting_allowed closed = refl

-- what rests is told in every phase
pub resting_told : (p : Phase') (held : Side → Held Order) (range : Answers) → ByRule resting (phase_book p held range) (lots (resting_lots (held Buy).elements) (resting_lots (held Sell).elements)) [] [] (phase_book p held range)
resting_told (Waiting b) held range = record { outcome = refl; trades = refl; book = refl }
resting_told (Trading b) held range = record { outcome = refl; trades = refl; book = refl }
resting_told (Halted b) held range = record { outcome = refl; trades = refl; book = refl }
resting_told (Closed b) held range = record { outcome = refl; trades = refl; book = refl }
