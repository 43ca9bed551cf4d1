-- What can be asked of a book, what comes back, and the events of a day.
use Rattle.std.specs.Prelude.{ℕ, List}
use Rattle.terms.specs.declared.message.OrderCancel.{OrderCancel}
use Rattle.terms.specs.declared.message.OrderChange.{OrderChange}
use Rattle.terms.specs.declared.message.OrderEntry.{OrderEntry}
use Rattle.terms.specs.declared.message.QuoteEntry.{QuoteEntry}
use Rattle.terms.specs.declared.refusal.Refusal.{Refusal}
use Rattle.terms.specs.declared.side.Side.{Side}
use Rattle.terms.specs.declared.side.TimeInForce.{TimeInForce}
use Rattle.terms.specs.declared.trade.Answer.{Answer}
use Rattle.terms.specs.declared.trade.Trade.{Trade}

-- a call with its arguments; where it may trade, the last one is the length of the trade table
pub data Call : Type 0 where
  order : Side → TimeInForce → OrderEntry → ℕ → Call
  quote : QuoteEntry → ℕ → Call
  renew : ℕ → Call
  change : OrderChange → ℕ → Call
  cancel : OrderCancel → Call
  halt resume end resting : Call

-- a refusal, an answer, or the buying and the selling lots that rest
pub data Outcome : Type 0 where
  refused : Refusal → Outcome
  answered : Answer → Outcome
  lots : ℕ → ℕ → Outcome

pub record Event : Type 0 where
  pub call : Call
  pub outcome : Outcome
  pub trades : List Trade
