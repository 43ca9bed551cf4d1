-- A call that is answered by the rules.
use Rattle.std.specs.Prelude.{◌≡◌, ℕ, false, List, ◌++◌, length, take, drop, None}
use Rattle.terms.specs.declared.message.QuoteEntry.{QuoteEntry}
use Rattle.terms.specs.declared.side.Side.TheVariants.{Buy, Sell}
use Rattle.terms.specs.declared.trade.Answer.{Answer}
use Rattle.terms.specs.declared.trade.Trade.{Trade}
use Rattle.queue.specs.Held.{Held, Sound}
use Rattle.orders.specs.Priority.{rank_of}
use Rattle.orders.specs.declared.order.Order.{Order}
use Rattle.rules.specs.Book.{Book}
use Rattle.rules.specs.Calls.{Call, Outcome, refused, answered, lots, Event}
use Rattle.rules.specs.Checks.{first_of, leg_checks, short_table}
use Rattle.rules.specs.Rules.{rule, quoted}

-- how many trades an outcome counts
abbrev pub counted : Outcome → ℕ
counted (refused e) = 0
counted (answered a) = a.trades
counted (lots m n) = 0

-- the event of a call: its own outcome, and the trades that stand in the table
abbrev pub event_of : Call → Outcome → List Trade → Event
event_of c o table = record { call = c; outcome = o; trades = take (counted o) table }

-- outcome, trades in the table with later places unchanged, and the book after it
pub record ByRule (c : Call) (b : Book) (o : Outcome) (table table' : List Trade) (b' : Book) : Type 0 where
  pub outcome : o ≡ (rule c b).outcome
  pub trades : table' ≡ (rule c b).trades ++ drop (length (rule c b).trades) table
  pub book : b' ≡ (rule c b).book

-- both queues of a book are sound
pub record SoundBook (b : Book) : Type 0 where
  pub buys : Sound (rank_of Buy) b.buys
  pub sells : Sound (rank_of Sell) b.sells

-- a quote may be placed
pub record QuoteReady (b : Book) (table : List Trade) : Type 0 where
  pub sound : SoundBook b
  pub legs : first_of (leg_checks b.next b.quote b.buys b.sells) ≡ None
  pub room : short_table (length table) b ≡ false

-- and was, with this answer and these queues after it
pub record QuotePlaced (q : QuoteEntry) (b : Book) (a : Answer) (table table' : List Trade) (buys sells : Held Order) : Type 0 where
  pub outcome : answered a ≡ (quoted q b).outcome
  pub trades : table' ≡ (quoted q b).trades ++ drop (length (quoted q b).trades) table
  pub buying : buys ≡ (quoted q b).book.buys
  pub selling : sells ≡ (quoted q b).book.sells
