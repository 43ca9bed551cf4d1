-- A book with its two sides and its range, as the book that the rules speak of.
use Rattle.std.specs.Prelude.{ℕ, Some, Ok, Err, Option, Result}
use Rattle.terms.specs.declared.message.Quoted.{Quoted}
use Rattle.terms.specs.declared.refusal.Refusal.{Refusal}
use Rattle.terms.specs.declared.setup.Instrument.{Instrument}
use Rattle.terms.specs.declared.side.Side.{Side}
use Rattle.terms.specs.declared.side.Side.TheVariants.{Buy, Sell}
use Rattle.terms.specs.declared.trade.Answer.{Answer}
use Rattle.queue.specs.Held.{Held}
use Rattle.orders.specs.declared.order.Order.{Order}
use Rattle.rules.specs.Book as rules
use Rattle.rules.specs.Book.{Answers, waiting, trading, halted, closed}
use Rattle.rules.specs.Calls.{Outcome, refused, answered}
use Rattle.book.specs.declared.phase.Book.{Book}
use Rattle.book.specs.declared.phase.Closed.{Closed}
use Rattle.book.specs.declared.phase.Halted.{Halted}
use Rattle.book.specs.declared.phase.Trading.{Trading}
use Rattle.book.specs.declared.phase.Waiting.{Waiting}

-- these parts of a book, and what goes with them
abbrev pub book_of : rules.Phase → Instrument → ℕ → Option Quoted → (Side → Held Order) → Answers → rules.Book
book_of phase terms next quote held range =
    record { phase = phase; terms = terms; next = next; quote = quote; buys = held Buy; sells = held Sell; range = range }

-- a book in a phase that knows its last quote so
abbrev pub book_in : {P : Type 0} → rules.Phase → (P → Option Quoted) → Book P → (Side → Held Order) → Answers → rules.Book
book_in phase last b = book_of phase b.terms b.next (last b.phase)

abbrev pub waiting_book : Book Waiting → (Side → Held Order) → Answers → rules.Book
waiting_book = book_in waiting (λ p. p.last)

abbrev pub trading_book : Book Trading → (Side → Held Order) → Answers → rules.Book
trading_book = book_in trading (λ p. Some p.quote)

abbrev pub halted_book : Book Halted → (Side → Held Order) → Answers → rules.Book
halted_book = book_in halted (λ p. Some p.last)

abbrev pub closed_book : Book Closed → (Side → Held Order) → Answers → rules.Book
closed_book = book_in closed (λ p. p.last)

-- what came back, as an outcome
abbrev pub outcome_of : Result Answer Refusal → Outcome
outcome_of (Ok a) = answered a
outcome_of (Err e) = refused e

-- what a quote on a waiting book came to: an outcome, and a book
abbrev pub quote_outcome : Result (Book Trading × Answer) (Book Waiting × Refusal) → Outcome
quote_outcome (Ok x) = answered x.1
quote_outcome (Err x) = refused x.1

abbrev pub quote_book : Result (Book Trading × Answer) (Book Waiting × Refusal) → (Side → Held Order) → Answers → rules.Book
quote_book (Ok x) = trading_book x.0
quote_book (Err x) = waiting_book x.0
