-- What an answer counts: the trades of its call, what rests on the queues, and what the ledger has cancelled.
use Rattle.std.specs.Prelude.{◌≡◌, ℕ, zero, suc, ◌+◌, List, length, Some, None, Option}
use Rattle.terms.specs.declared.message.Quoted.{Quoted}
use Rattle.terms.specs.declared.trade.Answer.{Answer}
use Rattle.terms.specs.declared.trade.Trade.{Trade}
use Rattle.rules.specs.Book.{Book, traded_lots}
use Rattle.rules.specs.Calls.{Call, order, quote, renew, change, cancel, halt, resume, end, resting}
use Rattle.rules.specs.Laws.{under}
use Rattle.rules.specs.Ledger.{Entries}

-- the sum over all numbers below n
abbrev pub below : ℕ → (ℕ → ℕ) → ℕ
below zero f = 0
below (suc n) f = below n f + f n

-- the lots cancelled of all numbers below n
abbrev pub cancelled_below : ℕ → Entries → ℕ
cancelled_below n l = below n (λ m. (l m).cancelled)

-- the lots that rest under an order, and under both legs of a quote
abbrev pub under_order : ℕ → Book → ℕ
under_order n b = under n b.buys.elements + under n b.sells.elements

abbrev pub under_legs : Option Quoted → Book → ℕ
under_legs None b = 0
under_legs (Some q) b = under q.bid b.buys.elements + under q.ask b.sells.elements

abbrev pub resting_under : Call → ℕ → Book → ℕ
resting_under (order s t e k) n b = under_order n b
resting_under (quote q k) n b = under_legs b.quote b
resting_under (renew k) n b = under_legs b.quote b
resting_under (change c k) n b = under_order n b
resting_under (cancel c) n b = under_order n b
resting_under halt n b = 0
resting_under resume n b = 0
resting_under end n b = 0
resting_under resting n b = 0

-- an answer to a call, with its trades, the ledger's entries before and after it, and the book after it
pub record Accounted (c : Call) (a : Answer) (ts : List Trade) (l l' : Entries) (b' : Book) : Type 0 where
  pub traded : a.traded ≡ traded_lots ts
  pub counted : a.trades ≡ length ts
  pub resting : a.resting ≡ resting_under c a.number b'
  pub cancelled : cancelled_below b'.next l' ≡ cancelled_below b'.next l + a.cancelled
