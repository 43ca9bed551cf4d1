-- Calls, replies and phases of any kind, as the rules see them.
use Rattle.std.specs.Prelude.{ℕ, Bool, true, false, List, [], ◌∷◌, Ok, Err, Result}
use Rattle.terms.specs.declared.message.Message.{Message}
use Rattle.terms.specs.declared.message.Message.TheVariants as message
use Rattle.terms.specs.declared.refusal.Refusal.{Refusal}
use Rattle.terms.specs.declared.side.Side.{Side}
use Rattle.terms.specs.declared.side.Side.TheVariants.{Buy, Sell}
use Rattle.terms.specs.declared.side.TimeInForce.TheVariants.{Day, Immediate}
use Rattle.queue.specs.Held.{Held}
use Rattle.orders.specs.declared.order.Order.{Order}
use Rattle.rules.specs.Book as book
use Rattle.rules.specs.Calls as calls
use Rattle.book.specs.Books.{waiting_book, trading_book, halted_book, closed_book}
use Rattle.book.specs.declared.call.Call.{Call}
use Rattle.book.specs.declared.call.Call.TheVariants as call
use Rattle.book.specs.declared.call.Phase.{Phase}
use Rattle.book.specs.declared.call.Phase.TheVariants as phase
use Rattle.book.specs.declared.call.Reply.{Reply}
use Rattle.book.specs.declared.call.Reply.TheVariants as reply

-- a message with the length of the trade table
abbrev pub message_of : Message → ℕ → calls.Call
message_of (message.Buy o) n = calls.order Buy Day o n
message_of (message.Sell o) n = calls.order Sell Day o n
message_of (message.ImmediateBuy o) n = calls.order Buy Immediate o n
message_of (message.ImmediateSell o) n = calls.order Sell Immediate o n
message_of (message.Change c) n = calls.change c n
message_of (message.Cancel c) n = calls.cancel c
message_of (message.Quote q) n = calls.quote q n
message_of message.Renew n = calls.renew n
message_of message.Halt n = calls.halt
message_of message.Resume n = calls.resume
message_of message.End n = calls.end

abbrev pub call_of : Call → ℕ → calls.Call
call_of (call.Message m) n = message_of m n
call_of call.Resting n = calls.resting

abbrev pub calls_of : List Call → ℕ → List calls.Call
calls_of [] n = []
calls_of (c ∷ cs) n = call_of c n ∷ calls_of cs n

abbrev pub reply_of : Reply → calls.Outcome
reply_of (reply.Answer a) = calls.answered a
reply_of (reply.Resting m n) = calls.lots m n

abbrev pub replied : Result Reply Refusal → calls.Outcome
replied (Ok r) = reply_of r
replied (Err e) = calls.refused e

abbrev pub phase_book : Phase → (Side → Held Order) → book.Answers → book.Book
phase_book (phase.Waiting p) = waiting_book p
phase_book (phase.Trading p) = trading_book p
phase_book (phase.Halted p) = halted_book p
phase_book (phase.Closed p) = closed_book p

-- a message after which a trading book trades on
abbrev pub stays : Message → Bool
stays (message.Buy o) = true
stays (message.Sell o) = true
stays (message.ImmediateBuy o) = true
stays (message.ImmediateSell o) = true
stays (message.Change c) = true
stays (message.Cancel c) = true
stays (message.Quote q) = true
stays message.Renew = true
stays message.Halt = false
stays message.Resume = false
stays message.End = false
