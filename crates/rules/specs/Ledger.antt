-- The ledger of a day, as a clearing office keeps it: fed with the arguments of each call, whether it was refused, and its trades.
--   Entry, Ledger         what it holds
--   enter, drop, deal     lots come in, are cancelled, are traded
--   opens, closes         what a call brings about before its trades and after them
--   ledger                the ledger after a list of events
use Rattle.std.specs.Prelude.{ℕ, ◌+◌, ◌-◌, Bool, true, false, cond, ◌&&◌, List, [], ◌∷◌, Some, None, Option, ◌==◌, nat_le, nat_lt}
use Rattle.terms.specs.declared.message.OrderChange.{OrderChange}
use Rattle.terms.specs.declared.message.QuoteEntry.{QuoteEntry}
use Rattle.terms.specs.declared.message.Quoted.{Quoted}
use Rattle.terms.specs.declared.side.Side.{Side}
use Rattle.terms.specs.declared.side.Side.TheVariants.{Buy, Sell}
use Rattle.terms.specs.declared.side.TimeInForce.{TimeInForce}
use Rattle.terms.specs.declared.side.TimeInForce.TheVariants.{Day, Immediate}
use Rattle.terms.specs.declared.trade.Trade.{Trade}
use Rattle.price_range.specs.declared.band.Band.{Band}
use Rattle.rules.specs.Book.{Answers}
use Rattle.rules.specs.Calls.{Call, order, quote, renew, change, cancel, halt, resume, end, resting, Outcome, refused, answered, lots, Event}

-- what is known of a number
pub record Entry : Type 0 where
  pub side : Side
  pub limit : ℕ
  pub turn : ℕ
  pub entered : ℕ
  pub traded : ℕ
  pub cancelled : ℕ

-- the next turn, the last quote, the range after the bids and asks so far, and an entry for each number
pub record Ledger : Type 0 where
  pub next : ℕ
  pub quote : Option Quoted
  pub range : Answers
  pub entry : ℕ → Entry

abbrev pub blank : Entry
blank = record { side = Buy; limit = 0; turn = 0; entered = 0; traded = 0; cancelled = 0 }

-- what is left of a number
abbrev pub left : Entry → ℕ
left e = e.entered - (e.traded + e.cancelled)

-- x at the number n, and y elsewhere
unfoldable pub at : {A : Type 0} → ℕ → ℕ → A → A → A
at n m x y = cond (m == n) x y

abbrev pub Entries : Type 0
Entries = ℕ → Entry

-- k lots of the number n come in, at a side, limit and turn
abbrev pub enter : ℕ → Side → ℕ → ℕ → ℕ → Entries → Entries
enter n s p t k l m =
    record {
      side = at n m s (l m).side;
      limit = at n m p (l m).limit;
      turn = at n m t (l m).turn;
      entered = (l m).entered + at n m k 0;
      traded = (l m).traded;
      cancelled = (l m).cancelled;
    }

-- k lots of the number n are cancelled
abbrev pub drop : ℕ → ℕ → Entries → Entries
drop n k l m =
    record {
      side = (l m).side;
      limit = (l m).limit;
      turn = (l m).turn;
      entered = (l m).entered;
      traded = (l m).traded;
      cancelled = (l m).cancelled + at n m k 0;
    }

-- all that is left of it is
abbrev pub drop_orders : ℕ → Entries → Entries
drop_orders n l = drop n (left (l n)) l

-- a trade counts for both parties
abbrev pub trade_of : ℕ → ℕ → Entries → Entries
trade_of n k l m =
    record {
      side = (l m).side;
      limit = (l m).limit;
      turn = (l m).turn;
      entered = (l m).entered;
      traded = (l m).traded + at n m k 0;
      cancelled = (l m).cancelled;
    }

abbrev pub deal : Trade → Entries → Entries
deal t l = trade_of t.seller t.lots (trade_of t.buyer t.lots l)

abbrev pub deals : List Trade → Entries → Entries
deals [] l = l
deals (t ∷ ts) l = deals ts (deal t l)

-- a ledger with other entries, and one that has given out a turn
abbrev pub keeping : Ledger → Entries → Ledger
keeping l es = record { next = l.next; quote = l.quote; range = l.range; entry = es }

abbrev pub taking : Ledger → Entries → Ledger
taking l es = record { next = l.next + 1; quote = l.quote; range = l.range; entry = es }

-- both legs of a quote
abbrev pub drop_legs : Option Quoted → Entries → Entries
drop_legs None l = l
drop_legs (Some q) l = drop_orders q.ask (drop_orders q.bid l)

abbrev pub enter_legs : QuoteEntry → ℕ → Entries → Entries
enter_legs q n l =
    enter (n + 1) Sell q.ask_price (n + 1) q.ask_lots (enter n Buy q.bid_price n q.bid_lots l)

abbrev pub opens_quote : QuoteEntry → Ledger → Ledger
opens_quote q l =
    record {
      next = l.next + 2;
      quote = Some (record { entry = q; bid = l.next; ask = l.next + 1 });
      range = λ us. l.range (record { bid = q.bid_price; ask = q.ask_price } ∷ us);
      entry = enter_legs q l.next (drop_legs l.quote l.entry);
    }

abbrev pub opens_renewal : Option Quoted → Ledger → Ledger
opens_renewal None l = l
opens_renewal (Some q) l = opens_quote q.entry l

-- the same price and no more lots keep the place: lots come off. Else lots come in or off, and limit and turn are new
abbrev pub keeps_place : OrderChange → Entry → Bool
keeps_place c e = c.price == e.limit && nat_le c.lots (left e)

abbrev pub resize : ℕ → ℕ → Entries → Entries
resize n k l m =
    record {
      side = (l m).side;
      limit = (l m).limit;
      turn = (l m).turn;
      entered = (l m).entered + at n m (k - left (l n)) 0;
      traded = (l m).traded;
      cancelled = (l m).cancelled + at n m (left (l n) - k) 0;
    }

abbrev pub replace : ℕ → ℕ → ℕ → Entries → Entries
replace n p t l m =
    record {
      side = (l m).side;
      limit = at n m p (l m).limit;
      turn = at n m t (l m).turn;
      entered = (l m).entered;
      traded = (l m).traded;
      cancelled = (l m).cancelled;
    }

abbrev pub opens_change : OrderChange → Ledger → Ledger
opens_change c l =
    cond (keeps_place c (l.entry c.order)) (keeping l (resize c.order c.lots l.entry))
    (taking l (replace c.order c.price l.next (resize c.order c.lots l.entry)))

-- before the trades
abbrev pub opens : Call → Ledger → Ledger
opens (order s t e k) l = taking l (enter l.next s e.price l.next e.lots l.entry)
opens (quote q k) l = opens_quote q l
opens (renew k) l = opens_renewal l.quote l
opens (change c k) l = opens_change c l
opens (cancel c) l = keeping l (drop_orders c.order l.entry)
opens halt l = l
opens resume l = l
opens end l = keeping l (λ m. drop m (left (l.entry m)) l.entry m)
opens resting l = l

-- the remainder of an order is cancelled: it is immediate, or a buy above the high, or a sell below the low
abbrev pub above_high : ℕ → Option Band → Bool
above_high p None = false
above_high p (Some r) = nat_lt r.high p

abbrev pub below_low : ℕ → Option Band → Bool
below_low p None = false
below_low p (Some r) = nat_lt p r.low

abbrev pub lapses : TimeInForce → Side → ℕ → Option Band → Bool
lapses Immediate s p r = true
lapses Day Buy p r = above_high p r
lapses Day Sell p r = below_low p r

-- after the trades, of the ledger before the call
abbrev pub closes : Call → Ledger → Entries → Entries
closes (order s t e k) l es = cond (lapses t s e.price (l.range [])) (drop_orders l.next es) es
closes (quote q k) l es = es
closes (renew k) l es = es
closes (change c k) l es = es
closes (cancel c) l es = es
closes halt l es = es
closes resume l es = es
closes end l es = es
closes resting l es = es

-- an accepted call
abbrev pub posts : Call → List Trade → Ledger → Ledger
posts c ts l = keeping (opens c l) (closes c l (deals ts (opens c l).entry))

-- a refused call and a question change nothing
abbrev pub by_outcome : {A : Type 0} → Outcome → A → A → A
by_outcome (refused r) x y = y
by_outcome (answered a) x y = x
by_outcome (lots m n) x y = y

abbrev pub posted : Event → Ledger → Ledger
posted e l = by_outcome e.outcome (posts e.call e.trades l) l

-- it starts from the range's meaning at opening
abbrev pub ledger : Answers → List Event → Ledger
ledger ρ [] = record { next = 1; quote = None; range = ρ; entry = λ m. blank }
ledger ρ (e ∷ h) = posted e (ledger ρ h)
