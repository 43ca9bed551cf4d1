-- Why a call is refused: each call's tests, in the order in which they are made.
use Rattle.std.specs.Prelude.{ℕ, ◌+◌, ◌-◌, ◌%◌, Bool, true, false, cond, not, ◌&&◌, ◌||◌, List, [], ◌∷◌, length, Some, None, Option, ◌==◌, nat_le, nat_lt}
use Rattle.terms.specs.Setups.{within}
use Rattle.terms.specs.declared.message.OrderCancel.{OrderCancel}
use Rattle.terms.specs.declared.message.OrderChange.{OrderChange}
use Rattle.terms.specs.declared.message.OrderEntry.{OrderEntry}
use Rattle.terms.specs.declared.message.QuoteEntry.{QuoteEntry}
use Rattle.terms.specs.declared.message.Quoted.{Quoted}
use Rattle.terms.specs.declared.refusal.Refusal.{Refusal}
use Rattle.terms.specs.declared.refusal.Refusal.TheVariants.{WrongPhase, BadMember, BadPrice, BadLots, BadSpread, BadQuoteLots, ShortTradeTable, NotResting, NotOwner, HaltedRise, BeyondRange, QuoteRests, TurnsUsedUp, QueueFull, AlreadyHeld}
use Rattle.terms.specs.declared.setup.Instrument.{Instrument}
use Rattle.terms.specs.declared.setup.Span.{Span}
use Rattle.terms.specs.declared.side.Side.{Side}
use Rattle.terms.specs.declared.side.Side.TheVariants.{Buy, Sell}
use Rattle.terms.specs.declared.side.TimeInForce.{TimeInForce}
use Rattle.terms.specs.declared.side.TimeInForce.TheVariants.{Day, Immediate}
use Rattle.queue.specs.Held.{Held, any, first, is, numbered, remove, takes}
use Rattle.orders.specs.Priority.{rank_of}
use Rattle.orders.specs.declared.order.Found.{Found}
use Rattle.orders.specs.declared.order.Order.{Order}
use Rattle.price_range.specs.declared.band.Band.{Band}
use Rattle.rules.specs.Book.{Book, Phase, waiting, trading, halted, closed, on, band}
use Rattle.rules.specs.Calls.{Call, order, quote, renew, change, cancel, halt, resume, end, resting}
use Rattle.rules.specs.Meeting.{beyond}

-- a reason, and whether it holds
abbrev pub Check : Type 0
Check = Refusal × Bool

abbrev pub first_of : List Check → Option Refusal
first_of [] = None
first_of ((r, holds) ∷ cs) = cond holds (Some r) (first_of cs)

-- values
abbrev pub bad_member : ℕ → Bool
bad_member m = not (within 1 255 m)

abbrev pub on_tick : Instrument → ℕ → Bool
on_tick i p = not (i.tick == 0) && p % i.tick == 0

abbrev pub bad_price : Instrument → ℕ → Bool
bad_price i p = not (within 1 100000 p && on_tick i p)

abbrev pub bad_lots : ℕ → Bool
bad_lots k = not (within 1 10000000 k)

abbrev pub outside : Span → ℕ → Bool
outside s n = not (within s.least s.greatest n)

abbrev pub bad_spread : Instrument → QuoteEntry → Bool
bad_spread i q = nat_le q.ask_price q.bid_price || outside i.spread (q.ask_price - q.bid_price)

abbrev pub bad_quote_lots : Instrument → QuoteEntry → Bool
bad_quote_lots i q = outside i.quote_lots q.bid_lots || outside i.quote_lots q.ask_lots

-- the book
abbrev pub short_table : ℕ → Book → Bool
short_table table b = nat_lt table (b.buys.capacity + b.sells.capacity)

-- fewer than k turns are left of those up to 1,000,000
abbrev pub turns_used_up : ℕ → ℕ → Bool
turns_used_up k next = nat_lt 1000001 (next + k)

abbrev pub full : ℕ → List Order → Bool
full capacity os = nat_le capacity (length os)

-- a turn is the number or the key of an order of the side, other than the excepted one
abbrev pub taken : Side → ℕ → Option ℕ → Book → Bool
taken s turn except b = any (takes (rank_of s) turn except) (on s b).elements

-- what an order asks of its own side
abbrev pub place_checks : Bool → Side → ℕ → Held Order → List Check
place_checks immediate s turn h =
    (QueueFull, not immediate && full h.capacity h.elements) ∷ ((AlreadyHeld, any (takes (rank_of s) turn None) h.elements) ∷ [])

-- an order that rests, and its side; the buys are asked first
abbrev pub found_in : Option Order → Option Order → Option Found
found_in (Some o) p = Some (record { side = Buy; order = o })
found_in None (Some o) = Some (record { side = Sell; order = o })
found_in None None = None

abbrev pub found : Book → ℕ → Option Found
found b n = found_in (numbered (rank_of Buy) b.buys n) (numbered (rank_of Sell) b.sells n)

abbrev pub is_none : {A : Type 0} → Option A → Bool
is_none None = true
is_none (Some a) = false

abbrev pub if_found : Option Found → (Found → Bool) → Bool
if_found None test = false
if_found (Some f) test = test f

abbrev pub not_owner : ℕ → Found → Bool
not_owner member f = not (f.order.member == member)

-- a buy goes up or a sell goes down
abbrev pub improves : Side → ℕ → ℕ → Bool
improves Buy was p = nat_lt was p
improves Sell was p = nat_lt p was

-- the price cannot trade: there is no band, or it lies beyond it
abbrev pub out_of_reach : Side → ℕ → Option Band → Bool
out_of_reach s p None = true
out_of_reach s p (Some r) = beyond s p (Some r)

abbrev pub rises : OrderChange → Found → Bool
rises c f = improves f.side f.order.price c.price || nat_lt f.order.lots c.lots

abbrev pub beyond_range : OrderChange → Option Band → Found → Bool
beyond_range c r f = improves f.side f.order.price c.price && out_of_reach f.side c.price r

-- the same price and no more lots
abbrev pub keeps_place : OrderChange → Order → Bool
keeps_place c o = c.price == o.price && nat_le c.lots o.lots

abbrev pub change_takes : OrderChange → Book → Found → Bool
change_takes c b f = not (keeps_place c f.order) && taken f.side b.next (Some f.order.number) b

abbrev pub change_needs_turn : OrderChange → Book → Found → Bool
change_needs_turn c b f = not (keeps_place c f.order) && turns_used_up 1 b.next

-- the numbers of the last quote's legs
abbrev pub bid_of : Option Quoted → Option ℕ
bid_of None = None
bid_of (Some q) = Some q.bid

abbrev pub ask_of : Option Quoted → Option ℕ
ask_of None = None
ask_of (Some q) = Some q.ask

-- a side without a leg, and the lots of it
abbrev pub without : Option ℕ → List Order → List Order
without None os = os
without (Some n) os = remove (is (λ o. o.number) n) os

abbrev pub lots_of : Option Order → ℕ
lots_of None = 0
lots_of (Some o) = o.lots

abbrev pub lots_under : ℕ → List Order → ℕ
lots_under n os = lots_of (first (is (λ o. o.number) n) os)

abbrev pub leg_lots : Option ℕ → List Order → ℕ
leg_lots None os = 0
leg_lots (Some n) os = lots_under n os

abbrev pub holds : Option ℕ → List Order → Bool
holds None os = false
holds (Some n) os = any (is (λ o. o.number) n) os

abbrev pub both_rest : Book → Bool
both_rest b = holds (bid_of b.quote) b.buys.elements && holds (ask_of b.quote) b.sells.elements

abbrev pub full_without : Option ℕ → Held Order → Bool
full_without leg h = full h.capacity (without leg h.elements)

-- what the legs of a quote ask of the book, the old legs not counted
abbrev pub leg_checks : ℕ → Option Quoted → Held Order → Held Order → List Check
leg_checks next old buys sells =
    (TurnsUsedUp, turns_used_up 2 next)
    ∷ ((QueueFull, full_without (bid_of old) buys || full_without (ask_of old) sells)
    ∷ ((AlreadyHeld, any (takes (rank_of Buy) next (bid_of old)) buys.elements || any (takes (rank_of Sell) (next + 1) (ask_of old)) sells.elements) ∷ []))

-- which phase allows which call: waiting, trading, halted, closed
abbrev pub in_phase : Phase → Bool → Bool → Bool → Bool → Bool
in_phase waiting w t h c = w
in_phase trading w t h c = t
in_phase halted w t h c = h
in_phase closed w t h c = c

abbrev pub allows : Phase → Call → Bool
allows p (order s t e k) = in_phase p false true false false
allows p (quote q k) = in_phase p true true false false
allows p (renew k) = in_phase p false true false false
allows p (change c k) = in_phase p false true true false
allows p (cancel c) = in_phase p false true true false
allows p halt = in_phase p false true false false
allows p resume = in_phase p false false true false
allows p end = in_phase p true true true false
allows p resting = in_phase p true true true true

abbrev pub is_immediate : TimeInForce → Bool
is_immediate Day = false
is_immediate Immediate = true

abbrev pub order_checks : Side → TimeInForce → OrderEntry → ℕ → Book → List Check
order_checks s t e table b =
    (BadMember, bad_member e.member)
    ∷ ((BadPrice, bad_price b.terms e.price)
    ∷ ((BadLots, bad_lots e.lots)
    ∷ ((ShortTradeTable, short_table table b)
    ∷ ((TurnsUsedUp, turns_used_up 1 b.next) ∷ place_checks (is_immediate t) s b.next (on s b)))))

abbrev pub quote_checks : QuoteEntry → ℕ → Book → List Check
quote_checks q table b =
    (BadPrice, bad_price b.terms q.bid_price || bad_price b.terms q.ask_price)
    ∷ ((BadLots, bad_lots q.bid_lots || bad_lots q.ask_lots)
    ∷ ((BadSpread, bad_spread b.terms q)
    ∷ ((BadQuoteLots, bad_quote_lots b.terms q) ∷ ((ShortTradeTable, short_table table b) ∷ leg_checks b.next b.quote b.buys b.sells))))

abbrev pub renew_checks : ℕ → Book → List Check
renew_checks table b = (ShortTradeTable, short_table table b) ∷ ((QuoteRests, both_rest b) ∷ leg_checks b.next b.quote b.buys b.sells)

abbrev pub is_trading : Phase → Bool
is_trading p = in_phase p false true false false

abbrev pub is_halted : Phase → Bool
is_halted p = in_phase p false false true false

-- what is asked of the order that a change names, and of its new turn
abbrev pub found_checks : OrderChange → Option Found → Book → List Check
found_checks c f b =
    (NotResting, is_none f)
    ∷ ((NotOwner, if_found f (not_owner c.member))
    ∷ ((HaltedRise, is_halted b.phase && if_found f (rises c))
    ∷ ((BeyondRange, is_trading b.phase && if_found f (beyond_range c (band b)))
    ∷ ((TurnsUsedUp, if_found f (change_needs_turn c b)) ∷ ((AlreadyHeld, if_found f (change_takes c b)) ∷ [])))))

abbrev pub change_checks : OrderChange → ℕ → Book → List Check
change_checks c table b =
    (BadMember, bad_member c.member)
    ∷ ((BadPrice, bad_price b.terms c.price)
    ∷ ((BadLots, bad_lots c.lots)
    ∷ ((ShortTradeTable, is_trading b.phase && short_table table b) ∷ found_checks c (found b c.order) b)))

abbrev pub cancel_checks : OrderCancel → Option Found → List Check
cancel_checks c f = (BadMember, bad_member c.member) ∷ ((NotResting, is_none f) ∷ ((NotOwner, if_found f (not_owner c.member)) ∷ []))

abbrev pub value_checks : Call → Book → List Check
value_checks (order s t e k) b = order_checks s t e k b
value_checks (quote q k) b = quote_checks q k b
value_checks (renew k) b = renew_checks k b
value_checks (change c k) b = change_checks c k b
value_checks (cancel c) b = cancel_checks c (found b c.order)
value_checks halt b = []
value_checks resume b = []
value_checks end b = []
value_checks resting b = []

abbrev pub checks : Call → Book → List Check
checks c b = (WrongPhase, not (allows b.phase c)) ∷ value_checks c b
