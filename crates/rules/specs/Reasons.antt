-- Why a call is refused, in the words of the exchange's tables. Nothing here cites a test of the rules.
--   reasons     the reasons of each call, each with what must hold for it
--   Reasoned    a call is refused just where a reason holds, and then for the one with the lowest number
use Rattle.std.specs.Prelude.{◌≡◌, ℕ, ◌+◌, ◌-◌, ◌%◌, ◌<◌, ◌≤◌, false, ◌⊎◌, List, [], ◌∷◌, length, Some, None, Option, ◌≢◌}
use Rattle.terms.specs.Values.{refusal_number}
use Rattle.terms.specs.declared.message.OrderCancel.{OrderCancel}
use Rattle.terms.specs.declared.message.OrderChange.{OrderChange}
use Rattle.terms.specs.declared.message.OrderEntry.{OrderEntry}
use Rattle.terms.specs.declared.message.QuoteEntry.{QuoteEntry}
use Rattle.terms.specs.declared.refusal.Refusal.{Refusal}
use Rattle.terms.specs.declared.refusal.Refusal.TheVariants.{WrongPhase, BadMember, BadPrice, BadLots, BadSpread, BadQuoteLots, ShortTradeTable, NotResting, NotOwner, HaltedRise, BeyondRange, QuoteRests, TurnsUsedUp, QueueFull, AlreadyHeld}
use Rattle.terms.specs.declared.setup.Instrument.{Instrument}
use Rattle.terms.specs.declared.setup.Span.{Span}
use Rattle.terms.specs.declared.side.Side.{Side}
use Rattle.terms.specs.declared.side.Side.TheVariants.{Buy, Sell}
use Rattle.terms.specs.declared.side.TimeInForce.{TimeInForce}
use Rattle.terms.specs.declared.side.TimeInForce.TheVariants.{Day, Immediate}
use Rattle.orders.specs.declared.order.Found.{Found}
use Rattle.orders.specs.declared.order.Order.{Order}
use Rattle.price_range.specs.declared.band.Band.{Band}
use Rattle.rules.specs.Book.{Book, trading, halted, on, band}
use Rattle.rules.specs.Calls.{Call, order, quote, renew, change, cancel, halt, resume, end, resting, Outcome, refused, answered, lots}
use Rattle.rules.specs.Checks.{allows, found, bid_of, ask_of, without}
use Rattle.rules.specs.Laws.{Better}

pub record Reason : Type 1 where
  pub refusal : Refusal
  pub holds : Type 0

-- values
abbrev pub Between : ℕ → ℕ → ℕ → Type 0
Between a b n = (a ≤ n) × (n ≤ b)

abbrev pub In : Span → ℕ → Type 0
In s n = Between s.least s.greatest n

abbrev pub Member : ℕ → Type 0
Member m = Between 1 255 m

-- 1 to 100,000, and on the tick
abbrev pub Price : Instrument → ℕ → Type 0
Price i p = Between 1 100000 p × ((i.tick ≢ 0) × (p % i.tick ≡ 0))

abbrev pub Lots : ℕ → Type 0
Lots k = Between 1 10000000 k

-- the bid is below the ask, by a spread that is allowed
abbrev pub Spread : Instrument → QuoteEntry → Type 0
Spread i q = (q.bid_price < q.ask_price) × In i.spread (q.ask_price - q.bid_price)

-- the trade table has fewer places than both queues together
abbrev pub Short : ℕ → Book → Type 0
Short table b = table < b.buys.capacity + b.sells.capacity

-- there is no such turn
abbrev pub NoTurn : ℕ → Type 0
NoTurn turn = 1000000 < turn

-- some order of a list
abbrev pub SomeOf : (Order → Type 0) → List Order → Type 0
SomeOf P [] = ⊥
SomeOf P (o ∷ os) = P o ⊎ SomeOf P os

-- an order other than the excepted one
abbrev pub Other : Option ℕ → Order → Type 0
Other None o = Unit {0}
Other (Some n) o = o.number ≡ n → ⊥

-- such an order has the turn as its number or as its own turn
abbrev pub Taken : ℕ → Option ℕ → List Order → Type 0
Taken turn except = SomeOf (λ o. Other except o × ((o.number ≡ turn) ⊎ (o.turn ≡ turn)))

abbrev pub Full : ℕ → List Order → Type 0
Full capacity os = capacity ≤ length os

-- a leg rests
abbrev pub Rests : Option ℕ → List Order → Type 0
Rests None os = ⊥
Rests (Some n) os = SomeOf (λ o. o.number ≡ n) os

abbrev pub OfDay : TimeInForce → Type 0
OfDay Day = Unit {0}
OfDay Immediate = ⊥

-- the order that a call names was found, and is so
abbrev pub Finding : Option Found → (Found → Type 0) → Type 0
Finding None P = ⊥
Finding (Some f) P = P f

-- a price of a side that the range does not reach
abbrev pub Unreached : Side → ℕ → Option Band → Type 0
Unreached s p None = Unit {0}
Unreached Buy p (Some r) = r.high < p
Unreached Sell p (Some r) = p < r.low

-- the same price and no more lots
abbrev pub InPlace : OrderChange → Order → Type 0
InPlace c o = (c.price ≡ o.price) × (c.lots ≤ o.lots)

-- the reasons of each call
abbrev pub order_reasons : Side → TimeInForce → OrderEntry → ℕ → Book → List Reason
order_reasons s t e table b =
    record { refusal = BadMember; holds = Member e.member → ⊥ }
    ∷ (record { refusal = BadPrice; holds = Price b.terms e.price → ⊥ }
    ∷ (record { refusal = BadLots; holds = Lots e.lots → ⊥ }
    ∷ (record { refusal = ShortTradeTable; holds = Short table b }
    ∷ (record { refusal = TurnsUsedUp; holds = NoTurn b.next }
    ∷ (record { refusal = QueueFull; holds = OfDay t × Full (on s b).capacity (on s b).elements }
    ∷ (record { refusal = AlreadyHeld; holds = Taken b.next None (on s b).elements } ∷ []))))))

-- of a quote and a renewal: the old legs do not count
abbrev pub leg_reasons : Book → List Reason
leg_reasons b =
    record { refusal = TurnsUsedUp; holds = NoTurn (b.next + 1) }
    ∷ (record { refusal = QueueFull; holds = Full b.buys.capacity (without (bid_of b.quote) b.buys.elements) ⊎ Full b.sells.capacity (without (ask_of b.quote) b.sells.elements) }
    ∷ (record { refusal = AlreadyHeld; holds = Taken b.next (bid_of b.quote) b.buys.elements ⊎ Taken (b.next + 1) (ask_of b.quote) b.sells.elements } ∷ []))

abbrev pub quote_reasons : QuoteEntry → ℕ → Book → List Reason
quote_reasons q table b =
    record { refusal = BadPrice; holds = (Price b.terms q.bid_price → ⊥) ⊎ (Price b.terms q.ask_price → ⊥) }
    ∷ (record { refusal = BadLots; holds = (Lots q.bid_lots → ⊥) ⊎ (Lots q.ask_lots → ⊥) }
    ∷ (record { refusal = BadSpread; holds = Spread b.terms q → ⊥ }
    ∷ (record { refusal = BadQuoteLots; holds = (In b.terms.quote_lots q.bid_lots → ⊥) ⊎ (In b.terms.quote_lots q.ask_lots → ⊥) }
    ∷ (record { refusal = ShortTradeTable; holds = Short table b } ∷ leg_reasons b))))

abbrev pub renew_reasons : ℕ → Book → List Reason
renew_reasons table b =
    record { refusal = ShortTradeTable; holds = Short table b }
    ∷ (record { refusal = QuoteRests; holds = Rests (bid_of b.quote) b.buys.elements × Rests (ask_of b.quote) b.sells.elements } ∷ leg_reasons b)

abbrev pub named_reasons : ℕ → Option Found → List Reason → List Reason
named_reasons member f rs =
    record { refusal = NotResting; holds = f ≡ None } ∷ (record { refusal = NotOwner; holds = Finding f (λ g. g.order.member ≢ member) } ∷ rs)

abbrev pub change_reasons : OrderChange → ℕ → Book → Option Found → List Reason
change_reasons c table b f =
    record { refusal = BadMember; holds = Member c.member → ⊥ }
    ∷ (record { refusal = BadPrice; holds = Price b.terms c.price → ⊥ }
    ∷ (record { refusal = BadLots; holds = Lots c.lots → ⊥ }
    ∷ (record { refusal = ShortTradeTable; holds = (b.phase ≡ trading) × Short table b }
    ∷ named_reasons c.member f
    (record { refusal = HaltedRise; holds = (b.phase ≡ halted) × Finding f (λ g. Better g.side c.price g.order.price ⊎ (g.order.lots < c.lots)) }
    ∷ (record { refusal = BeyondRange; holds = (b.phase ≡ trading) × Finding f (λ g. Better g.side c.price g.order.price × Unreached g.side c.price (band b)) }
    ∷ (record { refusal = TurnsUsedUp; holds = Finding f (λ g. (InPlace c g.order → ⊥) × NoTurn b.next) }
    ∷ (record { refusal = AlreadyHeld; holds = Finding f (λ g. (InPlace c g.order → ⊥) × Taken b.next (Some g.order.number) (on g.side b).elements) } ∷ [])))))))

abbrev pub cancel_reasons : OrderCancel → Option Found → List Reason
cancel_reasons c f = record { refusal = BadMember; holds = Member c.member → ⊥ } ∷ named_reasons c.member f []

abbrev pub own_reasons : Call → Book → List Reason
own_reasons (order s t e k) b = order_reasons s t e k b
own_reasons (quote q k) b = quote_reasons q k b
own_reasons (renew k) b = renew_reasons k b
own_reasons (change c k) b = change_reasons c k b (found b c.order)
own_reasons (cancel c) b = cancel_reasons c (found b c.order)
own_reasons halt b = []
own_reasons resume b = []
own_reasons end b = []
own_reasons resting b = []

-- and of every call, that the phase does not allow it
abbrev pub reasons : Call → Book → List Reason
reasons c b = record { refusal = WrongPhase; holds = allows b.phase c ≡ false } ∷ own_reasons c b

-- the refusal is one of the reasons, and what it says holds
abbrev pub Holds : Refusal → List Reason → Type 0
Holds r [] = ⊥
Holds r (x ∷ xs) = ((x.refusal ≡ r) × x.holds) ⊎ Holds r xs

abbrev pub Reasoned : Call → Book → Outcome → Type 0
Reasoned c b (refused r) = Holds r (reasons c b) × ((r' : Refusal) → Holds r' (reasons c b) → refusal_number r ≤ refusal_number r')
Reasoned c b (answered a) = (r : Refusal) → Holds r (reasons c b) → ⊥
Reasoned c b (lots m n) = (r : Refusal) → Holds r (reasons c b) → ⊥
