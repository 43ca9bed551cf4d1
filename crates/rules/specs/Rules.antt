-- What each call answers and leaves, and the days that follow from it.
use Rattle.std.specs.Prelude.{◌≡◌, ℕ, ◌+◌, ◌-◌, ◌≤◌, Bool, true, false, cond, List, [], ◌∷◌, ◌++◌, length, drop, Some, None, Option}
use Rattle.terms.specs.Setups.{instrument_allowed}
use Rattle.terms.specs.declared.message.OrderCancel.{OrderCancel}
use Rattle.terms.specs.declared.message.OrderChange.{OrderChange}
use Rattle.terms.specs.declared.message.OrderEntry.{OrderEntry}
use Rattle.terms.specs.declared.message.QuoteEntry.{QuoteEntry}
use Rattle.terms.specs.declared.message.Quoted.{Quoted}
use Rattle.terms.specs.declared.refusal.Refusal.{Refusal}
use Rattle.terms.specs.declared.setup.Instrument.{Instrument}
use Rattle.terms.specs.declared.side.Side.{Side}
use Rattle.terms.specs.declared.side.Side.TheVariants.{Buy, Sell}
use Rattle.terms.specs.declared.side.TimeInForce.{TimeInForce}
use Rattle.terms.specs.declared.trade.Trade.{Trade}
use Rattle.queue.specs.Held.{remove, is, change as change_first}
use Rattle.orders.specs.Priority.{with_lots}
use Rattle.orders.specs.declared.order.Found.{Found}
use Rattle.orders.specs.declared.order.Order.{Order}
use Rattle.price_range.specs.Bands.{Update}
use Rattle.price_range.specs.declared.band.Band.{Band}
use Rattle.rules.specs.Book.{Book, Phase, waiting, trading, halted, closed, Answers, told, on, other, pick, holding, band, resting_lots, traded_lots}
use Rattle.rules.specs.Calls.{Call, order, quote, renew, change, cancel, halt, resume, end, resting, Outcome, refused, answered, lots, Event}
use Rattle.rules.specs.Checks.{found, keeps_place, bid_of, ask_of, without, lots_under, leg_lots, first_of, checks, is_trading}
use Rattle.rules.specs.Meeting.{lapses, enter, Entered, joined, sweep, Swept}

-- an outcome, the trades, and the book after
pub record Ruled : Type 0 where
  pub outcome : Outcome
  pub trades : List Trade
  pub book : Book

-- the book with another next turn, and other orders on the side and on the opposite one
abbrev pub laid : Side → ℕ → Book → List Order → List Order → Book
laid s next b own opposite =
    record {
      phase = b.phase;
      terms = b.terms;
      next = next;
      quote = b.quote;
      buys = holding b.buys (pick s own opposite);
      sells = holding b.sells (pick s opposite own);
      range = b.range;
    }

abbrev pub moved : Phase → Book → Book
moved p b =
    record { phase = p; terms = b.terms; next = b.next; quote = b.quote; buys = b.buys; sells = b.sells; range = b.range }

-- an order takes the next turn and meets the other side
abbrev pub entering : OrderEntry → ℕ → Order
entering e n = record { number = n; member = e.member; price = e.price; lots = e.lots; turn = n }

abbrev pub entered : Side → Book → ℕ → ℕ → Entered → Ruled
entered s b number cancelled x =
    record {
      outcome = answered (record { number = number; traded = traded_lots x.trades; resting = x.resting; cancelled = cancelled; trades = length x.trades });
      trades = x.trades;
      book = laid s (b.next + 1) b x.own x.opposite;
    }

abbrev pub order_entered : Side → TimeInForce → OrderEntry → Book → Entered
order_entered s t e b =
    enter (band b) (lapses t s e.price (band b)) s (entering e b.next) (on s b).elements (on (other s) b).elements

abbrev pub ordered : Side → TimeInForce → OrderEntry → Book → Ruled
ordered s t e b = entered s b b.next (order_entered s t e b).cancelled (order_entered s t e b)

-- the old legs go, the range is told, both new legs rest, and what can meet does
abbrev pub bid_leg : QuoteEntry → ℕ → Order
bid_leg q n = record { number = n; member = 0; price = q.bid_price; lots = q.bid_lots; turn = n }

abbrev pub ask_leg : QuoteEntry → ℕ → Order
ask_leg q n = record { number = n; member = 0; price = q.ask_price; lots = q.ask_lots; turn = n }

abbrev pub update_of : QuoteEntry → Update
update_of q = record { bid = q.bid_price; ask = q.ask_price }

abbrev pub quoted_buys : QuoteEntry → Book → List Order
quoted_buys q b = joined Buy (bid_leg q b.next) (without (bid_of b.quote) b.buys.elements)

abbrev pub quoted_sells : QuoteEntry → Book → List Order
quoted_sells q b = joined Sell (ask_leg q (b.next + 1)) (without (ask_of b.quote) b.sells.elements)

abbrev pub quote_swept : QuoteEntry → Book → Swept
quote_swept q b = sweep (b.range (update_of q ∷ [])) (quoted_buys q b) (quoted_sells q b)

abbrev pub quoted : QuoteEntry → Book → Ruled
quoted q b =
    let w = quote_swept q b in
    record {
      outcome = answered (record {
        number = b.next;
        traded = traded_lots w.trades;
        resting = lots_under b.next w.buys + lots_under (b.next + 1) w.sells;
        cancelled = leg_lots (bid_of b.quote) b.buys.elements + leg_lots (ask_of b.quote) b.sells.elements;
        trades = length w.trades;
      });
      trades = w.trades;
      book = record {
        phase = trading;
        terms = b.terms;
        next = b.next + 2;
        quote = Some (record { entry = q; bid = b.next; ask = b.next + 1 });
        buys = holding b.buys w.buys;
        sells = holding b.sells w.sells;
        range = told (update_of q) b.range;
      };
    }

-- the last quote again; a book that was never quoted does not come to trade
abbrev pub unchanged : Book → Ruled
unchanged b = record { outcome = answered (record { number = 0; traded = 0; resting = 0; cancelled = 0; trades = 0 }); trades = []; book = b }

abbrev pub renewed : Option Quoted → Book → Ruled
renewed None b = unchanged b
renewed (Some q) b = quoted q.entry b

-- the same price and no more lots: lots come off in place; else the order is taken out, takes a new turn and meets, but not in a halt
abbrev pub meeting_band : Phase → Option Band → Option Band
meeting_band p r = cond (is_trading p) r None

abbrev pub changing : OrderChange → Order → ℕ → Order
changing c o n = record { number = c.order; member = o.member; price = c.price; lots = c.lots; turn = n }

abbrev pub number_is : ℕ → Order → Bool
number_is n = is (λ o. o.number) n

abbrev pub lowered : OrderChange → List Order → List Order
lowered c os = change_first (number_is c.order) (λ p. with_lots p c.lots) os

abbrev pub cut_in_place : OrderChange → Found → Book → Ruled
cut_in_place c f b =
    record {
      outcome = answered (record { number = c.order; traded = 0; resting = c.lots; cancelled = f.order.lots - c.lots; trades = 0 });
      trades = [];
      book = laid f.side b.next b (lowered c (on f.side b).elements) (on (other f.side) b).elements;
    }

abbrev pub change_entered : OrderChange → Found → Book → Entered
change_entered c f b =
    enter (meeting_band b.phase (band b)) false f.side (changing c f.order b.next) (remove (number_is c.order) (on f.side b).elements) (on (other f.side) b).elements

abbrev pub reentered : OrderChange → Found → Book → Ruled
reentered c f b = entered f.side b c.order (f.order.lots - c.lots) (change_entered c f b)

abbrev pub changed : OrderChange → Option Found → Book → Ruled
changed c None b = unchanged b
changed c (Some f) b = cond (keeps_place c f.order) (cut_in_place c f b) (reentered c f b)

abbrev pub cancelled : OrderCancel → Option Found → Book → Ruled
cancelled c None b = unchanged b
cancelled c (Some f) b =
    record {
      outcome = answered (record { number = c.order; traded = 0; resting = 0; cancelled = f.order.lots; trades = 0 });
      trades = [];
      book = laid f.side b.next b (remove (number_is c.order) (on f.side b).elements) (on (other f.side) b).elements;
    }

abbrev pub step_to : Phase → Book → Ruled
step_to p b = record { outcome = (unchanged b).outcome; trades = []; book = moved p b }

abbrev pub ended : Book → Ruled
ended b =
    record {
      outcome = answered (record { number = 0; traded = 0; resting = 0; cancelled = resting_lots b.buys.elements + resting_lots b.sells.elements; trades = 0 });
      trades = [];
      book = moved closed (laid Buy b.next b [] []);
    }

abbrev pub asked : Book → Ruled
asked b = record { outcome = lots (resting_lots b.buys.elements) (resting_lots b.sells.elements); trades = []; book = b }

abbrev pub accepted : Call → Book → Ruled
accepted (order s t e k) b = ordered s t e b
accepted (quote q k) b = quoted q b
accepted (renew k) b = renewed b.quote b
accepted (change c k) b = changed c (found b c.order) b
accepted (cancel c) b = cancelled c (found b c.order) b
accepted halt b = step_to halted b
accepted resume b = step_to waiting b
accepted end b = ended b
accepted resting b = asked b

abbrev pub unless_refused : Option Refusal → Book → Ruled → Ruled
unless_refused (Some r) b x = record { outcome = refused r; trades = []; book = b }
unless_refused None b x = x

abbrev pub rule : Call → Book → Ruled
rule c b = unless_refused (first_of (checks c b)) b (accepted c b)

-- a day: an accepted opening, and then calls by the rules; the newest event stands first
abbrev pub opening : Instrument → ℕ → ℕ → Answers → Book
opening i m n ρ =
    record {
      phase = waiting;
      terms = i;
      next = 1;
      quote = None;
      buys = record { capacity = m; elements = [] };
      sells = record { capacity = n; elements = [] };
      range = ρ;
    }

abbrev pub event_of : Call → Ruled → Event
event_of c x = record { call = c; outcome = x.outcome; trades = x.trades }

pub data Day (ρ : Answers) : List Event → Book → Type 0 where
  opened : (i : Instrument) (m n : ℕ) → instrument_allowed i ≡ true → (1 ≤ m) × (m ≤ 1024) → (1 ≤ n) × (n ≤ 1024) → Day ρ [] (opening i m n ρ)
  called : {h : List Event} {b : Book} → Day ρ h b → (c : Call) → Day ρ (event_of c (rule c b) ∷ h) (rule c b).book

-- a list of calls: the book after them, the trade table, and the events of the day
abbrev pub after : List Call → Book → Book
after [] b = b
after (c ∷ cs) b = after cs (rule c b).book

abbrev pub table_after : List Call → Book → List Trade → List Trade
table_after [] b table = table
table_after (c ∷ cs) b table = table_after cs (rule c b).book ((rule c b).trades ++ drop (length (rule c b).trades) table)

abbrev pub history : List Call → Book → List Event → List Event
history [] b h = h
history (c ∷ cs) b h = history cs (rule c b).book (event_of c (rule c b) ∷ h)
