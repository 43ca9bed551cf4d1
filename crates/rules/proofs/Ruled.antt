-- What a call gave is what the rules give.
use Rattle.std.proofs.Common.{◌≡◌, ℕ, ◌+◌, ◌-◌, Bool, true, false, cond, List, [], ◌∷◌, ◌++◌, length, take, drop, Some, None, Option, sym, refl, ap, ◌∙◌, subst, arith}
use Rattle.std.proofs.lemmas.List.{take_at}
use Rattle.terms.specs.declared.message.OrderChange.{OrderChange}
use Rattle.terms.specs.declared.message.OrderEntry.{OrderEntry}
use Rattle.terms.specs.declared.message.QuoteEntry.{QuoteEntry}
use Rattle.terms.specs.declared.message.Quoted.{Quoted}
use Rattle.terms.specs.declared.refusal.Refusal.{Refusal}
use Rattle.terms.specs.declared.side.Side.{Side}
use Rattle.terms.specs.declared.side.Side.TheVariants.{Buy, Sell}
use Rattle.terms.specs.declared.side.TimeInForce.{TimeInForce}
use Rattle.terms.specs.declared.trade.Answer.{Answer}
use Rattle.terms.specs.declared.trade.Trade.{Trade}
use Rattle.queue.specs.Held.{Held, remove}
use Rattle.orders.specs.declared.order.Found.{Found}
use Rattle.orders.specs.declared.order.Order.{Order}
use Rattle.price_range.specs.Bands.{Update}
use Rattle.price_range.specs.declared.band.Band.{Band}
use Rattle.rules.specs.Book.{Answers, Book, trading, other, on, pick, band, holding, traded_lots}
use Rattle.rules.specs.ByRule.{counted, event_of, ByRule, QuotePlaced}
use Rattle.rules.specs.Calls.{Call, order, quote, renew, change, cancel, halt, resume, end, resting, Outcome, refused, answered}
use Rattle.rules.specs.Checks.{found, first_of, checks, keeps_place}
use Rattle.rules.specs.Meeting.{Met, Entered, meet, enter, incoming, lapses}
use Rattle.rules.specs.Keeps.{Keeps}
use Rattle.rules.specs.Rules as rules
use Rattle.rules.specs.Rules.{Ruled, rule, accepted, unless_refused, laid, entering, entered, order_entered, ordered, quoted, renewed, cut_in_place, reentered, changed, cancelled}
use Rattle.rules.specs.Tables.{enter_at}
use Rattle.rules.proofs.Theorem.{keeps_by}

-- a refused call
pub ruled_refused : (c : Call) (b : Book) (r : Refusal) (table : List Trade) → first_of (checks c b) ≡ Some r → ByRule c b (refused r) table table b
ruled_refused c b r table e =
    let x : rule c b ≡ record { outcome = refused r; trades = []; book = b } = ap (λ o. unless_refused o b (accepted c b)) e in
    record { outcome = sym (ap (λ y. y.outcome) x); trades = sym (ap (λ y. y.trades ++ drop (length y.trades) table) x); book = sym (ap (λ y. y.book) x) }

-- an accepted one
pub ruled_accepted : (c : Call) (b : Book) (o : Outcome) (table table' : List Trade) (b' : Book) (x : Ruled) → first_of (checks c b) ≡ None → accepted c b ≡ x → o ≡ x.outcome → table' ≡ x.trades ++ drop (length x.trades) table → b' ≡ x.book → ByRule c b o table table' b'
ruled_accepted c b o table table' b' x e a p q r =
    let y : x ≡ rule c b = sym (ap (λ z. unless_refused z b (accepted c b)) e ∙ a) in
    record { outcome = p ∙ ap (λ z. z.outcome) y; trades = q ∙ ap (λ z. z.trades ++ drop (length z.trades) table) y; book = r ∙ ap (λ z. z.book) y }

-- the count of an answer is that of its trades
counts : (c : Call) (b : Book) → counted (rule c b).outcome ≡ length (rule c b).trades
counts c b = go (first_of (checks c b))
  where
    of_change : (k : OrderChange) (f : Option Found) → counted (changed k f b).outcome ≡ length (changed k f b).trades
    of_change k None = refl
    of_change k (Some f) = by (keeps_place k f.order)
      where
        by : (t : Bool) → counted (cond t (cut_in_place k f b) (reentered k f b)).outcome ≡ length (cond t (cut_in_place k f b) (reentered k f b)).trades
        by true = refl
        by false = refl

    of_renewal : (q : Option Quoted) → counted (renewed q b).outcome ≡ length (renewed q b).trades
    of_renewal None = refl
    of_renewal (Some q) = refl

    of_call : (d : Call) → counted (accepted d b).outcome ≡ length (accepted d b).trades
    of_call (order s t e k) = refl
    of_call (quote q k) = refl
    of_call (renew k) = of_renewal b.quote
    of_call (change d k) = of_change d (found b d.order)
    of_call (cancel d) = of_cancel (found b d.order)
      where
        of_cancel : (f : Option Found) → counted (cancelled d f b).outcome ≡ length (cancelled d f b).trades
        of_cancel None = refl
        of_cancel (Some f) = refl
    of_call halt = refl
    of_call resume = refl
    of_call end = refl
    of_call resting = refl

    go : (o : Option Refusal) → counted (unless_refused o b (accepted c b)).outcome ≡ length (unless_refused o b (accepted c b)).trades
    go None = of_call c
    go (Some r) = refl

-- by the rules, the event is that of a day
pub keeps_ruled : {c : Call} {b b' : Book} {o : Outcome} {table table' : List Trade} → ByRule c b o table table' b' → Keeps b (event_of c o table') b'
keeps_ruled {c} {b} {b'} {o} {table} {table'} r =
    let ts = (rule c b).trades in
    let count : counted o ≡ length ts = ap counted r.outcome ∙ counts c b in
    let trades : take (counted o) table' ≡ ts = (λ i. take (count i) (r.trades i)) ∙ take_at ts (drop (length ts) table) (length ts) refl in
    keeps_by c (λ i. record { call = c; outcome = r.outcome i; trades = trades i }) r.book

-- an order that was entered
module _ (r : Option Band) (t : Bool) (s : Side) (o : Order) (own opp own' opp' : Held Order) (table table' : List Trade) (place left : ℕ) (x : record { table = table'; place = place; left = left; own = own'; opposite = opp' } ≡ enter_at r t s o own opp table) where
  abbrev m : Met
  m = meet r s (incoming o) o.lots opp.elements

  abbrev e : Entered
  e = enter r t s o own.elements opp.elements

  entered-place : place ≡ length e.trades
  entered-place = ap (λ y. y.place) x ∙ omega arith

  entered_table : table' ≡ e.trades ++ drop (length e.trades) table
  entered_table = let z : 0 + length m.trades ≡ length m.trades = omega arith in ap (λ y. y.table) x ∙ ap (λ n. m.trades ++ drop n table) z

  entered_traded : traded_lots (take place table') ≡ traded_lots e.trades
  entered_traded = ap traded_lots ((λ i. take (entered-place i) (entered_table i)) ∙ take_at e.trades (drop (length e.trades) table) (length e.trades) refl)

  entered_resting : cond t 0 left ≡ e.resting
  entered_resting = ap (λ y. cond t 0 y.left) x

  entered-cancelled : cond t left 0 ≡ e.cancelled
  entered-cancelled = ap (λ y. cond t y.left 0) x

  entered_own : own' ≡ holding own e.own
  entered_own = ap (λ y. y.own) x

  entered_opposite : opp' ≡ holding opp e.opposite
  entered_opposite = ap (λ y. y.opposite) x

-- both sides of a book after it
sides_laid : (s : Side) (b : Book) (buys sells : Held Order) (own opp : List Order) → pick s buys sells ≡ holding (on s b) own → pick (other s) buys sells ≡ holding (on (other s) b) opp → (buys ≡ holding b.buys (pick s own opp)) × (sells ≡ holding b.sells (pick s opp own))
sides_laid Buy b buys sells own opp p q = (p, q)
sides_laid Sell b buys sells own opp p q = (q, p)

-- the book with another next turn and other queues
abbrev pub book_with : Book → ℕ → Held Order → Held Order → Book
book_with b next buys sells =
    record { phase = b.phase; terms = b.terms; next = next; quote = b.quote; buys = buys; sells = sells; range = b.range }

module _ (s : Side) (b : Book) (r : Option Band) (t : Bool) (o : Order) (own : List Order) (buys sells : Held Order) (table table' : List Trade) (place left : ℕ) (number traded rests cancels lapsed : ℕ) where
  -- what entering gave, as the rules put it
  entered_ruled : record { table = table'; place = place; left = left; own = pick s buys sells; opposite = pick (other s) buys sells } ≡ enter_at r t s o (holding (on s b) own) (on (other s) b) table → traded ≡ traded_lots (take place table') → rests ≡ cond t 0 left → cancels ≡ lapsed → (answered (record { number = number; traded = traded; resting = rests; cancelled = cancels; trades = place }) ≡ (entered s b number lapsed (enter r t s o own (on (other s) b).elements)).outcome) × (table' ≡ (enter r t s o own (on (other s) b).elements).trades ++ drop (length (enter r t s o own (on (other s) b).elements).trades) table) × (book_with b (b.next + 1) buys sells ≡ (entered s b number lapsed (enter r t s o own (on (other s) b).elements)).book)
  entered_ruled x p q u =
      let h = holding (on s b) own in
      let d = sides_laid s b buys sells _ _ (entered_own r t s o h (on (other s) b) (pick s buys sells) (pick (other s) buys sells) table table' place left x) (entered_opposite r t s o h (on (other s) b) (pick s buys sells) (pick (other s) buys sells) table table' place left x) in
      let n = entered-place r t s o h (on (other s) b) (pick s buys sells) (pick (other s) buys sells) table table' place left x in
      let v = p ∙ entered_traded r t s o h (on (other s) b) (pick s buys sells) (pick (other s) buys sells) table table' place left x in
      let w = q ∙ entered_resting r t s o h (on (other s) b) (pick s buys sells) (pick (other s) buys sells) table table' place left x in (
        (λ i. answered (record { number = number; traded = v i; resting = w i; cancelled = u i; trades = n i })),
        entered_table r t s o h (on (other s) b) (pick s buys sells) (pick (other s) buys sells) table table' place left x,
        λ i. book_with b (b.next + 1) (d.0 i) (d.1 i),
      )

pub order_ruled : (s : Side) (t : TimeInForce) (e : OrderEntry) (b : Book) (buys sells : Held Order) (table table' : List Trade) (place left traded rests cancels : ℕ) → first_of (checks (order s t e (length table)) b) ≡ None → record { table = table'; place = place; left = left; own = pick s buys sells; opposite = pick (other s) buys sells } ≡ enter_at (band b) (lapses t s e.price (band b)) s (entering e b.next) (on s b) (on (other s) b) table → traded ≡ traded_lots (take place table') → rests ≡ cond (lapses t s e.price (band b)) 0 left → cancels ≡ cond (lapses t s e.price (band b)) left 0 → ByRule (order s t e (length table)) b (answered (record { number = b.next; traded = traded; resting = rests; cancelled = cancels; trades = place })) table table' (book_with b (b.next + 1) buys sells)
order_ruled s t e b buys sells table table' place left traded rests cancels passed x p q u =
    let lapse = lapses t s e.price (band b) in
    let o = entering e b.next in
    let c = u ∙ entered-cancelled (band b) lapse s o (on s b) (on (other s) b) (pick s buys sells) (pick (other s) buys sells) table table' place left x in
    let w = entered_ruled s b (band b) lapse o (on s b).elements buys sells table table' place left b.next traded rests cancels (order_entered s t e b).cancelled x p q c in
    ruled_accepted (order s t e (length table)) b _ table table' _ (ordered s t e b) passed refl w.0 w.1 w.2

-- a change that takes a new turn
pub change_ruled : (c : OrderChange) (f : Found) (b : Book) (buys sells : Held Order) (table table' : List Trade) (place left traded cancels : ℕ) (k : ℕ) → first_of (checks (change c k) b) ≡ None → found b c.order ≡ Some f → keeps_place c f.order ≡ false → record { table = table'; place = place; left = left; own = pick f.side buys sells; opposite = pick (other f.side) buys sells } ≡ enter_at (rules.meeting_band b.phase (band b)) false f.side (rules.changing c f.order b.next) (holding (on f.side b) (remove (rules.number_is c.order) (on f.side b).elements)) (on (other f.side) b) table → traded ≡ traded_lots (take place table') → cancels ≡ f.order.lots - c.lots → ByRule (change c k) b (answered (record { number = c.order; traded = traded; resting = left; cancelled = cancels; trades = place })) table table' (book_with b (b.next + 1) buys sells)
change_ruled c f b buys sells table table' place left traded cancels k passed here moves x p q =
    let w = entered_ruled f.side b (rules.meeting_band b.phase (band b)) false (rules.changing c f.order b.next) (remove (rules.number_is c.order) (on f.side b).elements) buys sells table table' place left c.order traded left cancels (f.order.lots - c.lots) x p refl q in
    let is : accepted (change c k) b ≡ reentered c f b = ap (λ o. changed c o b) here ∙ ap (λ t. cond t (cut_in_place c f b) (reentered c f b)) moves in
    ruled_accepted (change c k) b _ table table' _ (reentered c f b) passed is w.0 w.1 w.2

-- a quote that was placed
quote_settled : (c : Call) (q : QuoteEntry) (b : Book) (a : Answer) (table table' : List Trade) (buys sells : Held Order) (range : Answers) → first_of (checks c b) ≡ None → accepted c b ≡ quoted q b → QuotePlaced q b a table table' buys sells → ((us : List Update) → range us ≡ b.range (rules.update_of q ∷ us)) → ByRule c b (answered a) table table' (record { phase = trading; terms = b.terms; next = b.next + 2; quote = Some (record { entry = q; bid = b.next; ask = b.next + 1 }); buys = buys; sells = sells; range = range })
quote_settled c q b a table table' buys sells range passed is w t =
    ruled_accepted c b (answered a) table table' _ (quoted q b) passed is w.outcome w.trades
    (λ i. record { phase = trading; terms = b.terms; next = b.next + 2; quote = Some (record { entry = q; bid = b.next; ask = b.next + 1 }); buys = w.buying i; sells = w.selling i; range = λ us. t us i })

pub quote_ruled : (q : QuoteEntry) (k : ℕ) (b : Book) (a : Answer) (table table' : List Trade) (buys sells : Held Order) (range : Answers) → first_of (checks (quote q k) b) ≡ None → QuotePlaced q b a table table' buys sells → ((us : List Update) → range us ≡ b.range (rules.update_of q ∷ us)) → ByRule (quote q k) b (answered a) table table' (record { phase = trading; terms = b.terms; next = b.next + 2; quote = Some (record { entry = q; bid = b.next; ask = b.next + 1 }); buys = buys; sells = sells; range = range })
quote_ruled q k b a table table' buys sells range passed w t = quote_settled (quote q k) q b a table table' buys sells range passed refl w t

pub renewal_ruled : (q : Quoted) (k : ℕ) (b : Book) (a : Answer) (table table' : List Trade) (buys sells : Held Order) (range : Answers) → b.quote ≡ Some q → first_of (checks (renew k) b) ≡ None → QuotePlaced q.entry b a table table' buys sells → ((us : List Update) → range us ≡ b.range (rules.update_of q.entry ∷ us)) → ByRule (renew k) b (answered a) table table' (record { phase = trading; terms = b.terms; next = b.next + 2; quote = Some (record { entry = q.entry; bid = b.next; ask = b.next + 1 }); buys = buys; sells = sells; range = range })
renewal_ruled q k b a table table' buys sells range e passed w t =
    quote_settled (renew k) q.entry b a table table' buys sells range passed (ap (λ o. renewed o b) e) w t

-- a call that makes no trade
pub lowered_ruled : (c : OrderChange) (k : ℕ) (f : Found) (b : Book) (buys sells : Held Order) (table : List Trade) → first_of (checks (change c k) b) ≡ None → found b c.order ≡ Some f → keeps_place c f.order ≡ true → pick f.side buys sells ≡ holding (on f.side b) (rules.lowered c (on f.side b).elements) → pick (other f.side) buys sells ≡ on (other f.side) b → ByRule (change c k) b (answered (record { number = c.order; traded = 0; resting = c.lots; cancelled = f.order.lots - c.lots; trades = 0 })) table table (book_with b b.next buys sells)
lowered_ruled c k f b buys sells table passed here keeps p q =
    let d = sides_laid f.side b buys sells _ _ p q in
    let is : accepted (change c k) b ≡ cut_in_place c f b = ap (λ o. changed c o b) here ∙ ap (λ t. cond t (cut_in_place c f b) (reentered c f b)) keeps in
    ruled_accepted (change c k) b _ table table _ (cut_in_place c f b) passed is refl refl (λ i. book_with b b.next (d.0 i) (d.1 i))

-- the clauses of a call: by the rules, and so a day, where P holds
pub settled : (P : Type 0) {c : Call} {b b' : Book} {o : Outcome} {table table' : List Trade} → (P → ByRule c b o table table' b') → (P → ByRule c b o table table' b') × (P → Keeps b (event_of c o table') b')
settled P r = (r, λ l. keeps_ruled (r l))

-- an answer that is as it should be
pub answered_by : {c : Call} {b b' : Book} {table table' : List Trade} (a : Answer) {d : Answer} → a ≡ d → ByRule c b (answered d) table table' b' → ByRule c b (answered a) table table' b'
answered_by {c} {b} {b'} {table} {table'} a e r = subst (λ x. ByRule c b (answered x) table table' b') (sym e) r

-- the same for every range that a call does not touch
pub settled_all : (P : Type 0) (b b' : Answers → Book) {c : Call} {o : Outcome} {table table' : List Trade} → (P → (r : Answers) → ByRule c (b r) o table table' (b' r)) → (P → (r : Answers) → ByRule c (b r) o table table' (b' r)) × (P → (r : Answers) → Keeps (b r) (event_of c o table') (b' r))
settled_all P b b' f = (f, λ l r. keeps_ruled (f l r))

-- a call that leaves an empty table leaves every table
no_trades : (ts us : List Trade) → [] ≡ ts ++ us → ts ≡ []
no_trades [] us e = refl
no_trades (t ∷ ts) us e = let z : ◌≡◌ {A = ℕ} 0 1 = cc in absurd (omega arith)

pub on_table : {c : Call} {b b' : Book} {o : Outcome} (table : List Trade) → ByRule c b o [] [] b' → ByRule c b o table table b'
on_table {c} {b} table r =
    let none = no_trades (rule c b).trades _ r.trades in
    record { outcome = r.outcome; trades = sym (ap (λ ts. ts ++ drop (length ts) table) none); book = r.book }

-- the same call and outcome in other words
pub called_by : {c d : Call} {b b' : Book} {o q : Outcome} {table table' : List Trade} → c ≡ d → o ≡ q → ByRule d b q table table' b' → ByRule c b o table table' b'
called_by {c} {d} {b} {b'} {o} {q} {table} {table'} e f r = subst (λ x. ByRule x b o table table' b') (sym e) (subst (λ y. ByRule d b y table table' b') (sym f) r)
