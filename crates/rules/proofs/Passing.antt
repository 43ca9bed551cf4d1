-- What the tests of an accepted call say of the queues and the table.
use Rattle.std.proofs.Common.{◌≡◌, ℕ, ◌+◌, ◌<◌, ◌≤◌, Bool, true, false, not, ◌&&◌, ◌||◌, ltb, List, ◌∷◌, length, Some, None, Ok, Err, Option, refl, ap, subst, arith}
use Rattle.std.proofs.lemmas.Bool.{true≢false}
use Rattle.std.proofs.lemmas.Bool.Decides.{nat_tests}
use Rattle.terms.specs.declared.message.OrderEntry.{OrderEntry}
use Rattle.terms.specs.declared.message.QuoteEntry.{QuoteEntry}
use Rattle.terms.specs.declared.refusal.Refusal.{Refusal}
use Rattle.terms.specs.declared.refusal.Refusal.TheVariants.{BadPrice, BadLots, BadSpread, BadQuoteLots, ShortTradeTable, QuoteRests}
use Rattle.terms.specs.declared.side.Side.{Side}
use Rattle.terms.specs.declared.side.Side.TheVariants.{Buy, Sell}
use Rattle.terms.specs.declared.side.TimeInForce.{TimeInForce}
use Rattle.terms.specs.declared.side.TimeInForce.TheVariants.{Day, Immediate}
use Rattle.terms.specs.declared.trade.Trade.{Trade}
use Rattle.queue.specs.Held.{answer}
use Rattle.orders.specs.declared.order.Order.{Order}
use Rattle.price_range.specs.declared.band.Band.{Band}
use Rattle.rules.specs.Book.{Book, other, on}
use Rattle.rules.specs.ByRule.{SoundBook, QuoteReady}
use Rattle.rules.specs.Checks.{Check, first_of, order_checks, quote_checks, renew_checks, leg_checks, short_table, bad_price, bad_lots, bad_spread, bad_quote_lots, both_rest, full, is_immediate}
use Rattle.rules.specs.Meeting.{lapses}
use Rattle.rules.specs.Rules.{entering}
use Rattle.rules.specs.Tables.{Fits, Room}
use Rattle.rules.proofs.Theorem.{passed}

-- what a test that may refuse answered
pub refused_by : (o : Option Refusal) (e : Refusal) → Err e ≡ answer o → o ≡ Some e
refused_by None e h = let z : ◌≡◌ {A = ℕ} 0 1 = cc in absurd (omega arith)
refused_by (Some f) e h = let s : f ≡ e = cc in ap (λ x. Some x) s

pub passed_by : (o : Option Refusal) (u : Unit {0}) → Ok u ≡ answer o → o ≡ None
passed_by None u h = refl
passed_by (Some f) u h = let z : ◌≡◌ {A = ℕ} 0 1 = cc in absurd (omega arith)

-- a table that is long enough has a place for a trade with each order of a side
pub side_fits : (s : Side) (b : Book) (table : List Trade) → SoundBook b → ltb (length table) (b.buys.capacity + b.sells.capacity) ≡ false → Fits (on s b).elements 0 table
side_fits Buy b table h t =
    let long : b.buys.capacity + b.sells.capacity ≤ length table = grind (arith, nat_tests) in
    record { some = h.buys.elements.some; room = omega (arith, h.buys.fits, long) }
side_fits Sell b table h t =
    let long : b.buys.capacity + b.sells.capacity ≤ length table = grind (arith, nat_tests) in
    record { some = h.sells.elements.some; room = omega (arith, h.sells.fits, long) }

pub not_full : (n : ℕ) (os : List Order) → full n os ≡ false → length os < n
not_full n os h = grind (arith, nat_tests)

day_order : (t : TimeInForce) (s : Side) (p : ℕ) (r : Option Band) → lapses t s p r ≡ false → is_immediate t ≡ false
day_order Day s p r h = refl
day_order Immediate s p r h = absurd (true≢false h)

-- an accepted order
module _ (s : Side) (t : TimeInForce) (e : OrderEntry) (table : List Trade) (b : Book) (h : first_of (order_checks s t e (length table) b) ≡ None) where
  pub order_fits : SoundBook b → Fits (on (other s) b).elements 0 table
  order_fits w = side_fits (other s) b table w (passed (order_checks s t e (length table) b) h).1.1.1.0

  pub order_room : (r : Option Band) → lapses t s e.price r ≡ false → Room s (on s b) (entering e b.next)
  order_room r l =
      let p = (passed (order_checks s t e (length table) b) h).1.1.1.1.1 in
      record {
        place = not_full (on s b).capacity (on s b).elements (subst (λ u. (not u && full (on s b).capacity (on s b).elements) ≡ false) (day_order t s e.price r l) p.0);
        free = p.1.0;
      }

-- the tests after the first
rest_passed : (r : Refusal) (t : Bool) (cs : List Check) → first_of ((r, t) ∷ cs) ≡ None → first_of cs ≡ None
rest_passed r true cs h = let z : ◌≡◌ {A = ℕ} 0 1 = cc in absurd (omega arith)
rest_passed r false cs h = h

-- an accepted quote may be placed
pub quote_ready : (q : QuoteEntry) (table : List Trade) (b : Book) → first_of (quote_checks q (length table) b) ≡ None → SoundBook b → QuoteReady b table
quote_ready q table b h w =
    let legs = leg_checks b.next b.quote b.buys b.sells in
    let c₄ : List Check = (ShortTradeTable, short_table (length table) b) ∷ legs in
    let c₃ : List Check = (BadQuoteLots, bad_quote_lots b.terms q) ∷ c₄ in
    let c₂ : List Check = (BadSpread, bad_spread b.terms q) ∷ c₃ in
    let c₁ : List Check = (BadLots, bad_lots q.bid_lots || bad_lots q.ask_lots) ∷ c₂ in
    let h₁ : first_of c₁ ≡ None = rest_passed BadPrice (bad_price b.terms q.bid_price || bad_price b.terms q.ask_price) c₁ h in
    let h₂ : first_of c₂ ≡ None = rest_passed BadLots (bad_lots q.bid_lots || bad_lots q.ask_lots) c₂ h₁ in
    let h₃ : first_of c₃ ≡ None = rest_passed BadSpread (bad_spread b.terms q) c₃ h₂ in
    let h₄ : first_of c₄ ≡ None = rest_passed BadQuoteLots (bad_quote_lots b.terms q) c₄ h₃ in
    record { sound = w; legs = rest_passed ShortTradeTable (short_table (length table) b) legs h₄; room = (passed c₄ h₄).0 }

pub renewal_ready : (table : List Trade) (b : Book) → first_of (renew_checks (length table) b) ≡ None → SoundBook b → QuoteReady b table
renewal_ready table b h w =
    let legs = leg_checks b.next b.quote b.buys b.sells in
    let c₁ : List Check = (QuoteRests, both_rest b) ∷ legs in
    let h₁ : first_of c₁ ≡ None = rest_passed ShortTradeTable (short_table (length table) b) c₁ h in
    record { sound = w; legs = rest_passed QuoteRests (both_rest b) legs h₁; room = (passed (renew_checks (length table) b) h).0 }
