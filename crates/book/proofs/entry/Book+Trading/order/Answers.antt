use Rattle.std.proofs.Common.{◌≡◌, ◌-◌, false, cond, length, take, sym, refl, ap, ◌∙◌, subst, arith}
use Rattle.std.proofs.lemmas.Result.{err_from_is_err_and}
use Rattle.terms.specs.declared.side.Side.{Side}
use Rattle.terms.specs.declared.side.Side.TheVariants.{Buy, Sell}
use Rattle.rules.specs.Book.{other, on, band, traded_lots}
use Rattle.rules.specs.Calls.{order}
use Rattle.rules.specs.Meeting.{lapses}
use Rattle.rules.specs.Rules.{entering}
use Rattle.rules.specs.Tables.{Fits, Room, enter_at}
use Rattle.rules.proofs.Passing.{refused_by, passed_by, order_fits, order_room}
use Rattle.rules.proofs.Ruled.{ruled_refused, order_ruled, settled}
use Rattle.book.specs.Books.{trading_book}
use Rattle.book.proofs.OnSides.{picked, entered}
use Rattle.book.proofs.entry.Book+Trading.order.Goals as goal

pub returns-in_err-check_order : goal.returns-in_err-check_order
returns-in_err-check_order g c =
    let p = err_from_is_err_and c.from_residual.result c.from_residual.ensures.1 in
    let b = trading_book c.args.self.now (g.D.Sides.held c.args.sides.now) (g.R.PriceRange.answers c.args.range.now) in
    let call = order c.args.side c.args.time c.args.entry (length c.args.trades.now) in
    let w = settled ((s : Side) → g.D.Sides.lawful c.args.sides.now s) (λ l. ruled_refused call b _ c.args.trades.now (refused_by _ _ c.in_err-check_order.ensures)) in
    rw (p.1, p.2) (record { refused = (refl, refl, refl); keeps = λ s l. l; same = g.met.D.Sides.same_at_first _; by_rule = w.0; day = w.1 })

pub returns : goal.returns
returns g c =
    let s = c.args.side in
    let t = c.args.time in
    let e = c.args.entry in
    let table = c.args.trades.now in
    let held = g.D.Sides.held c.args.sides.now in
    let b = trading_book c.args.self.now held (g.R.PriceRange.answers c.args.range.now) in
    let passes = passed_by _ _ c.in_ok-check_order.ensures in
    let sound = g.met.D.Sides.sound c.args.sides.now in
    let met = c.enter-met in
    let held' = g.D.Sides.held met.new.sides in
    let lapse : c.lapses-lapse.result ≡ lapses t s e.price (band b) = c.lapses-lapse.ensures ∙ ap (lapses t s e.price) c.band-band.ensures in
    let count : met.result.place - 0 ≡ met.result.place = omega arith in
    let w =
    settled ((s : Side) → g.D.Sides.lawful c.args.sides.now s)
    (λ l.
    let fits = subst (λ h. Fits h.elements 0 table) (picked held (other s)) (order_fits s t e table b passes (record { buys = sound Buy (l Buy); sells = sound Sell (l Sell) })) in
    let room = λ (h : c.lapses-lapse.result ≡ false). subst (λ k. Room s k (entering e b.next)) (picked held s) (order_room s t e table b passes (band b) (sym lapse ∙ h)) in
    let x = entered held held' s c.band-band.result c.lapses-lapse.result (entering e b.next) table met.new.trades met.result.place met.result.left (met.ensures.enters l fits room) in
    order_ruled s t e b (held' Buy) (held' Sell) table met.new.trades met.result.place met.result.left _ _ _ passes
    (x ∙ (λ i. enter_at (c.band-band.ensures i) (lapse i) s (entering e b.next) (on s b) (on (other s) b) table))
    (c.traded_lots.ensures ∙ ap (λ n. traded_lots (take n met.new.trades)) count)
    (ap (λ p. p.0) c.remainder-resting.ensures ∙ ap (λ u. cond u 0 met.result.left) lapse)
    (ap (λ p. p.1) c.remainder-resting.ensures ∙ ap (λ u. cond u met.result.left 0) lapse)) in
    record { refused = tt; keeps = met.ensures.keeps; same = met.ensures.same; by_rule = w.0; day = w.1 }
