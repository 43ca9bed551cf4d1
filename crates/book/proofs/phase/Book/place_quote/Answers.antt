use Rattle.std.proofs.Common.{◌≡◌, ◌+◌, ◌-◌, [], take, ap, ◌∙◌, arith}
use Rattle.rules.proofs.Placing.{leg_placed}
use Rattle.rules.proofs.Quoting.{bid_room, ask_room, quote_fits, fits_by, quote_placed}
use Rattle.rules.specs.Book.{holding, traded_lots}
use Rattle.rules.specs.Checks.{bid_of, ask_of, without, leg_lots}
use Rattle.rules.specs.Rules.{bid_leg, ask_leg, quoted_buys, quoted_sells}
use Rattle.terms.specs.declared.side.Side.{Side}
use Rattle.terms.specs.declared.side.Side.TheVariants.{Buy, Sell}
use Rattle.book.specs.Books.{book_in}
use Rattle.book.proofs.phase.Book.place_quote.Goals as goal

pub returns-clause-places : goal.returns-clause-places
returns-clause-places g c l w =
    let q = c.args.entry in
    let table = c.args.trades.now in
    let b = book_in g.P.DayPhase.phase g.P.DayPhase.last c.args.self.now (g.D.Sides.held c.args.sides.now) (g.R.PriceRange.answers c.args.range.now) in
    let bid = c.bid_of.ensures ∙ ap bid_of c.last-old.ensures in
    let ask = c.ask_of.ensures ∙ ap ask_of c.last-old.ensures in
    let taken = c.take_leg.ensures in
    let taken' = c.take_leg-2.ensures in
    let swept = c.sweep-count in
    let held₁ = g.D.Sides.held c.take_leg.new.sides in
    let held₂ = g.D.Sides.held c.take_leg-2.new.sides in
    let held₃ = g.D.Sides.held c.put.new.self in
    let held₄ = g.D.Sides.held c.put-2.new.self in
    let held₅ = g.D.Sides.held swept.new.sides in
    let l₁ = λ (s : Side). taken.keeps s (l s) in
    let l₂ = λ (s : Side). taken'.keeps s (l₁ s) in
    let l₃ = λ (s : Side). c.put.ensures.keeps s (l₂ s) in
    let l₄ = λ (s : Side). c.put-2.ensures.keeps s (l₃ s) in
    let l₅ = λ (s : Side). swept.ensures.keeps s (l₄ s) in
    let buys₂ = taken'.stays ∙ taken.leaves (l Buy) ∙ ap (λ n. holding b.buys (without n b.buys.elements)) bid in
    let sells₂ = taken'.leaves (l₁ Sell) ∙ (λ i. holding (taken.stays i) (without (ask i) (taken.stays i).elements)) in
    let buys₄ =
    c.put-2.ensures.stays
    ∙ leg_placed Buy b.buys (without (bid_of b.quote) b.buys.elements) (held₂ Buy) (held₃ Buy) c.leg.result (bid_leg q b.next) buys₂ (c.put.ensures.leaves (l₂ Buy)) c.leg.ensures (bid_room q b table w) in
    let sells₄ =
    leg_placed Sell b.sells (without (ask_of b.quote) b.sells.elements) (held₃ Sell) (held₄ Sell) c.leg-2.result (ask_leg q (b.next + 1)) (c.put.ensures.stays ∙ sells₂) (c.put-2.ensures.leaves (l₃ Sell)) c.leg-2.ensures (ask_room q b table w) in
    let fits = fits_by (held₄ Buy) (held₄ Sell) (holding b.buys (quoted_buys q b)) (holding b.sells (quoted_sells q b)) table buys₄ sells₄ (quote_fits q b table w) in
    let count : swept.result - 0 ≡ swept.result = omega arith in
    quote_placed q b table swept.new.trades c.band.result swept.result c.traded_lots.result _ _ (held₄ Buy) (held₄ Sell) (held₅ Buy) (held₅ Sell) buys₄ sells₄
    (c.band.ensures ∙ c.tell.ensures [])
    (swept.ensures.sweeps l₄ fits) (swept.ensures.capacity l₄).0 (swept.ensures.capacity l₄).1
    (c.traded_lots.ensures ∙ ap (λ n. traded_lots (take n swept.new.trades)) count)
    (λ i. c.lots_under.ensures.lots (l₅ Buy) i + c.lots_under-2.ensures.lots (l₅ Sell) i)
    (λ i. (taken.lots (l Buy) ∙ ap (λ n. leg_lots n b.buys.elements) bid) i + (taken'.lots (l₁ Sell) ∙ (λ j. leg_lots (ask j) (taken.stays j).elements)) i)
