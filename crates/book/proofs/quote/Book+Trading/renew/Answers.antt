use Rattle.std.proofs.Common.{Some, length, refl, ◌∙◌}
use Rattle.std.proofs.lemmas.Result.{err_from_is_err_and}
use Rattle.rules.proofs.Passing.{refused_by, passed_by, renewal_ready}
use Rattle.rules.proofs.Ruled.{ruled_refused, renewal_ruled, settled}
use Rattle.terms.specs.declared.side.Side.{Side}
use Rattle.terms.specs.declared.side.Side.TheVariants.{Buy, Sell}
use Rattle.rules.specs.Book.{trading}
use Rattle.rules.specs.Calls.{renew}
use Rattle.book.specs.Books.{book_of, trading_book}
use Rattle.book.proofs.quote.Book+Trading.renew.Goals as goal

pub returns-in_err-check_renewal : goal.returns-in_err-check_renewal
returns-in_err-check_renewal g c =
    let p = err_from_is_err_and c.from_residual.result c.from_residual.ensures.1 in
    let b = trading_book c.args.self.now (g.D.Sides.held c.args.sides.now) (g.R.PriceRange.answers c.args.range.now) in
    let w = settled ((s : Side) → g.D.Sides.lawful c.args.sides.now s) (λ l. ruled_refused (renew (length c.args.trades.now)) b _ c.args.trades.now (refused_by _ _ (c.in_err-check_renewal.ensures.answers l))) in
    rw (p.1, p.2) (record { refused = (refl, refl, refl, refl); keeps = λ s l. l; same = g.met.D.Sides.same_at_first _; by_rule = w.0; day = w.1 })

pub returns : goal.returns
returns g c =
    let table = c.args.trades.now in
    let b = trading_book c.args.self.now (g.D.Sides.held c.args.sides.now) (g.R.PriceRange.answers c.args.range.now) in
    let placed = c.place_quote in
    let held' = g.D.Sides.held placed.new.sides in
    let w =
    settled ((s : Side) → g.D.Sides.lawful c.args.sides.now s)
    (λ l.
    let passes = passed_by _ _ (c.in_ok-check_renewal.ensures.answers l) in
    let sound = g.met.D.Sides.sound c.args.sides.now in
    let ready = renewal_ready table b passes (record { buys = sound Buy (l Buy); sells = sound Sell (l Sell) }) in
    let ruled = renewal_ruled c.args.self.now.phase.quote (length table) b placed.result.1 table placed.new.trades (held' Buy) (held' Sell) (g.R.PriceRange.answers placed.new.range) refl passes (placed.ensures.places l ready) placed.ensures.told in
    record { outcome = ruled.outcome; trades = ruled.trades; book = (λ i. book_of trading (placed.ensures.next i).terms (placed.ensures.next i).next (Some (placed.ensures.quoted i)) held' (g.R.PriceRange.answers placed.new.range)) ∙ ruled.book }) in
    record { refused = tt; keeps = placed.ensures.keeps; same = placed.ensures.same; by_rule = w.0; day = w.1 }
