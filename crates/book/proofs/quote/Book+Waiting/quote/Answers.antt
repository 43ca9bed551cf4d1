use Rattle.std.proofs.Common.{Some, length, refl, ◌∙◌}
use Rattle.rules.proofs.Passing.{refused_by, passed_by, quote_ready}
use Rattle.rules.proofs.Ruled.{ruled_refused, quote_ruled, settled}
use Rattle.terms.specs.declared.side.Side.{Side}
use Rattle.terms.specs.declared.side.Side.TheVariants.{Buy, Sell}
use Rattle.rules.specs.Book.{trading}
use Rattle.rules.specs.Calls.{quote}
use Rattle.book.specs.Books.{book_of, waiting_book}
use Rattle.book.proofs.quote.Book+Waiting.quote.Goals as goal

pub returns-in-Err : goal.returns-in-Err
returns-in-Err g c =
    let b = waiting_book c.args.self (g.D.Sides.held c.args.sides.now) (g.R.PriceRange.answers c.args.range.now) in
    let w = settled ((s : Side) → g.D.Sides.lawful c.args.sides.now s) (λ l. ruled_refused (quote c.args.entry (length c.args.trades.now)) b c.in-Err.refusal c.args.trades.now (refused_by _ _ (c.in-Err.ensures.answers l))) in
    record { refused = (refl, refl, refl, refl); keeps = λ s l. l; same = g.met.D.Sides.same_at_first _; by_rule = w.0; day = w.1 }

pub returns : goal.returns
returns g c =
    let table = c.args.trades.now in
    let b = waiting_book c.args.self (g.D.Sides.held c.args.sides.now) (g.R.PriceRange.answers c.args.range.now) in
    let placed = c.place_quote in
    let held' = g.D.Sides.held placed.new.sides in
    let w =
    settled ((s : Side) → g.D.Sides.lawful c.args.sides.now s)
    (λ l.
    let passes = passed_by _ _ (c.in_default.ensures.answers l) in
    let sound = g.met.D.Sides.sound c.args.sides.now in
    let ready = quote_ready c.args.entry table b passes (record { buys = sound Buy (l Buy); sells = sound Sell (l Sell) }) in
    let ruled = quote_ruled c.args.entry (length table) b placed.result.1 table placed.new.trades (held' Buy) (held' Sell) (g.R.PriceRange.answers placed.new.range) passes (placed.ensures.places l ready) placed.ensures.told in
    record { outcome = ruled.outcome; trades = ruled.trades; book = (λ i. book_of trading (placed.ensures.next i).terms (placed.ensures.next i).next (Some (placed.ensures.quoted i)) held' (g.R.PriceRange.answers placed.new.range)) ∙ ruled.book }) in
    record { refused = tt; keeps = placed.ensures.keeps; same = placed.ensures.same; by_rule = w.0; day = w.1 }
