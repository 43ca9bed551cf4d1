use Rattle.std.proofs.Common.{◌≡◌, None, rules}
use Rattle.rules.proofs.Openings.{opens_a_day}
use Rattle.rules.specs.Opening.{opening_refusal}
use Rattle.book.specs.BySide.{plain_buys, plain_sells}
use Rattle.book.proofs.day.Book+Waiting.open.Goals as goal

pub returns-clause-day : goal.returns-clause-day
returns-clause-day g c range =
    let buys = plain_buys (g.B.Queue.held c.args.buys.now) in
    let sells = plain_sells (g.S.Queue.held c.args.sells.now) in
    let none : opening_refusal c.args.terms buys sells ≡ None = search rules in
    opens_a_day c.args.terms buys sells range none
