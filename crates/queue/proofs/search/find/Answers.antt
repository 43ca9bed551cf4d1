use Rattle.std.proofs.Common.{rules, tests, ◌∙◌}
use Rattle.std.proofs.lemmas.Iterator.{YieldsList-from_slice}
use Rattle.std.proofs.lemmas.Iterator.Search.{find_from_yields_List}
use Rattle.queue.specs.Held.{is}
use Rattle.queue.proofs.Places.{first_is}
use Rattle.queue.proofs.search.find.Goals as goal

pub returns : goal.returns
returns g c =
    let p = is g.E.Ranked.rank.number c.args.number in
    c.copied.ensures
    ∙ find_from_yields_List p _ _ c.find.result c.find.ensures.ran (YieldsList-from_slice _ c.iter.ensures.rest) (λ x b q k. search (rules, tests))
    ∙ first_is p c.args.elements.now
