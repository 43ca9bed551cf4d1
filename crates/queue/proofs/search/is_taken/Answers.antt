use Rattle.std.proofs.Common.{rules, tests, ◌∙◌}
use Rattle.std.proofs.lemmas.Iterator.{YieldsList-from_slice}
use Rattle.std.proofs.lemmas.Iterator.Search.{any_from_yields_List}
use Rattle.queue.specs.Held.{takes}
use Rattle.queue.proofs.Places.{any_is}
use Rattle.queue.proofs.search.is_taken.Goals as goal

pub returns : goal.returns
returns g c =
    let p = takes g.E.Ranked.rank c.args.value c.args.except in
    any_from_yields_List p _ _ c.any.result c.any.ensures.ran (YieldsList-from_slice _ c.iter.ensures.rest) (λ x b q k. search (rules, tests)) ∙ any_is p c.args.elements.now
