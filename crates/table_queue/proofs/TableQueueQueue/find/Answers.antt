use Rattle.std.proofs.Common.{sym, ap, ◌∙◌}
use Rattle.queue.specs.Held.{first, is}
use Rattle.table_queue.proofs.Meanings.{found_here}
use Rattle.table_queue.proofs.TableQueueQueue.find.Goals as goal

pub returns-clause-finds : goal.returns-clause-finds
returns-clause-finds g c = λ l.
    let r = g.E.Ranked.rank in
    let a = g.A.Arrangement in
    let s = c.args.self.now in
    c.find.ensures ∙ ap (first (is r.number c.args.number)) c.elements.ensures
    ∙ sym (found_here r a.order a.Kept g.met.A.Arrangement.same s.count s.table.now l c.args.number)
