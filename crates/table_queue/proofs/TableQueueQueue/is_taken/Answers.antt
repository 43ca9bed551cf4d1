use Rattle.std.proofs.Common.{take, ap, ◌∙◌}
use Rattle.queue.specs.Held.{any, takes}
use Rattle.table_queue.proofs.Perms.{perm_any}
use Rattle.table_queue.proofs.TableQueueQueue.is_taken.Goals as goal

pub returns : goal.returns
returns g c =
    let s = c.args.self.now in
    let p = takes g.E.Ranked.rank c.args.value c.args.except in
    c.is_taken.ensures ∙ ap (any p) c.elements.ensures ∙ perm_any p (g.met.A.Arrangement.same (take s.count s.table.now))
