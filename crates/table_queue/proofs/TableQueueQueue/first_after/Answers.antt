use Rattle.std.proofs.Common.{◌≡◌, subst}
use Rattle.queue.specs.Held.{first}
use Rattle.table_queue.specs.Arranged.{Stands}
use Rattle.table_queue.proofs.Meanings.{stands}
use Rattle.table_queue.proofs.TableQueueQueue.first_after.Goals as goal

pub returns : goal.returns
returns g c = λ l.
    let r = g.E.Ranked.rank in
    let a = g.A.Arrangement in
    let s = c.args.self.now in
    subst (λ xs. Stands r a.order a.Kept xs → c.first_after.result ≡ first (r.before c.args.e.now) (a.order xs)) c.elements.ensures c.first_after.ensures
    (stands r a.order a.Kept g.met.A.Arrangement.same s.count s.table.now l)
