use Rattle.std.proofs.Common.{sym}
use Rattle.table_queue.proofs.Meanings.{held_long, empty_lawful}
use Rattle.table_queue.proofs.TableQueueQueue.count.Goals as goal

pub returns-clause-counts : goal.returns-clause-counts
returns-clause-counts g c =
    let a = g.A.Arrangement in
    let s = c.args.self.now in
    sym (held_long g.E.Ranked.rank a.order a.Kept g.met.A.Arrangement.same s.count s.table.now s.within)

pub returns-clause-empty : goal.returns-clause-empty
returns-clause-empty g c =
    let a = g.A.Arrangement in
    let s = c.args.self.now in
    empty_lawful g.E.Ranked.rank a.order a.Kept g.met.A.Arrangement.same g.met.A.Arrangement.none s.count s.table.now s.within
