use Rattle.std.proofs.Common.{◌≡◌, ◌-◌, ◌<◌, ◌≤◌, length}
use Rattle.terms.specs.declared.side.Side.{Side}
use Rattle.rules.specs.Book.{other}
use Rattle.rules.specs.Tables.{Fits, meet_at}
use Rattle.book.specs.Matching.{incoming_of}
use Rattle.book.proofs.matching.meet.Given as goal

-- what is written, and then the meeting of what is left, is the whole meeting
abbrev pub invariant-loop-lots : goal.invariant-loop-lots
invariant-loop-lots g l =
    let held = g.D.Sides.held l.sides (other l.incoming.side) in
    let was = g.D.Sides.held l.initial.sides (other l.incoming.side) in
    let meeting = meet_at l.band l.incoming.side (incoming_of l.incoming) in
    record {
      places : (l.place ≤ l.next) × (l.place < l.next → l.next ≤ length l.trades);
      left : l.lots ≤ l.incoming.lots;
      keeps : (s : Side) → g.D.Sides.lawful l.initial.sides s → g.D.Sides.lawful l.sides s;
      same : g.D.Sides.same_queues l.initial.sides l.sides;
      own : g.D.Sides.held l.sides l.incoming.side ≡ g.D.Sides.held l.initial.sides l.incoming.side;
      capacity : g.D.Sides.lawful l.initial.sides (other l.incoming.side) → held.capacity ≡ was.capacity;
      fits : g.D.Sides.lawful l.initial.sides (other l.incoming.side) → Fits was.elements l.place l.initial.trades → 0 < l.lots → Fits held.elements l.next l.trades;
      meets : g.D.Sides.lawful l.initial.sides (other l.incoming.side)
          → Fits was.elements l.place l.initial.trades
          → meeting l.lots held.elements l.next l.trades ≡ meeting l.incoming.lots was.elements l.place l.initial.trades;
    }

abbrev pub decreases-loop-lots : goal.decreases-loop-lots
decreases-loop-lots g l = length l.trades - l.next
