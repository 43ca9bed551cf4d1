use Rattle.std.proofs.Common.{◌≡◌, length, drop}
use Rattle.terms.specs.declared.side.Side.{Side}
use Rattle.rules.specs.Rules.{after, table_after}
use Rattle.book.specs.Dispatch.{calls_of, phase_book}
use Rattle.book.proofs.play.play.Given as goal

-- the calls that are left, on the book as it is, lead where all calls lead
abbrev pub invariant-loop-call : goal.invariant-loop-call
invariant-loop-call g l =
    let n = length l.initial.trades in
    let b = phase_book l.phase (g.D.Sides.held l.sides) (g.R.PriceRange.answers l.range) in
    let b₀ = phase_book l.initial.phase (g.D.Sides.held l.initial.sides) (g.R.PriceRange.answers l.initial.range) in
    let rest = calls_of (drop l.call-index l.calls) n in
    record {
      keeps : (s : Side) → g.D.Sides.lawful l.initial.sides s → g.D.Sides.lawful l.sides s;
      same : g.D.Sides.same_queues l.initial.sides l.sides;
      leads : ((s : Side) → g.D.Sides.lawful l.initial.sides s)
          → (after rest b ≡ after (calls_of l.calls n) b₀) × (table_after rest b l.trades ≡ table_after (calls_of l.calls n) b₀ l.initial.trades);
    }
