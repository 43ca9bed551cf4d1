use Rattle.std.proofs.Common.{◌≡◌, ◌-◌, ◌≤◌, length}
use Rattle.terms.specs.declared.side.Side.{Side}
use Rattle.terms.specs.declared.side.Side.TheVariants.{Buy, Sell}
use Rattle.rules.specs.Tables.{FitsBoth, sweep_at}
use Rattle.book.proofs.sweep.sweep.Given as goal

-- what is written, and then the sweep of what is left, is the whole sweep
abbrev pub invariant-loop-buy : goal.invariant-loop-buy
invariant-loop-buy g l =
    let held = g.D.Sides.held l.sides in
    let was = g.D.Sides.held l.initial.sides in
    let lawful = (s : Side) → g.D.Sides.lawful l.initial.sides s in
    record {
      places : l.place ≤ length l.trades;
      keeps : (s : Side) → g.D.Sides.lawful l.initial.sides s → g.D.Sides.lawful l.sides s;
      same : g.D.Sides.same_queues l.initial.sides l.sides;
      capacity : lawful → ((held Buy).capacity ≡ (was Buy).capacity) × ((held Sell).capacity ≡ (was Sell).capacity);
      fits : lawful → FitsBoth (was Buy).elements (was Sell).elements 0 l.initial.trades → FitsBoth (held Buy).elements (held Sell).elements l.place l.trades;
      sweeps : lawful
          → FitsBoth (was Buy).elements (was Sell).elements 0 l.initial.trades
          → sweep_at l.band (held Buy).elements (held Sell).elements l.place l.trades ≡ sweep_at l.band (was Buy).elements (was Sell).elements 0 l.initial.trades;
    }

abbrev pub decreases-loop-buy : goal.decreases-loop-buy
decreases-loop-buy g l = length l.trades - l.place
