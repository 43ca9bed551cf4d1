use Rattle.std.proofs.Common.{◌-◌, sym, ap, ◌∙◌, arith}
use Rattle.terms.specs.declared.side.Side.TheVariants.{Buy, Sell}
use Rattle.queue.proofs.Puts.{unless_capacity}
use Rattle.queue.specs.Held.{after_cut}
use Rattle.orders.specs.Priority.{rank_of}
use Rattle.terms.specs.declared.side.Side.{Side}
use Rattle.rules.specs.Tables.{FitsBoth}
use Rattle.rules.proofs.Placing.{within_table}
use Rattle.rules.proofs.Sweeps.{round_goes_on, round_ends}
use Rattle.book.proofs.sweep.sweep.Goals as goal

pub loop-buy-preserved : goal.loop-buy-preserved
loop-buy-preserved g c =
    let v = c.loop-buy.invariant in
    let met = c.meet-met in
    let held = g.D.Sides.held c.loop-buy.sides in
    let held₁ = g.D.Sides.held met.new.sides in
    let held' = g.D.Sides.held c.cut.new.self in
    let buy = c.in-Some.buy in
    let cut = λ (l : (s : Side) → g.D.Sides.lawful c.args.sides.now s). c.cut.ensures.leaves (met.ensures.keeps Buy (v.keeps Buy (l Buy))) ∙ ap (λ h. after_cut (rank_of Buy) h buy.number (buy.lots - met.result.left)) met.ensures.own in
    let on =
    λ (l : (s : Side) → g.D.Sides.lawful c.args.sides.now s) (f : FitsBoth (g.D.Sides.held c.args.sides.now Buy).elements (g.D.Sides.held c.args.sides.now Sell).elements 0 c.args.trades.now).
    round_goes_on (held Buy) (held' Buy) buy (c.in-Some.ensures (v.keeps Buy (l Buy))) c.args.band (held Sell).elements c.loop-buy.place c.loop-buy.trades met.new.trades met.result.place met.result.left (held' Sell).elements (v.fits l f)
    (λ w. (λ i. record { table = met.new.trades; place = met.result.place; left = met.result.left; rest = (c.cut.ensures.stays i).elements }) ∙ met.ensures.meets (v.keeps Sell (l Sell)) w)
    (cut l) (omega arith) in
    record {
      places = within_table c.loop-buy.place met.result.place _ _ v.places met.ensures.places (sym met.auto.trades);
      keeps = λ s l. c.cut.ensures.keeps s (met.ensures.keeps s (v.keeps s l));
      same = g.met.D.Sides.same_still _ _ _ v.same (g.met.D.Sides.same_still _ _ _ met.ensures.same c.cut.ensures.same);
      capacity = λ l. (
        ap (λ h. h.capacity) (cut l) ∙ unless_capacity _ (held Buy) _ ∙ (v.capacity l).0,
        ap (λ h. h.capacity) c.cut.ensures.stays ∙ met.ensures.capacity (v.keeps Sell (l Sell)) ∙ (v.capacity l).1,
      );
      fits = λ l f. (on l f).0;
      sweeps = λ l f. (on l f).1 ∙ v.sweeps l f;
    }

pub returns-then-met-gt0-clause-sweeps : goal.returns-then-met-gt0-clause-sweeps
returns-then-met-gt0-clause-sweeps g c l f =
    let v = c.loop-buy.invariant in
    let met = c.meet-met in
    let held = g.D.Sides.held c.loop-buy.sides in
    let held' = g.D.Sides.held c.cut.new.self in
    let buy = c.in-Some.buy in
    let cut = c.cut.ensures.leaves (met.ensures.keeps Buy (v.keeps Buy (l Buy))) ∙ ap (λ h. after_cut (rank_of Buy) h buy.number (buy.lots - met.result.left)) met.ensures.own in
    round_ends (held Buy) (held' Buy) buy (c.in-Some.ensures (v.keeps Buy (l Buy))) c.args.band (held Sell).elements c.loop-buy.place c.loop-buy.trades met.new.trades met.result.place met.result.left (held' Sell).elements (v.fits l f)
    (λ w. (λ i. record { table = met.new.trades; place = met.result.place; left = met.result.left; rest = (c.cut.ensures.stays i).elements }) ∙ met.ensures.meets (v.keeps Sell (l Sell)) w)
    cut c.then-met-gt0.either
    ∙ v.sweeps l f
