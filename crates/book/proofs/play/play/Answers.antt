use Rattle.std.proofs.Common.{◌≡◌, length, sym, ap, ◌∙◌, subst}
use Rattle.rules.proofs.Theorem.{day_after, lawful}
use Rattle.rules.specs.Laws.{Lawful}
use Rattle.rules.specs.Rules.{Day, after, history}
use Rattle.book.specs.Dispatch.{calls_of, phase_book}
use Rattle.book.proofs.Plays.{play_next, play_done}
use Rattle.book.proofs.play.play.Goals as goal

pub loop-call-preserved : goal.loop-call-preserved
loop-call-preserved g c =
    let v = c.loop-call.invariant in
    let x = c.call-after in
    record {
      keeps = λ s l. x.ensures.keeps s (v.keeps s l);
      same = g.met.D.Sides.same_still _ _ _ v.same x.ensures.same;
      leads = λ l.
          let w = play_next (length c.args.trades.now) c.args.calls.now c.loop-call.call-index _ (length c.loop-call.trades) _ _ _ _ _ c.loop-call-test.true c.loop-call.auto.trades (x.ensures.by_rule (λ s. v.keeps s (l s))) in
          (w.0 ∙ (v.leads l).0, w.1 ∙ (v.leads l).1);
    }

pub returns-clause-day : goal.returns-clause-day
returns-clause-day g c l range h d =
    let n = length c.args.trades.now in
    let cs = calls_of c.args.calls.now n in
    let b = phase_book c.args.phase (g.D.Sides.held c.args.sides.now) (g.R.PriceRange.answers c.args.range.now) in
    let b' = phase_book c.loop-call.phase (g.D.Sides.held c.loop-call.sides) (g.R.PriceRange.answers c.loop-call.range) in
    let none = play_done n c.args.calls.now c.loop-call.call-index c.loop-call-test.false in
    let same : after cs b ≡ b' = sym (sym (ap (λ ds. after ds b') none) ∙ (c.loop-call.invariant.leads l).0) in
    let day = day_after cs h b d in
    (subst (Day range (history cs b h)) same day, subst (Lawful range (history cs b h)) same (lawful day))
