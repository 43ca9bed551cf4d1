use Rattle.std.proofs.Common.{◌≡◌, ◌-◌, ◌<◌, set, Some, sym, ap, ◌∙◌, subst, ⊎_elim, arith, length-set}
use Rattle.queue.proofs.Puts.{unless_capacity}
use Rattle.queue.specs.Held.{after_cut, head}
use Rattle.orders.specs.Priority.{rank_of}
use Rattle.rules.specs.Book.{other}
use Rattle.rules.specs.Tables.{Fits}
use Rattle.rules.proofs.Tables.{Onward, meet_cut, meet_done, stops_full}
use Rattle.book.specs.Matching.{incoming_of}
use Rattle.book.proofs.OnSides.{other-other}
use Rattle.book.proofs.matching.meet.Goals as goal

pub loop-lots-preserved : goal.loop-lots-preserved
loop-lots-preserved g c =
    let v = c.loop-lots.invariant in
    let s = c.args.incoming.now.side in
    let i = incoming_of c.args.incoming.now in
    let k = c.loop-lots.lots in
    let d = c.min-dealt.result in
    let o = c.in-Some.resting in
    let held = g.D.Sides.held c.loop-lots.sides in
    let held' = g.D.Sides.held c.cut.new.self in
    let opposite = c.other-opposite.ensures in
    let some : 0 < k = omega (arith, c.if-lots-eq0.false) in
    let left = subst (λ t. g.D.Sides.lawful c.loop-lots.sides t → held' t ≡ after_cut (rank_of t) (held t) o.number d) opposite c.cut.ensures.leaves in
    let first = subst (λ t. g.D.Sides.lawful c.loop-lots.sides t → Some o ≡ head (held t).elements) opposite c.in-Some.ensures in
    let stays = subst (λ t. held' t ≡ held t) (ap other opposite ∙ other-other s) c.cut.ensures.stays in
    let on =
    λ (l : g.D.Sides.lawful c.args.sides.now (other s)) (f : Fits (g.D.Sides.held c.args.sides.now (other s)).elements c.args.place c.args.trades.now).
    subst (λ t. Onward c.args.band s i k (held (other s)).elements c.loop-lots.next c.loop-lots.trades (k - d) (held' (other s)).elements (set c.loop-lots.trades c.loop-lots.next t)) (sym c.trade.ensures)
    (meet_cut (other s) (held (other s)) o (first (v.keeps (other s) l)) c.args.band s i k d c.loop-lots.next c.loop-lots.trades (held' (other s)) some c.min-dealt.ensures (sym c.if-not-can_meet.ensures) (v.fits l f some) (left (v.keeps (other s) l))) in
    record {
      places = (omega (arith, v.places.0), λ h. omega (arith, length-set c.loop-lots.trades c.loop-lots.next c.trade.result));
      left = omega (arith, v.left);
      keeps = λ t l. c.cut.ensures.keeps t (v.keeps t l);
      same = g.met.D.Sides.same_still _ _ _ v.same c.cut.ensures.same;
      own = stays ∙ v.own;
      capacity = λ l. ap (λ h. h.capacity) (left (v.keeps (other s) l)) ∙ unless_capacity _ (held (other s)) _ ∙ v.capacity l;
      fits = λ l f. (on l f).fits;
      meets = λ l f. (on l f).meets ∙ v.meets l f;
    }

pub returns-then-lots-eq0-clause-meets : goal.returns-then-lots-eq0-clause-meets
returns-then-lots-eq0-clause-meets g c l f =
    let v = c.loop-lots.invariant in
    let s = c.args.incoming.now.side in
    let i = incoming_of c.args.incoming.now in
    let os = (g.D.Sides.held c.loop-lots.sides (other s)).elements in
    ⊎_elim (λ e. meet_done c.args.band s i c.loop-lots.lots os c.loop-lots.next c.loop-lots.trades e)
    (λ e. stops_full os c.args.band s i c.loop-lots.lots c.loop-lots.next c.loop-lots.trades e.1 (v.fits l f (omega (arith, e.0)))) c.then-lots-eq0.either
    ∙ v.meets l f
