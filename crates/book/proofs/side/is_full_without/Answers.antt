use Rattle.std.proofs.Common.{ltb, leb, sym, ◌∙◌}
use Rattle.rules.proofs.Legs.{full_rests, full_gone}
use Rattle.book.proofs.side.is_full_without.Goals as goal

pub returns-then-holds_leg : goal.returns-then-holds_leg
returns-then-holds_leg g c l =
    (λ i. ltb (c.capacity-capacity.ensures i) (c.count-count.ensures i)) ∙ full_rests c.args.leg (g.D.Sides.held c.args.sides.now c.args.side) (sym (c.if-holds_leg.ensures l))

pub returns-else-holds_leg : goal.returns-else-holds_leg
returns-else-holds_leg g c l =
    (λ i. leb (c.capacity-capacity.ensures i) (c.count-count.ensures i)) ∙ full_gone c.args.leg (g.D.Sides.held c.args.sides.now c.args.side) (sym (c.if-holds_leg.ensures l))
