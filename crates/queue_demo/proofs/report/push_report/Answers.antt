use Rattle.std.proofs.Common.{◌≡◌, get_or, string_bytes, ap, ◌∙◌, rules}
use Rattle.queue_demo.specs.Reports.{opens}
use Rattle.queue_demo.proofs.Lines.{blank, price_new, price_same, lines_more, lines_all}
use Rattle.queue_demo.proofs.report.push_report.Goals as goal
use Rattle.queue_demo.proofs.report.push_report.Goals.{then-ne+in_ok-push_price, else-ne}

pub loop-o-preserved : goal.loop-o-preserved
loop-o-preserved c =
    let os = c.args.orders.now in
    let i = c.loop-o.o-index in
    let test : opens c.loop-o.last (get_or os i blank).0.price ≡ c.ne.result = search rules in
    lines_more os i blank c.loop-o.last (string_bytes c.loop-o.text) (string_bytes c.if-ne.text) (string_bytes c.push_order.new.text) _ c.loop-o-test.true
    (elim c.if-ne.branch [
      | then-ne+in_ok-push_price w ↦ price_new _ _ _ _ _ _ (test ∙ w.if-ne.true) w.lots_at.ensures (ap string_bytes w.text-is ∙ w.in_ok-push_price.ensures)
      | else-ne w ↦ price_same _ _ _ _ (test ∙ w.if-ne.false) (ap string_bytes w.text-is)
    ])
    c.in_ok-push_order.ensures c.loop-o.invariant

pub returns : goal.returns
returns c =
    lines_all c.args.orders.now c.loop-o.o-index c.loop-o.last _ (string_bytes c.args.text.now) c.args.title.now _ c.loop-o-test.false c.in_ok-writeln.ensures.bytes
    c.loop-o.invariant
