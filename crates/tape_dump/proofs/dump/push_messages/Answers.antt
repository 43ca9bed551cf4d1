use Rattle.std.proofs.Common.{◌-◌, ◌++◌, length, string_bytes, sym, ap, ◌∙◌, arith, rules}
use Rattle.std.proofs.lemmas.Result.{IfOk-weaker}
use Rattle.std.specs.List.{flat_map}
use Rattle.tape.specs.Lines.{line}
use Rattle.tape.specs.Readings.{read_all}
use Rattle.tape.proofs.ReadAll.{message_shorter, message_bytes}
use Rattle.tape_dump.proofs.Lines.{lines_none, left_more, left_refused, left_none, grown}
use Rattle.tape_dump.proofs.dump.push_messages.Goals as goal

pub loop-rest-smaller : goal.loop-rest-smaller
loop-rest-smaller c = message_shorter _ _ _ c.loop-rest.invariant.0 (sym c.in-Ok.ensures.reads)

pub loop-rest-preserved : goal.loop-rest-preserved
loop-rest-preserved c =
    let v = c.loop-rest.invariant in
    let read = c.in-Ok.ensures.reads in
    let less = message_shorter _ _ _ v.0 (sym read) in (
      message_bytes _ _ _ v.0 (sym read),
      omega arith,
      grown _ _ _ _ _ _ c.in_ok-push_message-in-Ok.ensures (left_more _ c.loop-rest.messages _ _ _ v.0 (omega arith) read) v.2,
    )

pub returns-in-Err : goal.returns-in-Err
returns-in-Err c =
    let whole = ap (λ ls. string_bytes c.args.text.now ++ flat_map line ls) (lines_none (read_all (c.args.tape_len - length c.args.bytes.now) c.args.bytes.now)) in
    IfOk-weaker c.push_count.result _ _
    (λ _ e. e ∙ grown _ _ _ _ _ _ c.in_ok-push_stop-in-Err.ensures (left_refused _ c.loop-rest.messages _ _ (search rules) c.in-Err.ensures.reads) c.loop-rest.invariant.2 ∙ whole)
    c.push_count.ensures

pub returns : goal.returns
returns c =
    let whole = ap (λ ls. string_bytes c.args.text.now ++ flat_map line ls) (lines_none (read_all (c.args.tape_len - length c.args.bytes.now) c.args.bytes.now)) in
    IfOk-weaker c.push_count-2.result _ _
    (λ _ e. e ∙ ap (λ ys. string_bytes c.loop-rest.text ++ ys) (sym (left_none _ c.loop-rest.messages _ (search rules))) ∙ c.loop-rest.invariant.2 ∙ whole)
    c.push_count-2.ensures
