use Rattle.std.proofs.Common.{◌≡◌, ◌∷◌, ◌++◌, string_bytes, decimal, sym, ap, ◌∙◌, append_assoc, rules, arith}
use Rattle.std.proofs.lemmas.List.{take_all}
use Rattle.tape.specs.Lines.{spaced}
use Rattle.tape_dump.proofs.Pushes.{spaced_more}
use Rattle.tape_dump.proofs.text.push_numbers.Goals as goal

pub loop-n-preserved : goal.loop-n-preserved
loop-n-preserved c =
    let n = c.from.result in
    let step : string_bytes c.push_str.new.self ≡ string_bytes c.loop-n.text ++ (32 ∷ decimal n) = search (rules, append_assoc) in
    step ∙ ap (λ bs. bs ++ (32 ∷ decimal n)) c.loop-n.invariant
    ∙ spaced_more (string_bytes c.args.text.now) c.args.numbers.now c.loop-n.n-index n (omega arith) (sym c.from.ensures)

pub returns : goal.returns
returns c = c.loop-n.invariant ∙ ap (λ ns. string_bytes c.args.text.now ++ spaced ns) (take_all c.loop-n.n-index c.args.numbers.now (omega arith))
