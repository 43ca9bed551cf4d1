use Rattle.std.proofs.Common.{◌≡◌, ◌+◌, length, decimal, ap, ◌∙◌, arith, rules}
use Rattle.std.proofs.lemmas.Slice.{between-put_mid, take-put_mid_below, drop-put_mid}
use Rattle.tape.proofs.Decimals.{spelled}
use Rattle.tape.proofs.decimal.write_decimal.Goals as goal

pub returns-clause-reads_back : goal.returns-clause-reads_back
returns-clause-reads_back c =
    let at = c.args.at in
    let end = c.in_ok-end.end in
    let e : end ≡ at + length (decimal c.args.n) = search rules in
    let long = ap length c.write_digits.ensures in
    spelled c.args.n at end c.args.out.now _ (omega arith) e
    (between-put_mid at _ c.args.out.now _ end (omega arith) (omega arith) ∙ c.write_digits.ensures)
    (take-put_mid_below at _ c.args.out.now _ at (omega arith) (omega arith))
    (drop-put_mid at _ c.args.out.now _ end (omega arith) (omega arith) (omega arith))
