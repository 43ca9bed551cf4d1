use Rattle.std.proofs.Common.{◌∙◌, arith, rules}
use Rattle.std.proofs.lemmas.Result.{err_from_is_err_and}
use Rattle.tape.proofs.Numbers.{read_empty, read_last, read_fifth, read_more, lowest_zero, lowest_some, pow_step, pow_first, pow_room}
use Rattle.tape.proofs.number.+read_groups.Goals as goal

pub returns-in-empty-clause-reads : goal.returns-in-empty-clause-reads
returns-in-empty-clause-reads t c = read_empty c.args.more c.args.bytes.now (search rules)

pub returns-then-byte-lt128-clause-reads : goal.returns-then-byte-lt128-clause-reads
returns-then-byte-lt128-clause-reads t c = read_last c.args.more c.args.bytes.now (search rules) c.if-byte-lt128.true

pub returns-then-byte-lt128-clause-bound : goal.returns-then-byte-lt128-clause-bound
returns-then-byte-lt128-clause-bound t c = omega (arith, pow_first c.args.more)

pub returns-then-more-eq0-clause-reads : goal.returns-then-more-eq0-clause-reads
returns-then-more-eq0-clause-reads t c = rw c.if-more-eq0.true (read_fifth c.args.bytes.now (search rules) c.if-byte-lt128.false)

pub returns-in_err-high-in-len1-up-clause-reads : goal.returns-in_err-high-in-len1-up-clause-reads
returns-in_err-high-in-len1-up-clause-reads t c =
    let p = err_from_is_err_and c.from_residual.result c.from_residual.ensures.1 in
    rw (p.1, p.2)
    (read_more c.args.more c.args.bytes.now _ (search rules) c.if-byte-lt128.false (omega arith) c.in_err-high-in-len1-up.ensures.reads)

pub returns-then-high-eq0-clause-reads : goal.returns-then-high-eq0-clause-reads
returns-then-high-eq0-clause-reads t c =
    lowest_zero _ _ _ c.if-high-eq0.true
    ∙ read_more c.args.more c.args.bytes.now _ (search rules) c.if-byte-lt128.false (omega arith) c.in_ok-high-in-len1-up.ensures.reads

pub overflow_mul-result : goal.overflow_mul-result
overflow_mul-result t c =
    omega (arith, c.in_ok-high-in-len1-up.ensures.bound, pow_step c.args.more (omega arith), pow_room c.args.more c.requires)

pub overflow_add-result : goal.overflow_add-result
overflow_add-result t c =
    omega (arith, c.type_inv.bytes 0, c.in_ok-high-in-len1-up.ensures.bound, pow_step c.args.more (omega arith), pow_room c.args.more c.requires)

pub returns-else-high-eq0 : goal.returns-else-high-eq0
returns-else-high-eq0 t c =
    record {
      reads =
          lowest_some _ _ _ c.if-high-eq0.false
          ∙ read_more c.args.more c.args.bytes.now _ (search rules) c.if-byte-lt128.false (omega arith) c.in_ok-high-in-len1-up.ensures.reads;
      bound = omega (arith, c.type_inv.bytes 0, c.in_ok-high-in-len1-up.ensures.bound, pow_step c.args.more (omega arith));
    }
