use Rattle.std.proofs.Common.{◌≡◌, map, length, take, drop, string_bytes, sym, ap, ◌∙◌, arith}
use Rattle.tape.specs.Lines.{lines_of}
use Rattle.tape_dump.specs.Dumps.{reading_of, dumped, entry_of}
use Rattle.tape_dump.proofs.Back.{dump_back, dump_covers, setup_known}
use Rattle.tape_dump.proofs.Lines.{dumped_read, dumped_refused}
use Rattle.tape_dump.proofs.dump.dump_tape.Goals as goal
use Rattle.tape_dump.proofs.dump.dump_tape.Goals.{in-Ok+in_ok-push_setup-in-Ok+in_ok-push_messages-in-Ok, in-Err+in_ok-push_stop-in-Err+in_ok-push_count-in-Err}

pub push_messages-requires : goal.push_messages-requires
push_messages-requires c =
    (setup_known c.args.tape.now c.in-Ok.setup c.in-Ok.rest.now (λ i. omega (arith, c.type_inv.tape i)) (sym c.in-Ok.ensures)).2

pub returns : goal.returns
returns c =
    let tape = c.args.tape.now in
    let prints : string_bytes c.match-read_start.text ≡ dumped tape =
    elim c.match-read_start.branch [
      | in-Ok+in_ok-push_setup-in-Ok+in_ok-push_messages-in-Ok w ↦
          ap string_bytes w.text-is
          ∙ dumped_read tape w.in-Ok.setup w.in-Ok.rest.now _ _ _ w.in-Ok.ensures c.new-text.ensures.bytes w.in_ok-push_setup-in-Ok.ensures w.in_ok-push_messages-in-Ok.ensures
      | in-Err+in_ok-push_stop-in-Err+in_ok-push_count-in-Err w ↦
          ap string_bytes w.text-is
          ∙ dumped_refused tape w.in-Err.refusal _ _ _ w.in-Err.ensures c.new-text.ensures.bytes w.in_ok-push_stop-in-Err.ensures w.in_ok-push_count-in-Err.ensures
    ] in
    record {
      prints = prints;
      covers = dump_covers tape (λ i. omega (arith, c.type_inv.tape i));
      reads_back =
          ap (λ bs. map entry_of (take (length (reading_of tape).messages) (drop 1 (lines_of bs)))) prints
          ∙ dump_back tape (λ i. omega (arith, c.type_inv.tape i)) (omega arith);
    }
