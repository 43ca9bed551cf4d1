use Rattle.std.proofs.Common.{Some, sym, ap, ◌∙◌, cond, None}
use Rattle.std.proofs.lemmas.Result.{err_from_is_err_and}
use Rattle.terms.specs.declared.refusal.Refusal.TheVariants.{AlreadyHeld}
use Rattle.rules.specs.Checks.{first_of, found_checks}
use Rattle.rules.proofs.Passing.{refused_by, passed_by}
use Rattle.book.specs.Books.{book_of}
use Rattle.book.specs.Changes.{phase_in, band_in}
use Rattle.book.proofs.Changes.{risen, turn_taken}
use Rattle.book.proofs.OnSides.{taken_on}
use Rattle.book.proofs.Refusing.{passes, refuses}
use Rattle.book.proofs.phase.Book.check_found.Goals as goal

pub returns-in_err-check_rise-clause-answers : goal.returns-in_err-check_rise-clause-answers
returns-in_err-check_rise-clause-answers g c l =
    let p = err_from_is_err_and c.from_residual-in_err-check_rise.result c.from_residual-in_err-check_rise.ensures.1 in
    let s = c.args.setting in
    let held = g.D.Sides.held c.args.sides.now in
    let here = sym (c.find_order.ensures l) ∙ c.in-Some.is in
    rw (p.1, p.2)
    (ap (λ o. first_of (found_checks c.args.change.now o (book_of (phase_in s) c.args.self.now.terms c.args.self.now.next (g.P.DayPhase.last c.args.self.now.phase) held (λ us. band_in s)))) here
    ∙ risen c.args.change.now c.in-Some.found c.args.self.now.terms c.args.self.now.next (g.P.DayPhase.last c.args.self.now.phase) held (passes _ _ c.in_ok-refuse_if.ensures) s _ (sym (refused_by _ _ c.in_err-check_rise.ensures)))

pub returns-in_err-refuse_if-2-clause-answers : goal.returns-in_err-refuse_if-2-clause-answers
returns-in_err-refuse_if-2-clause-answers g c l =
    let p = err_from_is_err_and c.from_residual-in_err-refuse_if-2.result c.from_residual-in_err-refuse_if-2.ensures.1 in
    let s = c.args.setting in
    let held = g.D.Sides.held c.args.sides.now in
    let here = sym (c.find_order.ensures l) ∙ c.in-Some.is in
    let why = refuses _ _ c.in_err-refuse_if-2.ensures in
    rw (p.1, p.2)
    (ap (λ o. first_of (found_checks c.args.change.now o (book_of (phase_in s) c.args.self.now.terms c.args.self.now.next (g.P.DayPhase.last c.args.self.now.phase) held (λ us. band_in s)))) here
    ∙ turn_taken c.args.change.now c.in-Some.found c.args.self.now.terms c.args.self.now.next (g.P.DayPhase.last c.args.self.now.phase) held (passes _ _ c.in_ok-refuse_if.ensures) s c.is_taken-taken.result (sym (passed_by _ _ c.in_ok-check_rise.ensures)) (sym c.if-not-keeps_place.ensures) (passes _ _ c.in_ok-check_turns.ensures) (taken_on held c.in-Some.found.side c.args.self.now.next (Some c.in-Some.found.order.number) c.is_taken-taken.ensures)
    ∙ ap (λ u. cond u (Some AlreadyHeld) None) why.0 ∙ ap (λ r. Some r) (sym why.1))

pub returns-in_ok-refuse_if-2-clause-answers : goal.returns-in_ok-refuse_if-2-clause-answers
returns-in_ok-refuse_if-2-clause-answers g c l =
    let s = c.args.setting in
    let held = g.D.Sides.held c.args.sides.now in
    let here = sym (c.find_order.ensures l) ∙ c.in-Some.is in (
      ap (λ o. first_of (found_checks c.args.change.now o (book_of (phase_in s) c.args.self.now.terms c.args.self.now.next (g.P.DayPhase.last c.args.self.now.phase) held (λ us. band_in s)))) here
          ∙ turn_taken c.args.change.now c.in-Some.found c.args.self.now.terms c.args.self.now.next (g.P.DayPhase.last c.args.self.now.phase) held (passes _ _ c.in_ok-refuse_if.ensures) s c.is_taken-taken.result (sym (passed_by _ _ c.in_ok-check_rise.ensures)) (sym c.if-not-keeps_place.ensures) (passes _ _ c.in_ok-check_turns.ensures) (taken_on held c.in-Some.found.side c.args.self.now.next (Some c.in-Some.found.order.number) c.is_taken-taken.ensures)
          ∙ ap (λ u. cond u (Some AlreadyHeld) None) (passes _ _ c.in_ok-refuse_if-2.ensures),
      here,
    )
