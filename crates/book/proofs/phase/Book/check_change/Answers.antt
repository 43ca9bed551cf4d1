use Rattle.std.proofs.Common.{◌≡◌, ◌+◌, false, ◌&&◌, ltb, sym, refl, subst}
use Rattle.rules.specs.Checks.{first_of, found_checks, change_checks, found, is_trading}
use Rattle.book.specs.Books.{book_of}
use Rattle.book.specs.Changes.{phase_in, band_in, Checked}
use Rattle.terms.specs.declared.side.Side.TheVariants.{Buy, Sell}
use Rattle.book.proofs.Refusing.{passes}
use Rattle.book.proofs.phase.Book.check_change.Goals as goal

pub returns-clause-answers : goal.returns-clause-answers
returns-clause-answers g c l =
    let s = c.args.setting in
    let change = c.args.change.now in
    let held = g.D.Sides.held c.args.sides.now in
    let b = book_of (phase_in s) c.args.self.now.terms c.args.self.now.next (g.P.DayPhase.last c.args.self.now.phase) held (λ us. band_in s) in
    let long : (is_trading (phase_in s) && ltb c.args.places ((held Buy).capacity + (held Sell).capacity)) ≡ false = passes _ _ c.in_ok-check_places.ensures in
    let same : first_of (change_checks change c.args.places b) ≡ first_of (found_checks change (found b change.order) b) = rw (passes _ _ c.in_ok-check_member.ensures, passes _ _ c.in_ok-check_price.ensures, passes _ _ c.in_ok-check_lots.ensures, long) refl in
    subst (Checked c.check_found.result (found b change.order)) (sym same) (c.check_found.ensures.answers l)
