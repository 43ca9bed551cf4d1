use Rattle.std.proofs.Common.{◌≡◌, ◌-◌, false, length, take, Some, sym, refl, ap, ◌∙◌, subst, arith}
use Rattle.std.proofs.lemmas.Result.{err_from_is_err_and}
use Rattle.terms.specs.declared.side.Side.{Side}
use Rattle.terms.specs.declared.side.Side.TheVariants.{Buy, Sell}
use Rattle.queue.specs.Held.{after_cut, after_take}
use Rattle.orders.specs.Priority.{rank_of}
use Rattle.rules.proofs.Changing.{change-lowered, change-entered, changed_fits, changed_room}
use Rattle.rules.proofs.Ruled.{ruled_refused, answered_by, settled}
use Rattle.rules.proofs.Theorem.{passed}
use Rattle.rules.specs.Book.{trading, other, pick, traded_lots}
use Rattle.rules.specs.ByRule.{SoundBook}
use Rattle.rules.specs.Calls.{change}
use Rattle.rules.specs.Checks.{first_of, change_checks}
use Rattle.rules.specs.Tables.{Fits, Room, enter_at}
use Rattle.book.specs.Books.{book_of, trading_book}
use Rattle.book.proofs.OnSides.{picked, turned, entered}
use Rattle.book.proofs.change.Book+Trading.change.Goals as goal

pub returns-in_err-found : goal.returns-in_err-found
returns-in_err-found g c =
    let p = err_from_is_err_and c.from_residual.result c.from_residual.ensures.1 in
    let s = c.args.self.now in
    let held = g.D.Sides.held c.args.sides.now in
    let b = trading_book s held (g.R.PriceRange.answers c.args.range.now) in
    let n = length c.args.trades.now in
    let band = ap (λ r. first_of (change_checks c.args.change n (book_of trading s.terms s.next (Some s.phase.quote) held (λ us. r)))) c.band-band.ensures in
    let w = settled ((s : Side) → g.D.Sides.lawful c.args.sides.now s) (λ l. ruled_refused (change c.args.change n) b _ c.args.trades.now (sym band ∙ c.in_err-found.ensures.answers l)) in
    rw (p.1, p.2) (record { refused = (refl, refl, refl); keeps = λ t l. l; same = g.met.D.Sides.same_at_first _; by_rule = w.0; day = w.1 })

pub returns-then-keeps_place : goal.returns-then-keeps_place
returns-then-keeps_place g c =
    let s = c.args.self.now in
    let f = c.in_ok-found.found in
    let d = c.args.change in
    let held = g.D.Sides.held c.args.sides.now in
    let held' = g.D.Sides.held c.lower.new.sides in
    let b = trading_book s held (g.R.PriceRange.answers c.args.range.now) in
    let n = length c.args.trades.now in
    let band = ap (λ r. first_of (change_checks d n (book_of trading s.terms s.next (Some s.phase.quote) held (λ us. r)))) c.band-band.ensures in
    let w =
    settled ((s : Side) → g.D.Sides.lawful c.args.sides.now s)
    (λ l.
    let q = c.in_ok-found.ensures.answers l in
    let cut = c.lower.ensures.cuts l in
    answered_by c.lower.result c.lower.ensures.answers
    (change-lowered d n f b (sym band ∙ q.0) q.1 (held' Buy) (held' Sell) c.args.trades.now (sym c.if-keeps_place.ensures) (turned held held' f.side (λ h. after_cut (rank_of f.side) h d.order (f.order.lots - d.lots)) cut.0) (turned held held' (other f.side) (λ h. h) cut.1))) in
    record { refused = tt; keeps = c.lower.ensures.keeps; same = c.lower.ensures.same; by_rule = w.0; day = w.1 }

pub returns : goal.returns
returns g c =
    let s = c.args.self.now in
    let f = c.in_ok-found.found in
    let d = c.args.change in
    let held = g.D.Sides.held c.args.sides.now in
    let b = trading_book s held (g.R.PriceRange.answers c.args.range.now) in
    let n = length c.args.trades.now in
    let band = ap (λ r. first_of (change_checks d n (book_of trading s.terms s.next (Some s.phase.quote) held (λ us. r)))) c.band-band.ensures in
    let met = c.enter-met in
    let took = c.take in
    let held₁ = g.D.Sides.held took.new.self in
    let held' = g.D.Sides.held met.new.sides in
    let count : met.result.place - 0 ≡ met.result.place = omega arith in
    let w =
    settled ((s : Side) → g.D.Sides.lawful c.args.sides.now s)
    (λ l.
    let table = c.args.trades.now in
    let q = c.in_ok-found.ensures.answers l in
    let passes = sym band ∙ q.0 in
    let moves = sym c.if-keeps_place.ensures in
    let sound = g.met.D.Sides.sound c.args.sides.now in
    let both : SoundBook b = record { buys = sound Buy (l Buy); sells = sound Sell (l Sell) } in
    let out = turned held held₁ f.side (λ h. after_take (rank_of f.side) h d.order) (took.ensures.leaves (l f.side)) in
    let kept = turned held held₁ (other f.side) (λ h. h) took.ensures.stays in
    let fits = subst (λ h. Fits h.elements 0 table) (picked held₁ (other f.side)) (changed_fits d n f b passes q.1 moves both (held₁ Buy) (held₁ Sell) out kept table (passed (change_checks d n b) passes).1.1.1.0) in
    let room = subst (λ h. Room f.side h c.changed.result) (picked held₁ f.side) (subst (λ o. Room f.side (pick f.side (held₁ Buy) (held₁ Sell)) o) (sym c.changed.ensures) (changed_room d n f b passes q.1 moves both (held₁ Buy) (held₁ Sell) out kept)) in
    let x = entered held₁ held' f.side c.band-band.result false c.changed.result table met.new.trades met.result.place met.result.left (met.ensures.enters (λ t. took.ensures.keeps t (l t)) fits (λ _. room)) in
    answered_by c.change_answer.result c.change_answer.ensures
    (change-entered d n f b passes q.1 moves both (held₁ Buy) (held₁ Sell) out kept (held' Buy) (held' Sell) table met.new.trades met.result.place met.result.left c.traded_lots-traded.result c.band-band.result c.band-band.ensures
    (x ∙ ap (λ o. enter_at c.band-band.result false f.side o (pick f.side (held₁ Buy) (held₁ Sell)) (pick (other f.side) (held₁ Buy) (held₁ Sell)) table) c.changed.ensures)
    (c.traded_lots-traded.ensures ∙ ap (λ m. traded_lots (take m met.new.trades)) count))) in
    record {
      refused = tt;
      keeps = λ t l. met.ensures.keeps t (took.ensures.keeps t l);
      same = g.met.D.Sides.same_still _ _ _ took.ensures.same met.ensures.same;
      by_rule = w.0;
      day = w.1;
    }
