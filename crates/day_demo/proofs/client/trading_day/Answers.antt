use Rattle.terms.specs.declared.side.Side.{Side}
use Rattle.day_demo.proofs.client.trading_day.Goals as goal

-- each call's clause takes the day of the one before it
pub returns-clause-day : goal.returns-clause-day
returns-clause-day g c l₀ ρ shown =
    let quoted = c.in-Ok.ensures in
    let d₁ = (quoted.day l₀).day ρ _ shown.day in
    let l₁ = λ (s : Side). quoted.keeps s (l₀ s) in
    let d₂ = (c.order.ensures.day l₁).day ρ _ d₁ in
    let l₂ = λ (s : Side). c.order.ensures.keeps s (l₁ s) in
    let d₃ = (c.change.ensures.day l₂).day ρ _ d₂ in
    let l₃ = λ (s : Side). c.change.ensures.keeps s (l₂ s) in
    let d₄ = (c.halt-halted.ensures.day (g.D.Sides.held c.change.new.sides) _).day ρ _ d₃ in
    let d₅ = (c.change-2.ensures.day l₃ _).day ρ _ d₄ in
    let l₅ = λ (s : Side). c.change-2.ensures.keeps s (l₃ s) in
    let d₆ = (c.resume.ensures.day (g.D.Sides.held c.change-2.new.sides) _).day ρ _ d₅ in
    let again = c.in-Ok-quote.ensures in
    let d₇ = (again.day l₅).day ρ _ d₆ in
    let l₇ = λ (s : Side). again.keeps s (l₅ s) in
    let d₈ = (c.renew.ensures.day l₇).day ρ _ d₇ in
    let l₈ = λ (s : Side). c.renew.ensures.keeps s (l₇ s) in
    let last = c.end.ensures.day l₈ _ in
    record { events = _; day = last.day ρ _ d₈; lawful = last.lawful ρ _ d₈ }

pub returns-clause-same : goal.returns-clause-same
returns-clause-same g c =
    let still = g.met.D.Sides.same_still in
    still _ _ _ c.in-Ok.ensures.same (still _ _ _ c.order.ensures.same (still _ _ _ c.change.ensures.same (still _ _ _ c.change-2.ensures.same (still _ _ _ c.in-Ok-quote.ensures.same (still _ _ _ c.renew.ensures.same c.end.ensures.same)))))

pub returns-in-Err-quote-clause-same : goal.returns-in-Err-quote-clause-same
returns-in-Err-quote-clause-same g c =
    let still = g.met.D.Sides.same_still in
    still _ _ _ c.in-Ok.ensures.same (still _ _ _ c.order.ensures.same (still _ _ _ c.change.ensures.same (still _ _ _ c.change-2.ensures.same c.in-Err-quote.ensures.same)))
