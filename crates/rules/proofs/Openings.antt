-- An accepted opening begins a day.
use Rattle.std.proofs.Common.{◌≡◌, ◌≤◌, false, not, ◌||◌, [], ◌∷◌, length, None, sym, subst, arith}
use Rattle.std.proofs.lemmas.List.{nil_from_length}
use Rattle.std.proofs.lemmas.Bool.{or_parts, not-false}
use Rattle.std.proofs.lemmas.Bool.Decides.{nat_tests}
use Rattle.terms.specs.Setups.{instrument_allowed}
use Rattle.terms.specs.declared.refusal.Refusal.TheVariants.{OutsideLimits, UnfitQueue}
use Rattle.terms.specs.declared.setup.Instrument.{Instrument}
use Rattle.queue.specs.Held.{Held}
use Rattle.orders.specs.declared.order.Order.{Order}
use Rattle.rules.specs.Book.{Answers, waiting}
use Rattle.rules.specs.Laws.{Lawful}
use Rattle.rules.specs.Opening.{opening_refusal, fit}
use Rattle.rules.specs.Rules.{Day, opened}
use Rattle.rules.proofs.Theorem.{passed, lawful}

fit_is : (h : Held Order) → not (fit h) ≡ false → (h.elements ≡ []) × (1 ≤ h.capacity) × (h.capacity ≤ 1024)
fit_is h e =
    let t = not-false (fit h) e in
    let z : length h.elements ≡ 0 = grind (arith, nat_tests) in
    (nil_from_length h.elements z, grind (arith, nat_tests), grind (arith, nat_tests))

pub opened_by : (i : Instrument) (buys sells : Held Order) (range : Answers) → opening_refusal i buys sells ≡ None → Day range [] (record { phase = waiting; terms = i; next = 1; quote = None; buys = buys; sells = sells; range = range })
opened_by i buys sells range h =
    let p = passed ((OutsideLimits, not (instrument_allowed i)) ∷ ((UnfitQueue, not (fit buys) || not (fit sells)) ∷ [])) h in
    let q = or_parts (not (fit buys)) (not (fit sells)) p.1.0 in
    let x = fit_is buys q.0 in
    let y = fit_is sells q.1 in
    subst
    (λ b. Day range [] b)
    (λ j. record { phase = waiting; terms = i; next = 1; quote = None; buys = record { capacity = buys.capacity; elements = sym x.0 j }; sells = record { capacity = sells.capacity; elements = sym y.0 j }; range = range })
    (opened i buys.capacity sells.capacity (not-false (instrument_allowed i) p.0) (x.1, x.2) (y.1, y.2))

pub opens_a_day : (i : Instrument) (buys sells : Held Order) (range : Answers) → opening_refusal i buys sells ≡ None → Day range [] (record { phase = waiting; terms = i; next = 1; quote = None; buys = buys; sells = sells; range = range }) × Lawful range [] (record { phase = waiting; terms = i; next = 1; quote = None; buys = buys; sells = sells; range = range })
opens_a_day i buys sells range h = let d = opened_by i buys sells range h in (d, lawful d)
