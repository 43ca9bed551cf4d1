-- The tests of an order that was found.
use Rattle.std.proofs.Common.{◌≡◌, ℕ, Bool, true, false, cond, Some, None, Option, sym, refl, ap, ◌∙◌, arith}
use Rattle.terms.specs.declared.message.OrderChange.{OrderChange}
use Rattle.terms.specs.declared.message.Quoted.{Quoted}
use Rattle.terms.specs.declared.refusal.Refusal.{Refusal}
use Rattle.terms.specs.declared.refusal.Refusal.TheVariants.{HaltedRise, BeyondRange, TurnsUsedUp, AlreadyHeld}
use Rattle.terms.specs.declared.setup.Instrument.{Instrument}
use Rattle.terms.specs.declared.side.Side.{Side}
use Rattle.queue.specs.Held.{Held}
use Rattle.orders.specs.declared.order.Found.{Found}
use Rattle.orders.specs.declared.order.Order.{Order}
use Rattle.rules.specs.Book.{Book}
use Rattle.rules.specs.Checks.{first_of, found_checks, not_owner, rises, beyond_range, change_needs_turn, change_takes, keeps_place, turns_used_up, taken}
use Rattle.book.specs.Books.{book_of}
use Rattle.book.specs.Changes.{phase_in, band_in, rise_in}
use Rattle.book.specs.declared.change_checks.Setting.{Setting}
use Rattle.book.specs.declared.change_checks.Setting.TheVariants.{Trading, Halted}

module _ (c : OrderChange) (f : Found) (terms : Instrument) (next : ℕ) (quote : Option Quoted) (held : Side → Held Order) (owner : not_owner c.member f ≡ false) where
  abbrev book_in : Setting → Book
  book_in s = book_of (phase_in s) terms next quote held (λ us. band_in s)

  abbrev turn_checks : Setting → Option Refusal
  turn_checks s = cond (change_needs_turn c (book_in s) f) (Some TurnsUsedUp) (cond (change_takes c (book_in s) f) (Some AlreadyHeld) None)

  pub risen : (s : Setting) (e : Refusal) → Some e ≡ rise_in s c f → first_of (found_checks c (Some f) (book_of (phase_in s) terms next quote held (λ us. band_in s))) ≡ Some e
  risen (Trading r) e h = rw owner (go (beyond_range c r f) h)
    where
      go : (t : Bool) → Some e ≡ cond t (Some BeyondRange) None → cond t (Some BeyondRange) (turn_checks (Trading r)) ≡ Some e
      go true i = sym i
      go false i = let z : ◌≡◌ {A = ℕ} 0 1 = cc in absurd (omega arith)
  risen Halted e h = rw owner (go (rises c f) h)
    where
      go : (t : Bool) → Some e ≡ cond t (Some HaltedRise) None → cond t (Some HaltedRise) (turn_checks Halted) ≡ Some e
      go true i = sym i
      go false i = let z : ◌≡◌ {A = ℕ} 0 1 = cc in absurd (omega arith)

  not_risen : (s : Setting) → None ≡ rise_in s c f → first_of (found_checks c (Some f) (book_in s)) ≡ turn_checks s
  not_risen (Trading r) h = rw owner (go (beyond_range c r f) h)
    where
      go : (t : Bool) → None ≡ cond t (Some BeyondRange) None → cond t (Some BeyondRange) (turn_checks (Trading r)) ≡ turn_checks (Trading r)
      go true i = let z : ◌≡◌ {A = ℕ} 0 1 = cc in absurd (omega arith)
      go false i = refl
  not_risen Halted h = rw owner (go (rises c f) h)
    where
      go : (t : Bool) → None ≡ cond t (Some HaltedRise) None → cond t (Some HaltedRise) (turn_checks Halted) ≡ turn_checks Halted
      go true i = let z : ◌≡◌ {A = ℕ} 0 1 = cc in absurd (omega arith)
      go false i = refl

  pub turn_taken : (s : Setting) (u : Bool) → None ≡ rise_in s c f → keeps_place c f.order ≡ false → turns_used_up 1 next ≡ false → u ≡ taken f.side next (Some f.order.number) (book_in s) → first_of (found_checks c (Some f) (book_of (phase_in s) terms next quote held (λ us. band_in s))) ≡ cond u (Some AlreadyHeld) None
  turn_taken s u h k t e = not_risen s h ∙ rw (k, t) (ap (λ x. cond x (Some AlreadyHeld) None) (sym e))
