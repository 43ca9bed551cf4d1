-- What one side holds, and the two sides of a book.
use Rattle.std.proofs.Common.{◌≡◌, ℕ, Bool, List, Option, sym, refl, ap, ◌∙◌}
use Rattle.terms.specs.declared.side.Side.{Side}
use Rattle.terms.specs.declared.side.Side.TheVariants.{Buy, Sell}
use Rattle.terms.specs.declared.trade.Trade.{Trade}
use Rattle.queue.specs.Held.{Held, any, takes}
use Rattle.orders.specs.Priority.{rank_of}
use Rattle.orders.specs.declared.order.Order.{Order}
use Rattle.price_range.specs.declared.band.Band.{Band}
use Rattle.rules.specs.Book.{other, pick}
use Rattle.rules.specs.Tables.{enter_at}

pub other-other : (s : Side) → other (other s) ≡ s
other-other Buy = refl
other-other Sell = refl

-- a side of a book is that side
pub picked : {A : Type 0} (h : Side → A) (s : Side) → pick s (h Buy) (h Sell) ≡ h s
picked h Buy = refl
picked h Sell = refl

-- what became of a side, and of the book
pub turned : {A : Type 0} (h h' : Side → A) (s : Side) (f : A → A) → h' s ≡ f (h s) → pick s (h' Buy) (h' Sell) ≡ f (pick s (h Buy) (h Sell))
turned h h' s f e = picked h' s ∙ e ∙ ap f (sym (picked h s))

pub entered : (h h' : Side → Held Order) (s : Side) (r : Option Band) (t : Bool) (o : Order) (table table' : List Trade) (place left : ℕ) → record { table = table'; place = place; left = left; own = h' s; opposite = h' (other s) } ≡ enter_at r t s o (h s) (h (other s)) table → record { table = table'; place = place; left = left; own = pick s (h' Buy) (h' Sell); opposite = pick (other s) (h' Buy) (h' Sell) } ≡ enter_at r t s o (pick s (h Buy) (h Sell)) (pick (other s) (h Buy) (h Sell)) table
entered h h' s r t o table table' place left x =
    (λ i. record { table = table'; place = place; left = left; own = picked h' s i; opposite = picked h' (other s) i }) ∙ x ∙ (λ i. enter_at r t s o (sym (picked h s) i) (sym (picked h (other s)) i) table)

pub taken_on : (h : Side → Held Order) (s : Side) (n : ℕ) (except : Option ℕ) {t : Bool} → t ≡ any (takes (rank_of s) n except) (h s).elements → t ≡ any (takes (rank_of s) n except) (pick s (h Buy) (h Sell)).elements
taken_on h s n except e = e ∙ ap (λ x. any (takes (rank_of s) n except) x.elements) (sym (picked h s))
