-- What a queue holds, and what its calls answer and leave, as functions of the list of elements in rank order.
--   Held, Sound                   the meaning of a queue, and what a lawful one keeps
--   head, first, any, place       looking through a list by a test
--   insert, remove, change        a list with one element more, less or changed
--   barred, uncut                 why a call is refused, if it is
--   answer, unless                what such a call answers and leaves
--   numbered, after_put, after_cut, after_take   the element with a number, and what each call leaves
use Rattle.std.specs.Prelude.{◌≡◌, ℕ, suc, ◌-◌, ◌<◌, ◌≤◌, Bool, true, false, cond, not, ◌&&◌, ◌||◌, List, [], ◌∷◌, length, Some, None, Ok, Err, Option, Result, ◌==◌, nat_le}
use Rattle.std.specs.List.{AllByRecursion}
use Rattle.terms.specs.declared.refusal.Refusal.{Refusal}
use Rattle.terms.specs.declared.refusal.Refusal.TheVariants.{QueueFull, AlreadyHeld, BadCut}
use Rattle.queue.specs.Rank.{Rank}

-- a capacity, and the elements in rank order
pub record Held (E : Type 0) : Type 0 where
  pub capacity : ℕ
  pub elements : List E

-- the first element
abbrev pub head : {E : Type 0} → List E → Option E
head [] = None
head (e ∷ es) = Some e

-- the first element that passes the test p
abbrev pub first : {E : Type 0} → (E → Bool) → List E → Option E
first p [] = None
first p (e ∷ es) = cond (p e) (Some e) (first p es)

-- the place of that element, or the length
abbrev pub place : {E : Type 0} → (E → Bool) → List E → ℕ
place p [] = 0
place p (e ∷ es) = cond (p e) 0 (suc (place p es))

-- whether some element passes p
abbrev pub any : {E : Type 0} → (E → Bool) → List E → Bool
any p [] = false
any p (e ∷ es) = p e || any p es

-- without the first element that passes p
abbrev pub remove : {E : Type 0} → (E → Bool) → List E → List E
remove p [] = []
remove p (e ∷ es) = cond (p e) es (e ∷ remove p es)

-- with f of the first element that passes p in its place
abbrev pub change : {E : Type 0} → (E → Bool) → (E → E) → List E → List E
change p f [] = []
change p f (e ∷ es) = cond (p e) (f e ∷ es) (e ∷ change p f es)

-- with e before the first element that it ranks before
abbrev pub insert : {E : Type 0} → (E → E → Bool) → E → List E → List E
insert before e [] = e ∷ []
insert before e (f ∷ fs) = cond (before e f) (e ∷ (f ∷ fs)) (f ∷ insert before e fs)

-- each element ranks before every later one
abbrev pub Sorted : {E : Type 0} → (E → E → Bool) → List E → Type 0
Sorted before [] = Unit {0}
Sorted before (e ∷ es) = AllByRecursion (λ f. before e f ≡ true) es × Sorted before es

-- the test: f of an element is n
abbrev pub is : {E : Type 0} → (E → ℕ) → ℕ → E → Bool
is f n e = f e == n

-- no two elements have one f
abbrev pub Apart : {E : Type 0} → (E → ℕ) → List E → Type 0
Apart f [] = Unit {0}
Apart f (e ∷ es) = (any (is f (f e)) es ≡ false) × Apart f es

-- elements in rank order, no number and no key twice, each with lots
pub record Ordered {E : Type 0} (r : Rank E) (es : List E) : Type 0 where
  pub sorted : Sorted r.before es
  pub numbers : Apart r.number es
  pub keys : Apart r.key es
  pub some : AllByRecursion (λ e. 0 < r.lots e) es

-- and never more than the capacity
pub record Sound {E : Type 0} (r : Rank E) (h : Held E) : Type 0 where
  pub elements : Ordered r h.elements
  pub fits : length h.elements ≤ h.capacity

-- the test: f has e's number or key
abbrev pub clash : {E : Type 0} → Rank E → E → E → Bool
clash r e f = r.number f == r.number e || r.key f == r.key e

-- the test: an element other than the excepted one has n as its number or key
abbrev pub excepted : {E : Type 0} → Rank E → Option ℕ → E → Bool
excepted r None e = false
excepted r (Some m) e = r.number e == m

abbrev pub takes : {E : Type 0} → Rank E → ℕ → Option ℕ → E → Bool
takes r n except e = not (excepted r except e) && (r.number e == n || r.key e == n)

-- why e cannot be put: the queue is full; e has no lots, or its number or key is held
abbrev pub barred : {E : Type 0} → Rank E → Held E → E → Option Refusal
barred r h e =
    cond (nat_le h.capacity (length h.elements)) (Some QueueFull) (cond (r.lots e == 0 || any (clash r e) h.elements) (Some AlreadyHeld) None)

-- n lots can be cut off e: at least one, and no more than it has
abbrev pub cuttable : {E : Type 0} → Rank E → ℕ → E → Bool
cuttable r n e = nat_le 1 n && nat_le n (r.lots e)

-- why n lots cannot be cut off the element that was found
abbrev pub uncut : {E : Type 0} → Rank E → ℕ → Option E → Option Refusal
uncut r n None = Some BadCut
uncut r n (Some e) = cond (cuttable r n e) None (Some BadCut)

-- what a call that may be refused answers
abbrev pub answer : Option Refusal → Result (Unit {0}) Refusal
answer None = Ok tt
answer (Some e) = Err e

-- what is held after it: these elements, or all as it was
abbrev pub unless : {E : Type 0} → Option Refusal → Held E → List E → Held E
unless None h es = record { capacity = h.capacity; elements = es }
unless (Some e) h es = h

-- with n lots cut off the first element that passes p, which goes where none are left
abbrev pub cutting : {E : Type 0} → Rank E → (E → Bool) → ℕ → List E → List E
cutting r p n [] = []
cutting r p n (e ∷ es) = cond (p e) (cond (r.lots e == n) es (r.with_lots e (r.lots e - n) ∷ es)) (e ∷ cutting r p n es)

-- the element with the number n
abbrev pub numbered : {E : Type 0} → Rank E → Held E → ℕ → Option E
numbered r h n = first (is r.number n) h.elements

abbrev pub after_put : {E : Type 0} → Rank E → Held E → E → Held E
after_put r h e = unless (barred r h e) h (insert r.before e h.elements)

abbrev pub after_cut : {E : Type 0} → Rank E → Held E → ℕ → ℕ → Held E
after_cut r h n lots = unless (uncut r lots (numbered r h n)) h (cutting r (is r.number n) lots h.elements)

abbrev pub after_take : {E : Type 0} → Rank E → Held E → ℕ → Held E
after_take r h n = record { capacity = h.capacity; elements = remove (is r.number n) h.elements }
