-- What the elements that stand in a table say of what the queue holds.
use Rattle.std.proofs.Common.{◌≡◌, ℕ, ◌≤◌, List, [], length, take, sym, ap, ◌∙◌, subst, arith}
use Rattle.std.proofs.lemmas.List.{length-take-le, nil_from_length}
use Rattle.queue.proofs.Places.{front_fits}
use Rattle.queue.specs.Held.{Ordered, first, is}
use Rattle.queue.specs.Rank.{Rank}
use Rattle.queue.specs.Through.{SameElements}
use Rattle.table_queue.specs.Arranged.{Lawful, Stands, Arranges}
use Rattle.table_queue.proofs.Perms.{perm_sym, perm_length, perm_apart, perm_first}

module _ {E : Type 0} (r : Rank E) (order : List E → List E) (Kept : List E → Type 0) (same : (xs : List E) → SameElements xs (order xs)) where
  pub held_long : (n : ℕ) (t : List E) → n ≤ length t → length (order (take n t)) ≡ n
  held_long n t fits = sym (perm_length (same (take n t))) ∙ length-take-le n t fits

  pub stands : (n : ℕ) (t : List E) → Lawful r order Kept n t → Stands r order Kept (take n t)
  stands n t l =
      record {
        sorted = l.sound.elements.sorted;
        numbers = perm_apart r.number (perm_sym (same (take n t))) l.sound.elements.numbers;
        keys = perm_apart r.key (perm_sym (same (take n t))) l.sound.elements.keys;
        kept = l.kept;
      }

  pub found_here : (n : ℕ) (t : List E) → Lawful r order Kept n t → (k : ℕ) → first (is r.number k) (order (take n t)) ≡ first (is r.number k) (take n t)
  found_here n t l k = sym (perm_first r.number k (same (take n t)) (stands n t l).numbers)

  -- no elements are in order, and stand as they should
  pub empty_lawful : Kept [] → (n : ℕ) (t : List E) → n ≤ length t → length (order (take n t)) ≡ 0 → Lawful r order Kept n t
  empty_lawful none n t fits h =
      let zero-n : n ≡ 0 = sym (held_long n t fits) ∙ h in
      let nil : [] ≡ order [] = sym (nil_from_length (order []) (sym (perm_length (same [])))) in
      subst (λ k. Lawful r order Kept k t) (sym zero-n)
      (record {
        sound = record { elements = subst (Ordered r) nil (record { sorted = tt; numbers = tt; keys = tt; some = tt }); fits = omega (arith, ap length nil) };
        kept = none;
      })

  -- elements in order, once they are arranged
  pub arranged_lawful : (n : ℕ) (t es : List E) → Arranges order Kept (take n t) es → Ordered r es → Lawful r order Kept n t
  arranged_lawful n t es a h =
      let long = perm_length (same (take n t)) in
      let fits = front_fits n t in
      record {
        sound = record { elements = subst (Ordered r) (sym a.held) h; fits = omega arith };
        kept = a.kept;
      }
