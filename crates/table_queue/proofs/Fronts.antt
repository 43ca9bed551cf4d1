-- A table whose first m places were given to a call, which left u there.
use Rattle.std.proofs.Common.{◌≡◌, ℕ, ◌+◌, ◌-◌, ◌≤◌, List, ◌++◌, length, take, drop, sym, ap, ◌∙◌, subst, arith, length-append}
use Rattle.std.proofs.lemmas.List.{length-take-le, take-append-drop, take-append-le}
use Rattle.table_queue.specs.Arranged.{Arranges}

module _ {E : Type 0} where
  -- what holds whatever stands behind holds of the table
  pub front_whole : (m : ℕ) (t u : List E) (P : List E → List E → Type 0) → ((behind : List E) → P (take m t ++ behind) (u ++ behind)) → P t (u ++ drop m t)
  front_whole m t u P h = subst (λ w. P w (u ++ drop m t)) (take-append-drop m t) (h (drop m t))

  pub front_long : (m : ℕ) (t u : List E) → length u ≡ length (take m t) → length (u ++ drop m t) ≡ length t
  front_long m t u h =
      length-append u (drop m t) ∙ ap (λ k. k + length (drop m t)) h ∙ sym (length-append (take m t) (drop m t))
      ∙ ap length (take-append-drop m t)

  -- all but the last of them stand in the arrangement
  pub front_removed :
      (order : List E → List E) (Kept : List E → Type 0) (m : ℕ) (t u es : List E) → m ≤ length t → length u ≡ length (take m t)
      → Arranges order Kept (take (length (take m t) - 1) u) es → Arranges order Kept (take (m - 1) (u ++ drop m t)) es
  front_removed order Kept m t u es fits same a =
      let long = length-take-le m t fits in
      let front : take (m - 1) (u ++ drop m t) ≡ take (length (take m t) - 1) u = take-append-le (m - 1) u (drop m t) (omega arith) ∙ ap (λ k. take (k - 1) u) (sym long) in
      subst (λ ys. Arranges order Kept ys es) (sym front) a
