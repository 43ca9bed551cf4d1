-- One call more of a list.
use Rattle.std.proofs.Common.{◌≡◌, ℕ, ◌+◌, ◌<◌, ◌≤◌, List, [], ◌∷◌, length, get_or, drop, sym, ap, ◌∙◌, subst}
use Rattle.std.proofs.lemmas.List.{drop_all, drop_more}
use Rattle.terms.specs.declared.trade.Trade.{Trade}
use Rattle.rules.specs.Book.{Book}
use Rattle.rules.specs.ByRule.{ByRule}
use Rattle.rules.specs.Calls.{Outcome}
use Rattle.rules.specs.Rules.{after, table_after}
use Rattle.book.specs.Dispatch.{call_of, calls_of}
use Rattle.book.specs.declared.call.Call.{Call}

module _ (n : ℕ) (cs : List Call) (i : ℕ) where
  pub play_next : (x : Call) (m : ℕ) (b b' : Book) (o : Outcome) (t t' : List Trade) → i < length cs → m ≡ n → ByRule (call_of (get_or cs i x) m) b o t t' b' → (after (calls_of (drop (i + 1) cs) n) b' ≡ after (calls_of (drop i cs) n) b) × (table_after (calls_of (drop (i + 1) cs) n) b' t' ≡ table_after (calls_of (drop i cs) n) b t)
  play_next x m b b' o t t' inside same r =
      let w = subst (λ k. ByRule (call_of (get_or cs i x) k) b o t t' b') same r in
      let split : calls_of (drop i cs) n ≡ call_of (get_or cs i x) n ∷ calls_of (drop (i + 1) cs) n = ap (λ ds. calls_of ds n) (drop_more cs i x inside) in (
        ap (after (calls_of (drop (i + 1) cs) n)) w.book ∙ sym (ap (λ ds. after ds b) split),
        (λ j. table_after (calls_of (drop (i + 1) cs) n) (w.book j) (w.trades j)) ∙ sym (ap (λ ds. table_after ds b t) split),
      )

  pub play_done : length cs ≤ i → calls_of (drop i cs) n ≡ []
  play_done h = ap (λ ds. calls_of ds n) (drop_all i cs h)
