use Rattle.std.proofs.Common.{◌≡◌, map, sum, rules, sym, refl, ◌∙◌}
use Rattle.std.proofs.lemmas.List.Recursion.{is_sum_by}
use Rattle.std.proofs.lemmas.List.Sums.{sum-map}
use Rattle.rules.specs.Book.{traded_lots}
use Rattle.book.proofs.lots.traded_lots.Goals as goal

pub returns : goal.returns
returns c =
    let ts = c.args.trades.now in
    let s : c.sum.result ≡ sum (map (λ t. t.lots) ts) = search rules in
    s ∙ sum-map (λ t. t.lots) ts ∙ sym (is_sum_by traded_lots (λ t. t.lots) refl (λ t us. refl) ts)
