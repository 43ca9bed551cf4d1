use Rattle.std.proofs.Common.{[], Ok, Err, sym, ap, ◌∙◌, subst}
use Rattle.std.proofs.lemmas.Result.{err_from_is_err_and, IfOk-from_err}
use Rattle.queue.specs.Through.{insert_all, SameElements}
use Rattle.orders.specs.Priority.{buy_rank}
use Rattle.queue_demo.proofs.Ranks.{or_ranked, ranked_through}
use Rattle.queue_demo.proofs.demo.rank_sample.Goals as goal

pub returns-in_err-rank_through : goal.returns-in_err-rank_through
returns-in_err-rank_through g c =
    let p = err_from_is_err_and c.from_residual.result c.from_residual.ensures.1 in
    let r = ranked_through (g.Q.Queue.held c.args.q.now) _ c.rank_through.result c.sample-orders.ensures c.rank_through.ensures.unfit c.rank_through.ensures.answers in
    record {
      gives = p.1 ∙ ap Err p.2 ∙ ap or_ranked (sym c.in_err-rank_through.was) ∙ r;
      ranks = IfOk-from_err c.from_residual.result _ c.from_residual.ensures.0;
      leaves = c.rank_through.ensures.leaves;
    }

pub returns : goal.returns
returns g c =
    let entered = c.sample-orders.ensures in
    let r = ranked_through (g.Q.Queue.held c.args.q.now) _ c.rank_through.result entered c.rank_through.ensures.unfit c.rank_through.ensures.answers in
    let done = c.in_ok-rank_through.ensures in
    record {
      gives = ap Ok (done.gives ∙ ap (λ os. insert_all buy_rank.before os []) entered) ∙ ap or_ranked (sym c.in_ok-rank_through.was) ∙ r;
      ranks = (done.ranks.0, subst (λ os. SameElements os c.rank_through.new.elements) entered done.ranks.1);
      leaves = c.rank_through.ensures.leaves;
    }
