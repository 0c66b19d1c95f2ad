use Rattle.std.proofs.Common.{map, subst}
use Rattle.std.specs.List.Sorted.{IsPermutation}
use Rattle.dispatcher.proofs.OrderLemmas.{sorted_answers}
use Rattle.dispatcher.proofs.sorting.sorted_replies.Goals as goal

pub returns-clause-in_order : goal.returns-clause-in_order
returns-clause-in_order g c = λ n jobs all.
    sorted_answers n jobs (map (λ rs. rs.items) c.args.finished.by_worker.items) c.args.finished.rest.items c.sort.new.replies.items
    (subst (λ rs. IsPermutation rs c.sort.new.replies.items) c.in-Ok.ensures.all c.sort.ensures.same) c.sort.ensures.sorted all
