use Rattle.std.proofs.Common.{List, length, sym, ap, ◌∙◌, subst}
use Rattle.std.specs.List.{slice_index_or}
use Rattle.sched_board.specs.Pool.{worker_in}
use Rattle.sched_threads.specs.declared.chair.Chair.{Chair}
use Rattle.sched_threads.specs.declared.chair.Chair.TheVariants.{Free}
use Rattle.sched_threads.specs.Desk.{DeskData, FitsChair}
use Rattle.sched_threads.proofs.DeskLemmas.{desk_after, gets_none, if_none}
use Rattle.sched_threads.proofs.desk.Desk.lose.Goals as goal

pub invariant_of-self : goal.invariant_of-self
invariant_of-self c =
    let put = c.put_chair.ensures in
    let same = c.deref_mut.ensures.value in
    let served = c.stop-served.ensures in
    let u = c.args.worker in
    desk_after _ c.stop-served.new.self c.put_chair.new.chairs u c.self.invariant
    (put.count ∙ ap length same)
    (λ v ne. put.others v ne ∙ ap (λ (cs : List Chair). slice_index_or cs v Free) same)
    served.serves served.count
    (subst (λ (chair : Chair). FitsChair chair (worker_in c.stop-served.new.self.pool u)) (sym put.here)
    (if_none c.stop-served.result.start _ (gets_none c.stop-served.result.start _ _ _ _ c.in-Some.stage (ap (λ (d : DeskData). worker_in d.board.pool u) (sym c.self.view_is)) c.in-Some.ensures.stage served.start (λ it got. (got.0, ((got.1).0, (got.1).1)))) served.away))
