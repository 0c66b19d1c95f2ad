use Rattle.std.proofs.Common.{List, length, sym, ap, ◌∙◌, subst}
use Rattle.std.specs.List.{slice_index_or}
use Rattle.sched_board.specs.Pool.{worker_in}
use Rattle.sched_threads.specs.declared.chair.Chair.{Chair}
use Rattle.sched_threads.specs.declared.chair.Chair.TheVariants.{Asked, Free}
use Rattle.sched_threads.specs.Desk.{FitsChair}
use Rattle.sched_threads.proofs.DeskLemmas.{desk_after, fits_with}
use Rattle.sched_threads.proofs.desk.Desk.next.Goals as goal

pub invariant_of-self : goal.invariant_of-self
invariant_of-self c =
    let put = c.put_chair.ensures in
    let same = c.deref_mut.ensures.value in
    let served = c.serve-served.ensures in
    let u = c.args.worker in
    desk_after _ c.serve-served.new.self c.put_chair.new.chairs u c.self.invariant
    (put.count ∙ ap length same)
    (λ v ne. put.others v ne ∙ ap (λ (cs : List Chair). slice_index_or cs v Free) same)
    served.serves served.count
    (subst (λ (chair : Chair). FitsChair chair (worker_in c.serve-served.new.self.pool u)) (sym put.here)
    (fits_with c.serve-served.result.start _ _ Asked _ c.chair_with-chair.ensures.has c.chair_with-chair.ensures.none served.start (λ it got. (got.0, got.1.0)) (λ _. served.here)))
