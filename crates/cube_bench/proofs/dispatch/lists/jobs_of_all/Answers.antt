use Rattle.std.proofs.Common.{◌+◌, ℕ, sym, subst, ap, ◌∙◌}
use Rattle.std.specs.List.{All}
use Rattle.job_queue.specs.Line.{IsFor}
use Rattle.dispatcher_threads.proofs.SlotLemmas.{longer, all_listed}
use Rattle.cube_bench.proofs.dispatch.lists.jobs_of_all.Goals as goal

pub loop-lane-preserved : goal.loop-lane-preserved
loop-lane-preserved c =
    let old = c.loop-lane.lists.items in
    let new = c.push.new.self.items in
    let list = c.in_ok-list.list in
    let pushed = c.in-Ok.ensures.items in (
      longer old new list pushed ∙ ap (λ (n : ℕ). n + 1) c.loop-lane.invariant.0,
      all_listed (λ js. js.items) (λ k js. All (IsFor c.args.invocation.sizes.dim k) js) old new list pushed c.loop-lane.invariant.1
          (subst (λ (n : ℕ). All (IsFor c.args.invocation.sizes.dim n) list.items) (sym c.loop-lane.invariant.0) c.in_ok-list.ensures),
    )
