-- The block was vacant, and the jobs are the same.
use Rattle.std.proofs.Common.{refl, sym, subst}
use Rattle.cube_shape.specs.Region.{IsAligned}
use Rattle.sched_law.specs.State.{occupy}
use Rattle.sched_law.specs.Team.Deed.{occupies}
use Rattle.sched_board.specs.declared.board.JobBoard.{JobBoard}
use Rattle.sched_board.proofs.FollowLemmas.{leads_one}
use Rattle.sched_board.proofs.ShowLemmas.{same_arrival, shows_same}
use Rattle.sched_board.proofs.board.JobBoard.occupy.Goals as goal

pub returns-clause-leads : goal.returns-clause-leads
returns-clause-leads c = λ yes.
    let x : JobBoard = c.args.self.now in
    let y : JobBoard = record { pool = c.occupy.new.self; phase = c.args.self.now.phase } in
    let r = c.args.region in
    leads_one x y (occupies r)
    (λ t k.
    let vacant = (c.occupy.ensures.vacant t.sched k.core).0 yes in (
      (subst (λ n. IsAligned n r) (sym k.core.machine.dim) c.requires.block, vacant),
      shows_same t (occupy r t.sched) x y k (c.occupy.ensures.shows t.sched k.core vacant) c.occupy.ensures.workers refl
          (λ u s busy. same_arrival x.pool.core y.pool.core c.occupy.ensures.jobs s),
    ))
