use Rattle.jobs_csv.proofs.LaneLemmas.{AreEmpty}
use Rattle.jobs_csv.proofs.lanes.Lanes.new.Given as goal

abbrev pub invariant-loop-lane : goal.invariant-loop-lane
invariant-loop-lane l = AreEmpty l.jobs.items l._lane
