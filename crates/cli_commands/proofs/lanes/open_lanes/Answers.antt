use Rattle.std.proofs.Common.{Global, List, map, take, sym, ap, subst, rules}
use Rattle.std.specs.declared.collections.VecDeque.{VecDeque}
use Rattle.job_types.specs.Job.{JobData}
use Rattle.cli_commands.specs.OpenLanes.{AreOpenLanes}
use Rattle.cli_commands.proofs.LaneLemmas.{opened_at}
use Rattle.cli_commands.proofs.lanes.open_lanes.Goals as goal

pub returns : goal.returns
returns c jobs are =
    let found = c.open_count-count.ensures in
    let opens : AreOpenLanes (map (λ (lane : VecDeque JobData Global). lane.items) (take c.open_count-count.result c.args.lanes.items)) jobs =
    opened_at c.deref.result.now c.args.lanes.items c.open_count-count.result jobs (search rules) are found.range.0 found.range.1 found.past found.last in
    subst (λ (ls : List (List JobData)). AreOpenLanes ls jobs) (sym (ap (map (λ (lane : VecDeque JobData Global). lane.items)) c.truncate.ensures.items)) opens
