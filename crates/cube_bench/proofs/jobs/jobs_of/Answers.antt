use Rattle.std.proofs.lemmas.List.Elements.{All-push, All-same}
use Rattle.job_queue.specs.Line.{IsFor}
use Rattle.cube_bench.proofs.jobs.jobs_of.Goals as goal

pub loop-preserved : goal.loop-preserved
loop-preserved c = All-same (IsFor c.args.machine c.args.lane) _ _ c.in-Ok.ensures.items (All-push (IsFor c.args.machine c.args.lane) c.loop.jobs.items c.in_ok-made.made c.loop.invariant c.in_ok-made.ensures)
