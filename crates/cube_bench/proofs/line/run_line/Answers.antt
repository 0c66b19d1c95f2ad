use Rattle.std.proofs.Common.{sym, ap, ◌∙◌}
use Rattle.job_queue.proofs.LentLemmas.{lanes_lent, lent_all, passes_lent}
use Rattle.cube_bench.proofs.line.run_line.Goals as goal

pub into_rest-rest-requires-clause-all_lanes : goal.into_rest-rest-requires-clause-all_lanes
into_rest-rest-requires-clause-all_lanes g c = let made = c.in-Ok in
    lanes_lent g.L.JobLine.lane_record _ _ made.opened.lanes.items c.run_threads.new.lanes made.opened.lanes.ok.0 made.ensures.fresh_lanes ∙ sym (ap (λ s. s.lanes) made.ensures.sizes)

pub into_rest-rest-requires-clause-all_passes : goal.into_rest-rest-requires-clause-all_passes
into_rest-rest-requires-clause-all_passes g c = let made = c.in-Ok in
    passes_lent g.L.JobLine.pass_record _ _ made.opened.passes.items c.run_threads.new.passes made.opened.passes.ok.0 made.ensures.fresh_passes ∙ sym (ap (λ s. s.passes) made.ensures.sizes)

pub into_rest-rest-requires-clause-lanes : goal.into_rest-rest-requires-clause-lanes
into_rest-rest-requires-clause-lanes g c = let made = c.in-Ok in let line = g.L.JobLine in
    lent_all (line.is_lane (line.id made.opened.line)) _ made.opened.lanes.items c.run_threads.new.lanes made.ensures.lanes c.run_threads.ensures.lanes

pub into_rest-rest-requires-clause-passes : goal.into_rest-rest-requires-clause-passes
into_rest-rest-requires-clause-passes g c = let made = c.in-Ok in let line = g.L.JobLine in
    lent_all (line.is_pass (line.id made.opened.line)) _ made.opened.passes.items c.run_threads.new.passes made.ensures.passes c.run_threads.ensures.passes
