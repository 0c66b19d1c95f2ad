use Rattle.std.proofs.Common.{◌≡◌, ℕ, ◌+◌, ◌<◌, arith, ◌∷◌, [], ◌++◌, List, map, get_or, sym, ap, subst, ◌∙◌}
use Rattle.std.specs.List.{All}
use Rattle.job_types.specs.Job.{JobData}
use Rattle.job_queue.specs.declared.record.QueuedJob.{QueuedJob}
use Rattle.job_queue.specs.declared.record.LaneRecord.{LaneRecord}
use Rattle.job_queue.specs.declared.record.PassRecord.{PassRecord}
use Rattle.job_queue.specs.Record.{fresh_lane, job_of}
use Rattle.job_queue.specs.Line.{LineId, IsFor}
use Rattle.job_queue.specs.Run.{WholeRun}
use Rattle.ghost_history.specs.Sums.{total, times}
use Rattle.uses.proofs.LineRunLemmas.{each_once, first_of_two, second_of_two}
use Rattle.uses.proofs.line_run.running.run_named.Goals as goal

-- A fact about the queue that was opened holds of the one that is named.
of_line : (P : LineId → Type 0) (opened named : LineId) → opened ≡ named → P opened → P named
of_line P opened named same fact = subst P same fact

pub new-requires-clause-lane : goal.new-requires-clause-lane
new-requires-clause-lane g c = let line = g.L.JobLine in
    of_line (λ z. line.is_lane z c.two_of-lane.result.0) _ _ c.requires.line (first_of_two (line.is_lane (line.id c.args.opened.line)) _ _ _ c.two_of-lane.ensures.members c.requires.lanes)

pub new-requires-3-clause-lane : goal.new-requires-3-clause-lane
new-requires-3-clause-lane g c = let line = g.L.JobLine in
    of_line (λ z. line.is_lane z c.two_of-lane.result.1) _ _ c.requires.line (second_of_two (line.is_lane (line.id c.args.opened.line)) _ _ _ c.two_of-lane.ensures.members c.requires.lanes)

pub new-requires-6-clause-pass : goal.new-requires-6-clause-pass
new-requires-6-clause-pass g c = let line = g.L.JobLine in
    of_line (λ z. line.is_pass z c.two_of-pass.result.0) _ _ c.requires.line (first_of_two (line.is_pass (line.id c.args.opened.line)) _ _ _ c.two_of-pass.ensures.members c.requires.passes)

pub new-requires-9-clause-pass : goal.new-requires-9-clause-pass
new-requires-9-clause-pass g c = let line = g.L.JobLine in
    of_line (λ z. line.is_pass z c.two_of-pass.result.1) _ _ c.requires.line (second_of_two (line.is_pass (line.id c.args.opened.line)) _ _ _ c.two_of-pass.ensures.members c.requires.passes)

pub new-requires-clause-made_for : goal.new-requires-clause-made_for
new-requires-clause-made_for g c = let line = g.L.JobLine in let jobs = c.args.jobs.0.items in
    let number : (line.lane_record c.two_of-lane.result.0).number ≡ 0 = ap (λ (rs : List LaneRecord). (get_or rs 0 (fresh_lane 9)).number) (ap (map line.lane_record) (sym c.two_of-lane.ensures.members) ∙ c.requires.two_lanes.1) in
    of_line (λ z. All (IsFor z.sizes.machine (line.lane_record c.two_of-lane.result.0).number) jobs) _ _ c.requires.line
    (subst (λ (n : ℕ). All (IsFor (line.id c.args.opened.line).sizes.machine n) jobs) (sym number) c.requires.first_jobs)

pub new-requires-3-clause-made_for : goal.new-requires-3-clause-made_for
new-requires-3-clause-made_for g c = let line = g.L.JobLine in let jobs = c.args.jobs.1.items in
    let number : (line.lane_record c.two_of-lane.result.1).number ≡ 1 = ap (λ (rs : List LaneRecord). (get_or rs 1 (fresh_lane 9)).number) (ap (map line.lane_record) (sym c.two_of-lane.ensures.members) ∙ c.requires.two_lanes.1) in
    of_line (λ z. All (IsFor z.sizes.machine (line.lane_record c.two_of-lane.result.1).number) jobs) _ _ c.requires.line
    (subst (λ (n : ℕ). All (IsFor (line.id c.args.opened.line).sizes.machine n) jobs) (sym number) c.requires.second_jobs)

pub returns : goal.returns
returns g c = record {
  each_once = λ weight.
      let line = g.L.JobLine in
      let names = g.J.Naming in
      let r = line.lane_record c.into_parts-lane.result.0 in
      let s = line.lane_record c.into_parts-other.result.0 in
      let p = line.pass_record c.into_parts-pass.result.0 in
      let q = line.pass_record c.into_parts-another.result.0 in
      let rest = c.into_rest-rest.result.jobs.items in
      let note = line.note_number c.into_note-note.result in
      let left = total weight (c.into_parts-lane.result.1.items ++ c.into_parts-other.result.1.items) in
      let run : WholeRun (r ∷ s ∷ []) (p ∷ q ∷ []) rest note =
      subst (λ (ls : List LaneRecord). WholeRun ls (p ∷ q ∷ []) rest note) (ap (map line.lane_record) c.both-lanes.ensures)
      (subst (λ (ps : List PassRecord). WholeRun (map line.lane_record c.both-lanes.result.items) ps rest note) (ap (map line.pass_record) c.both-passes.ensures) c.into_rest-rest.ensures.run) in
      let numbers : (k : ℕ) → k < 2 → times k (r.number ∷ s.number ∷ []) ≡ 1 = λ k within.
      subst (λ (ns : List ℕ). times k ns ≡ 1) (ap (map (λ l. (line.lane_record l).number)) c.both-lanes.ensures) (c.into_rest-rest.ensures.numbers k (omega (arith, c.requires.two_lanes.0))) in
      let once = each_once weight r s p q rest note names.jobs c.into_parts-lane.result.1.items c.into_parts-other.result.1.items run numbers c.into_parts-lane.ensures.jobs c.into_parts-other.ensures.jobs in
      ap (λ (js : List JobData). total weight (js ++ c.args.jobs.1.items)) c.requires.jobs.0
      ∙ (ap (λ (js : List JobData). total weight (names.jobs 0 ++ js)) c.requires.jobs.1
      ∙ (once
      ∙ (ap (λ (ts : List QueuedJob). total weight (map job_of (ts ++ q.taken ++ rest)) + left) c.into_parts-pass.ensures.taken
      ∙ ap (λ (ts : List QueuedJob). total weight (map job_of (c.into_parts-pass.result.1.items ++ ts ++ rest)) + left) c.into_parts-another.ensures.taken)));
}
