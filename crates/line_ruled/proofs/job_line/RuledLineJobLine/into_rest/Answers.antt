use Rattle.std.proofs.Common.{◌≡◌, ℕ, ◌<◌, ◌++◌, List, length, get_or, sym, ap, ◌∙◌, subst}
use Rattle.std.specs.List.{AllByRecursion}
use Rattle.std.proofs.lemmas.List.Elements.{All-from_recursion, recursion_from_All}
use Rattle.ghost_history.specs.Sums.{total, is_at}
use Rattle.line_gate.specs.declared.record.LaneEntries.{LaneEntries}
use Rattle.line_gate.specs.declared.record.PassReadings.{PassReadings}
use Rattle.line_gate.specs.Record.{IsSettled}
use Rattle.line_ring.specs.declared.record.LaneRecord.{LaneRecord as RingLaneRecord}
use Rattle.line_ring.specs.declared.record.PassRecord.{PassRecord as RingPassRecord}
use Rattle.job_queue.specs.declared.record.QueuedJob.{QueuedJob}
use Rattle.line_ruled.specs.declared.handle.RuledLane.{RuledLane}
use Rattle.job_queue.specs.Record.{accepted}
use Rattle.line_ruled.specs.Inner.Handle.{line_id, is_lane, lane_record, gate_lanes, gate_passes, ring_lanes, ring_passes}
use Rattle.line_ruled.proofs.DealtLemmas.{length-counts, number_of}
use Rattle.line_ruled.proofs.EndJoinLemmas.{all_settled, numbers_total, within_line, end_joined, accepted_counts}
use Rattle.line_ruled.proofs.job_line.RuledLineJobLine.into_rest.Goals as goal

pub end-requires-clause-settled : goal.end-requires-clause-settled
end-requires-clause-settled g c =
    let ls = c.args.lanes.items in
    let at_gate : c.gather_passes.new.gate_end.lanes ≡ gate_lanes ls = c.gather_passes.ensures.gate_same.0 ∙ (c.gather_lanes.ensures.gate_lanes ∙ ap (λ (xs : List LaneEntries). xs ++ gate_lanes ls) c.into_end-gate_end.ensures.lanes) in
    All-from_recursion IsSettled _ (subst (λ (xs : List LaneEntries). AllByRecursion IsSettled xs) (sym at_gate) (all_settled ls))

pub returns-clause-run : goal.returns-clause-run
returns-clause-run g c =
    let ls = c.args.lanes.items in
    let ps = c.args.passes.items in
    let note = c.requires.note.1 in
    let id = line_id c.args.self in
    let within = subst (λ (n : ℕ). AllByRecursion (λ (l : RuledLane). number_of l < n) ls) (sym c.requires.all_lanes) (within_line id ls (recursion_from_All (is_lane id) ls c.requires.lanes)) in
    end_joined ls ps c.into_rest-jobs.result.items c.args.note.gate.number _ _ _ _ _ within
    (c.gather_passes.ensures.gate_same.0 ∙ (c.gather_lanes.ensures.gate_lanes ∙ ap (λ (xs : List LaneEntries). xs ++ gate_lanes ls) c.into_end-gate_end.ensures.lanes))
    (c.gather_passes.ensures.gate_passes ∙ ap (λ (xs : List PassReadings). xs ++ gate_passes ps) (c.gather_lanes.ensures.gate_same.0 ∙ c.into_end-gate_end.ensures.passes))
    (c.gather_passes.ensures.gate_same.1 ∙ (c.gather_lanes.ensures.gate_same.1 ∙ c.into_end-gate_end.ensures.number))
    (c.gather_passes.ensures.ring_same ∙ (c.gather_lanes.ensures.ring_lanes ∙ ap (λ (xs : List (RingLaneRecord QueuedJob)). xs ++ ring_lanes ls) note.no_lanes))
    (c.gather_passes.ensures.ring_passes ∙ ap (λ (xs : List (RingPassRecord QueuedJob)). xs ++ ring_passes ps) (c.gather_lanes.ensures.ring_same ∙ note.no_passes))
    c.end.ensures c.into_rest-jobs.ensures.run

-- Each number below the count of lanes is there once.
pub returns-clause-numbers : goal.returns-clause-numbers
returns-clause-numbers g c = λ k within.
    let ls = c.args.lanes.items in
    let note = c.requires.note.1 in
    let in_ring = c.gather_passes.ensures.ring_same ∙ (c.gather_lanes.ensures.ring_lanes ∙ ap (λ (xs : List (RingLaneRecord QueuedJob)). xs ++ ring_lanes ls) note.no_lanes) in
    let dealt = c.gather_passes.ensures.dealt.0 ∙ (c.gather_lanes.ensures.dealt.0 ∙ note.lanes) in
    numbers_total ls k ∙ (ap (total (λ (r : RingLaneRecord QueuedJob). is_at k r.number)) (sym in_ring) ∙ c.into_rest-jobs.ensures.numbers k (subst (λ (n : ℕ). k < n) (sym dealt) within))

pub returns-clause-lane_count : goal.returns-clause-lane_count
returns-clause-lane_count g c = ap length c.gather_lanes.ensures.accepted ∙ (length-counts c.args.self.accepted.items c.args.lanes.items ∙ c.args.self.slots)

pub returns-clause-accepted : goal.returns-clause-accepted
returns-clause-accepted g c =
    let ls = c.args.lanes.items in
    let id = line_id c.args.self in
    let note = c.requires.note.1 in
    let in_ring = c.gather_passes.ensures.ring_same ∙ (c.gather_lanes.ensures.ring_lanes ∙ ap (λ (xs : List (RingLaneRecord QueuedJob)). xs ++ ring_lanes ls) note.no_lanes) in
    let dealt = c.gather_passes.ensures.dealt.0 ∙ (c.gather_lanes.ensures.dealt.0 ∙ note.lanes) in
    let new = c.gather_lanes.new.accepted.items in
    All-from_recursion (λ (l : RuledLane). get_or new (lane_record l).number 0 ≡ length (accepted (lane_record l).entries)) ls
    (accepted_counts id c.args.self.accepted.items new ls c.args.self.slots c.gather_lanes.ensures.accepted (recursion_from_All (is_lane id) ls c.requires.lanes)
    (λ k within. ap (total (λ (r : RingLaneRecord QueuedJob). is_at k r.number)) (sym in_ring) ∙ c.into_rest-jobs.ensures.numbers k (subst (λ (n : ℕ). k < n) (sym dealt) within)))
