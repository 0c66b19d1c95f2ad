use Rattle.std.proofs.Common.{ℕ, ◌∷◌, ◌++◌, [], List, length-set, append_assoc, set, sym, refl, ap, ◌∙◌}
use Rattle.std.proofs.lemmas.List.Elements.{All-head, All-rest, All-same}
use Rattle.line_gate.specs.declared.record.LaneEntries.{LaneEntries}
use Rattle.line_ring.specs.declared.record.LaneRecord.{LaneRecord as RingLaneRecord}
use Rattle.job_queue.specs.declared.record.QueuedJob.{QueuedJob}
use Rattle.line_ruled.specs.declared.handle.RuledLane.{RuledLane}
use Rattle.line_ruled.specs.Inner.Handle.{line_of, is_lane, gate_lanes, ring_lanes, counts_after}
use Rattle.line_ruled.proofs.DealtLemmas.{lane_here}
use Rattle.line_ruled.proofs.members.gather_lanes.Goals as goal

pub loop-lane-init : goal.loop-lane-init
loop-lane-init c =
    let is = c.from_vec-lanes.ensures.items in
    let line = line_of c.args.gate.now c.args.ring.now in (
      c.requires.gate_end,
      ap (λ (xs : List RuledLane). c.args.gate_end.now.lanes ++ gate_lanes xs) is,
      refl,
      refl,
      c.requires.ring_end,
      ap (λ (xs : List RuledLane). c.args.ring_end.now.back_lanes ++ ring_lanes xs) is,
      refl,
      refl,
      refl,
      ap (λ (xs : List RuledLane). counts_after c.args.accepted.now.items xs) is,
      c.requires.slots,
      All-same (is_lane line) _ _ is c.requires.lanes,
    )

pub gather_lane-requires-clause-lane : goal.gather_lane-requires-clause-lane
gather_lane-requires-clause-lane c =
    let line = line_of c.args.gate.now c.args.ring.now in
    (lane_here c.args.gate.now c.args.ring.now c.in-Some.lane (All-head (is_lane line) c.in-Some.lane _ (All-same (is_lane line) _ _ (sym c.in-Some.ensures.items) c.loop-lane.invariant.11))).0

pub gather_lane-requires-in-Some-clause-lane : goal.gather_lane-requires-in-Some-clause-lane
gather_lane-requires-in-Some-clause-lane c =
    let line = line_of c.args.gate.now c.args.ring.now in
    (lane_here c.args.gate.now c.args.ring.now c.in-Some.lane (All-head (is_lane line) c.in-Some.lane _ (All-same (is_lane line) _ _ (sym c.in-Some.ensures.items) c.loop-lane.invariant.11))).1

pub loop-lane-preserved : goal.loop-lane-preserved
loop-lane-preserved c =
    let line = line_of c.args.gate.now c.args.ring.now in
    let inv = c.loop-lane.invariant in
    let x = c.in-Some.lane in
    let items = c.in-Some.ensures.items in
    let rest = c.pop_front.new.self.items in
    let G = c.loop-lane.gate_end.lanes in
    let R = c.loop-lane.ring_end.back_lanes in
    let A = c.loop-lane.accepted.items in (
      c.gather_lane.ensures.gate,
      ap (λ (xs : List LaneEntries). xs ++ gate_lanes rest) c.gather_lane.ensures.lanes ∙ (append_assoc G (x.gate.known ∷ []) (gate_lanes rest) ∙ (ap (λ (xs : List RuledLane). G ++ gate_lanes xs) (sym items) ∙ inv.1)),
      c.gather_lane.ensures.passes ∙ inv.2,
      c.gather_lane.ensures.number ∙ inv.3,
      c.gather_lane-in-Some.ensures.end,
      ap (λ (xs : List (RingLaneRecord QueuedJob)). xs ++ ring_lanes rest) c.gather_lane-in-Some.ensures.lanes ∙ (append_assoc R (x.ring.known ∷ []) (ring_lanes rest) ∙ (ap (λ (xs : List RuledLane). R ++ ring_lanes xs) (sym items) ∙ inv.5)),
      c.gather_lane-in-Some.ensures.passes ∙ inv.6,
      c.gather_lane-in-Some.ensures.dealt.0 ∙ inv.7,
      c.gather_lane-in-Some.ensures.dealt.1 ∙ inv.8,
      ap (λ (n : ℕ). counts_after (set A n c.accepted.result) rest) c.number.ensures ∙ (ap (λ (n : ℕ). counts_after (set A x.ring.known.number n) rest) c.accepted.ensures ∙ (ap (counts_after A) (sym items) ∙ inv.9)),
      length-set A c.number.result c.accepted.result ∙ inv.10,
      All-rest (is_lane line) x rest _ items inv.11,
    )
