use Rattle.std.proofs.Common.{◌≡◌, ℕ, suc, ◌+◌, ◌-◌, ◌<◌, ◌∷◌, ◌++◌, [], List, map, length, ap, ◌∙◌, arith}
use Rattle.std.proofs.lemmas.List.{map-append}
use Rattle.std.proofs.lemmas.List.Elements.{All-push, All-same}
use Rattle.line_gate.specs.Record.{lanes_from}
use Rattle.line_ring.specs.declared.record.LaneRecord.{LaneRecord as RingLaneRecord}
use Rattle.line_ring.specs.Record.{fresh_lane as fresh_ring_lane}
use Rattle.job_queue.specs.declared.record.QueuedJob.{QueuedJob}
use Rattle.job_queue.specs.declared.record.LaneRecord.{LaneRecord}
use Rattle.job_queue.specs.Record.{fresh_lanes}
use Rattle.line_ruled.specs.Inner.Join.{joined_lane}
use Rattle.line_ruled.specs.Inner.Handle.{line_of, is_lane, lane_record}
use Rattle.line_ruled.proofs.JoinLemmas.{fresh_joined, fresh_joined_lane}
use Rattle.line_ruled.proofs.DealtLemmas.{next_lane, is_of}
use Rattle.line_ruled.proofs.members.deal_lanes.Goals as goal

pub deal_lane-at_gate-requires-clause-more : goal.deal_lane-at_gate-requires-clause-more
deal_lane-at_gate-requires-clause-more c =
    let i = c.loop.counter in
    let one_more : c.args.count - i ≡ suc (c.args.count - (i + 1)) = omega (arith, c.loop-test.true) in
    let lanes = c.loop.invariant.1 ∙ ap (lanes_from i) one_more in omega (arith, ap length lanes)

pub invariant_of-push_reserved : goal.invariant_of-push_reserved
invariant_of-push_reserved c =
    let i = c.loop.counter in
    let one_more : c.args.count - i ≡ suc (c.args.count - (i + 1)) = omega (arith, c.loop-test.true) in
    let lanes = c.loop.invariant.1 ∙ ap (lanes_from i) one_more in
    let at_gate = next_lane i (c.args.count - (i + 1)) _ _ _ lanes c.deal_lane-at_gate.ensures.dealt in
    record { joined = fresh_joined i _ _ at_gate.0 (c.deal_lane-in_ring.ensures.fresh ∙ ap fresh_ring_lane c.loop.invariant.4) }

pub loop-preserved : goal.loop-preserved
loop-preserved c =
    let i = c.loop.counter in
    let inv = c.loop.invariant in
    let one_more : c.args.count - i ≡ suc (c.args.count - (i + 1)) = omega (arith, c.loop-test.true) in
    let lanes = inv.1 ∙ ap (lanes_from i) one_more in
    let at_gate = next_lane i (c.args.count - (i + 1)) _ _ _ lanes c.deal_lane-at_gate.ensures.dealt in
    let in_ring = c.deal_lane-in_ring.ensures.fresh ∙ ap fresh_ring_lane inv.4 in
    let line = line_of c.args.gate.now c.args.ring.now in
    let next : suc i ≡ i + 1 = omega arith in
    let number : c.deal_lane-in_ring.result.known.number < c.args.gate.now.counts.lanes = omega (arith, ap (λ (r : RingLaneRecord QueuedJob). r.number) in_ring, c.loop-test.true, c.requires.count.1) in (
      c.deal_lane-at_gate.ensures.gates.0,
      at_gate.1,
      c.deal_lane-at_gate.ensures.passes ∙ inv.2,
      c.deal_lane-in_ring.ensures.end,
      c.deal_lane-in_ring.ensures.lanes ∙ ap (λ (n : ℕ). n + 1) inv.4,
      c.deal_lane-in_ring.ensures.passes ∙ inv.5,
      c.deal_lane-in_ring.ensures.back.0 ∙ inv.6,
      c.deal_lane-in_ring.ensures.back.1 ∙ inv.7,
      All-same (is_lane line) _ _ c.push_reserved.ensures.items (All-push (is_lane line) _ _ inv.8 (is_of c.args.gate.now c.args.ring.now _ _ c.deal_lane-at_gate.ensures.gates.1 c.deal_lane-in_ring.ensures.lane, number)),
      ap (map lane_record) c.push_reserved.ensures.items ∙ (map-append lane_record _ _ ∙ (ap (λ (rs : List LaneRecord). rs ++ joined_lane c.deal_lane-at_gate.result.known c.deal_lane-in_ring.result.known ∷ []) inv.9
          ∙ (ap (λ (r : LaneRecord). fresh_lanes i ++ r ∷ []) (fresh_joined_lane i _ _ at_gate.0 in_ring) ∙ ap fresh_lanes next))),
      omega (arith, c.push_reserved.ensures.len, inv.10),
      omega (arith, c.push_reserved.ensures.capacity, inv.11),
    )
