use Rattle.std.proofs.Common.{ℕ, length, sym, ap, ◌∙◌, subst}
use Rattle.line_ring.specs.declared.record.LaneRecord.{LaneRecord}
use Rattle.line_ring.proofs.SeatLemmas.{one_machine, lane_ring, lane_known}
use Rattle.line_ring.proofs.KeepLemmas.{pushes, lane_learns}
use Rattle.line_ring.proofs.ring.Ring.push.Goals as goal

pub push_as-requires-clause-rule : goal.push_as-requires-clause-rule
push_as-requires-clause-rule g c =
    let known = c.lane.invariant.known in
    let same = sym (lane_known c.lane.view_is) in
    let for_machine = subst (λ (m : ℕ). g.T.Piece.is_for m c.args.piece) (sym (one_machine (lane_ring c.lane.view_is c.requires.lane))) c.requires.machine in
    (pushes _ _ _ _ _ _ _ _ _ known (c.requires.from_lane ∙ ap (λ (r : LaneRecord _). r.number) same) (c.requires.seq ∙ ap (λ (r : LaneRecord _). length r.accepted) same) for_machine, lane_learns _ _ _ _ _ _ _ known)
