-- What contracts see of a ring, of a lane and of the end is what their fields say.
use Rattle.std.proofs.Common.{◌≡◌, ap, ◌∙◌}
use Rattle.line_ring.specs.Ring.{RingId, RingOf, LaneOf, EndOf}

pub one_table : {r s : RingId} → r ≡ s → r.table ≡ s.table
one_table = ap (λ (r : RingId). r.table)

pub one_machine : {r s : RingId} → r ≡ s → r.machine ≡ s.machine
one_machine = ap (λ (r : RingId). r.machine)

pub ring_is : {r s : RingOf} → r ≡ s → r.id ≡ s.id
ring_is = ap (λ (r : RingOf). r.id)

module _ {T : Type 0} where
  -- The ring of a handle, as its fields say.
  pub lane_ring : {l m : LaneOf T} {s : RingId} → l ≡ m → m.ring ≡ s → l.ring ≡ s
  lane_ring is of = ap (λ (l : LaneOf T). l.ring) is ∙ of

  pub end_ring : {e f : EndOf T} {s : RingId} → e ≡ f → f.ring ≡ s → e.ring ≡ s
  end_ring is of = ap (λ (e : EndOf T). e.ring) is ∙ of

  pub lane_known : {l m : LaneOf T} → l ≡ m → l.known ≡ m.known
  lane_known = ap (λ (l : LaneOf T). l.known)
