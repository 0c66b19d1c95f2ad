-- The seats of a ring's members. No slot of the ring is out with any of them.
use Rattle.std.specs.Prelude.{◌≡◌, ℕ, []}
use Rattle.atomic_table.specs.Seated.{TableId}
use Rattle.crossbeam_queue.specs.Passes.{Pass, view}
use Rattle.line_ring.specs.declared.rule.View.{View}
use Rattle.line_ring.specs.Ring.{RingId, EndOf}
use Rattle.line_ring.specs.Inner.Step.{IsLaneView, IsPassView, IsEndView}

-- A ring's identity, by its table and its machine.
abbrev pub ring_id : TableId → ℕ → RingId
ring_id table machine = record { table = table; machine = machine }

module _ {T : Type 0} where
  -- The ring of a seat.
  abbrev pub ring_of : Pass T (View T) → RingId
  ring_of seat = ring_id seat.table_id (view seat).machine

  -- What contracts see of the end, if its seat has this view.
  abbrev pub end_of : RingId → ℕ → ℕ → View T → EndOf T
  end_of ring lanes passes v =
      record {
        ring = ring;
        dealt_lanes = lanes;
        dealt_passes = passes;
        back_lanes = v.lanes;
        back_passes = v.passes;
      }

  -- The seat of a lane with this number and this count of accepted pieces.
  pub record IsLaneSeat (number accepted : ℕ) (seat : Pass T (View T)) : Type 0 where
    pub none_out : seat.me.1 ≡ []
    pub known : IsLaneView number accepted (view seat)

  -- The seat of a pass.
  pub record IsPassSeat (seat : Pass T (View T)) : Type 0 where
    pub none_out : seat.me.1 ≡ []
    pub known : IsPassView (view seat)

  -- The seat of the end, after this many lanes and passes were given out.
  pub record IsEndSeat (lanes passes : ℕ) (seat : Pass T (View T)) : Type 0 where
    pub none_out : seat.me.1 ≡ []
    pub known : IsEndView lanes passes (view seat)
