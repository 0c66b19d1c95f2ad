-- What the steps of a seat of a ring do: its view before, the piece, and its view after.
use Rattle.std.specs.Prelude.{◌≡◌, ℕ, ◌+◌, ◌-◌, ◌<◌, ◌≤◌, List, [], ◌∷◌, ◌++◌, length}
use Rattle.std.specs.List.{AllByRecursion as Each}
use Rattle.ghost_history.specs.Sums.{total, is_at}
use Rattle.cube_shape.specs.declared.limits.TheConstants.{MAX_LANES, MAX_PASSES}
use Rattle.line_ring.specs.declared.record.RestRecord.{RestRecord}
use Rattle.line_ring.specs.declared.rule.View.{View}
use Rattle.line_ring.specs.Record.{AreSeqs, Rises}
use Rattle.line_ring.specs.History.{HeldBesideLane, HeldBesidePass}
use Rattle.line_ring.specs.Run.{Lists}
use Rattle.line_ring.specs.Inner.View.{view, lane_in, pass_in, lane_view, pass_view, rest_record, lanes_in, passes_in, lanes_from, passes_from}

module _ {T : Type 0} where
  -- What has come out, by the record of the end.
  abbrev pub drained_in : List (RestRecord T) → List T
  drained_in [] = []
  drained_in (r ∷ rs) = r.drained

  -- ---- the record gains what the step did

  -- What a lane knows after its push of this piece.
  abbrev pub after_push : View T → T → View T
  after_push v piece =
      lane_view v.machine (record (lane_in v.lanes)
      { accepted = (lane_in v.lanes).accepted ++ piece ∷ [] })

  -- What a pass knows after it took this piece.
  abbrev pub after_take : View T → T → View T
  after_take v piece =
      pass_view v.machine (record (pass_in v.passes)
      { taken = (pass_in v.passes).taken ++ piece ∷ [] })

  -- What the end knows after this piece came out.
  abbrev pub after_drain : View T → T → View T
  after_drain v piece =
      view v.machine v.spare_lanes v.lanes v.spare_passes v.passes
      (rest_record (drained_in v.rests ++ piece ∷ []) ∷ [])

  -- ---- the views of members

  -- What the seat of a lane knows, if it has this number and this count of accepted pieces.
  pub record IsLaneView (number accepted : ℕ) (v : View T) : Type 0 where
    pub alone : v ≡ lane_view v.machine (lane_in v.lanes)
    pub numbered : (lane_in v.lanes).number ≡ number
    pub counted : length (lane_in v.lanes).accepted ≡ accepted

  -- What the seat of a pass knows: that pass's record alone.
  abbrev pub IsPassView : View T → Type 0
  IsPassView v = v ≡ pass_view v.machine (pass_in v.passes)

  -- What the seat of the end knows, after this many lanes and passes were given out.
  pub record IsEndView (lanes passes : ℕ) (v : View T) : Type 0 where
    pub few_lanes : lanes ≤ MAX_LANES
    pub few_passes : passes ≤ MAX_PASSES
    pub spare_lanes : v.spare_lanes ≡ lanes_from lanes (MAX_LANES - lanes)
    pub spare_passes : v.spare_passes ≡ passes_from passes (MAX_PASSES - passes)
    pub rests : v.rests ≡ rest_record [] ∷ []

  -- The view has the records of all members.
  pub record IsWhole (v : View T) : Type 0 where
    pub lanes : length (lanes_in v) ≡ MAX_LANES
    pub passes : length (passes_in v) ≡ MAX_PASSES
    pub rests : v.rests ≡ rest_record (drained_in v.rests) ∷ []

module _ {T : Type 0} (is_for : ℕ → T → Type 0) where
  -- A pass takes the piece, which is for the ring's machine.
  abbrev pub Takes : View T → T → View T → Type 0
  Takes v piece w = (w ≡ after_take v piece) × is_for v.machine piece

module _ {T : Type 0} (lane_of seq_of : T → ℕ) where
  -- ---- what a call learns

  -- What a lane learns of the pieces in the ring: their number at one moment.
  abbrev pub LaneLearns : View T → List T → Type 0
  LaneLearns v items = HeldBesideLane lane_of seq_of (lane_in v.lanes) (length items)

  -- What a pass learns of the pieces in the ring: their number at one moment.
  abbrev pub PassLearns : View T → List T → Type 0
  PassLearns v items = HeldBesidePass lane_of seq_of (pass_in v.passes) (length items)

  -- What the records of all members say while the ring still holds these pieces.
  pub record RunsTo (v : View T) (items : List T) : Type 0 where
    pub balance : (weight : T → ℕ)
        → total (λ l. total weight l.accepted) (lanes_in v)
        ≡ total (λ p. total weight p.taken) (passes_in v) + total weight (drained_in v.rests)
        + total weight items
    pub seqs : Each (λ l. AreSeqs lane_of seq_of l.number 0 l.accepted) (lanes_in v)
    pub rises : Each (λ p. Rises lane_of seq_of (p.taken ++ items)) (passes_in v)
    pub rest_rises : Rises lane_of seq_of (drained_in v.rests ++ items)
    pub numbers : (k : ℕ) → k < MAX_LANES → total (λ l. is_at k l.number) (lanes_in v) ≡ 1
    pub listed : Lists lane_of seq_of (lanes_in v) (passes_in v) (drained_in v.rests) items

module _ {T : Type 0} (lane_of seq_of : T → ℕ) (is_for : ℕ → T → Type 0) where
  -- The piece comes out at the end. It is for the ring's machine and was at the front.
  abbrev pub Drains : View T → T → View T → Type 0
  Drains v piece w =
      (w ≡ after_drain v piece) × is_for v.machine piece
      × ((items : List T) × RunsTo lane_of seq_of v (piece ∷ items))
