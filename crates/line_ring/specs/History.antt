-- The history of a ring: what was put in and taken out, newest first, and the records that follow
-- from it.
use Rattle.std.specs.Prelude.{◌≡◌, ℕ, ◌<◌, Bool, false, List, [], ◌∷◌, ◌++◌, length, ◌==◌}
use Rattle.ghost_history.specs.History.{part, Legal}
use Rattle.ghost_history.specs.Lists.{rest_of}
use Rattle.cube_shape.specs.declared.limits.TheConstants.{MAX_LANES, MAX_PASSES}
use Rattle.line_ring.specs.declared.record.LaneRecord.{LaneRecord}
use Rattle.line_ring.specs.declared.record.PassRecord.{PassRecord}
use Rattle.line_ring.specs.declared.record.RestRecord.{RestRecord}
use Rattle.line_ring.specs.Record.{fresh_lane, fresh_pass}

-- A step in the history of a ring. Lanes and passes are named by their numbers.
pub data Deed (T : Type 0) : Type 0 where
  -- The lane put the piece in at the back.
  accepts : ℕ → T → Deed T
  -- The pass took the piece at the front.
  takes_piece : ℕ → T → Deed T
  -- The piece at the front came out at the ring's end.
  drains : T → Deed T

-- The pieces that wait in the ring after a history, front first.
abbrev pub waiting : {T : Type 0} → List (Deed T) → List T
waiting [] = []
waiting (accepts lane piece ∷ history) = waiting history ++ piece ∷ []
waiting (takes_piece pass piece ∷ history) = rest_of (waiting history)
waiting (drains piece ∷ history) = rest_of (waiting history)

-- ---- the records that a history makes

-- Whether the lane with this number made the step.
abbrev pub is_by_lane : {T : Type 0} → Deed T → ℕ → Bool
is_by_lane (accepts lane piece) k = lane == k
is_by_lane (takes_piece pass piece) k = false
is_by_lane (drains piece) k = false

-- The record of the lane that made a step, after it.
abbrev pub lane_after : {T : Type 0} → Deed T → LaneRecord T → LaneRecord T
lane_after (accepts lane piece) r = record r { accepted = r.accepted ++ piece ∷ [] }
lane_after (takes_piece pass piece) r = r
lane_after (drains piece) r = r

-- The record of a lane after a history.
abbrev pub lane_part : {T : Type 0} → List (Deed T) → ℕ → LaneRecord T
lane_part = part is_by_lane lane_after fresh_lane

-- Whether the pass with this number made the step.
abbrev pub is_by_pass : {T : Type 0} → Deed T → ℕ → Bool
is_by_pass (accepts lane piece) k = false
is_by_pass (takes_piece pass piece) k = pass == k
is_by_pass (drains piece) k = false

-- The record of the pass that made a step, after it.
abbrev pub pass_after : {T : Type 0} → Deed T → PassRecord T → PassRecord T
pass_after (accepts lane piece) r = r
pass_after (takes_piece pass piece) r = record r { taken = r.taken ++ piece ∷ [] }
pass_after (drains piece) r = r

-- The record of a pass after a history.
abbrev pub pass_part : {T : Type 0} → List (Deed T) → ℕ → PassRecord T
pass_part = part is_by_pass pass_after fresh_pass

-- Whether the ring's end made the step. There is one end, with the number 0.
abbrev pub is_by_end : {T : Type 0} → Deed T → ℕ → Bool
is_by_end (accepts lane piece) k = false
is_by_end (takes_piece pass piece) k = false
is_by_end (drains piece) k = 0 == k

-- The record of the end after a step.
abbrev pub rest_after : {T : Type 0} → Deed T → RestRecord T → RestRecord T
rest_after (accepts lane piece) r = r
rest_after (takes_piece pass piece) r = r
rest_after (drains piece) r = record { drained = r.drained ++ piece ∷ [] }

-- The record of the end after a history: what came out at the end.
abbrev pub rest_part : {T : Type 0} → List (Deed T) → ℕ → RestRecord T
rest_part = part is_by_end rest_after (λ _. record { drained = [] })

-- ---- which deeds a history allows

-- Which step may follow a history. A lane's pieces come in with the numbers 0, 1, 2 and so on. The
-- piece that goes out is the one at the front.
abbrev pub May : {T : Type 0} → (T → ℕ) → (T → ℕ) → List (Deed T) → Deed T → Type 0
May lane_of seq_of history (accepts lane piece) =
    (lane < MAX_LANES) × (lane_of piece ≡ lane)
    × (seq_of piece ≡ length (lane_part history lane).accepted)
May lane_of seq_of history (takes_piece pass piece) =
    (pass < MAX_PASSES) × (waiting history ≡ piece ∷ rest_of (waiting history))
May lane_of seq_of history (drains piece) = waiting history ≡ piece ∷ rest_of (waiting history)

-- Each step in the history was allowed by the history before it.
abbrev pub IsLegal : {T : Type 0} → (T → ℕ) → (T → ℕ) → List (Deed T) → Type 0
IsLegal lane_of seq_of history = Legal (May lane_of seq_of) history

-- At one moment of some legal history, this many pieces waited. By then the lane had done exactly
-- what its record says.
abbrev pub HeldBesideLane : {T : Type 0} → (T → ℕ) → (T → ℕ) → LaneRecord T → ℕ → Type 0
HeldBesideLane {T} lane_of seq_of r count =
    (history : List (Deed T)) × IsLegal lane_of seq_of history × (lane_part history r.number ≡ r)
    × (length (waiting history) ≡ count)

-- At one moment of some legal history, this many pieces waited. By then the pass had done exactly
-- what its record says.
abbrev pub HeldBesidePass : {T : Type 0} → (T → ℕ) → (T → ℕ) → PassRecord T → ℕ → Type 0
HeldBesidePass {T} lane_of seq_of r count =
    (history : List (Deed T)) × IsLegal lane_of seq_of history × (pass_part history r.number ≡ r)
    × (length (waiting history) ≡ count)
