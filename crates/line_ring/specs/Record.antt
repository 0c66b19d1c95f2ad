-- The records of lanes and passes, and the order of a lane's pieces.
use Rattle.std.specs.Prelude.{◌≡◌, ℕ, ◌+◌, ◌<◌, List, [], ◌∷◌}
use Rattle.std.specs.List.{AllByRecursion as Each}
use Rattle.line_ring.specs.declared.record.LaneRecord.{LaneRecord}
use Rattle.line_ring.specs.declared.record.PassRecord.{PassRecord}

-- The record of a lane that has done nothing.
abbrev pub fresh_lane : {T : Type 0} → ℕ → LaneRecord T
fresh_lane number = record { number = number; accepted = [] }

-- The record of a pass that has done nothing.
abbrev pub fresh_pass : {T : Type 0} → ℕ → PassRecord T
fresh_pass number = record { number = number; taken = [] }

-- The pieces are consecutive pieces of one lane, in order: the first one has the number `seq`.
abbrev pub AreSeqs : {T : Type 0} → (T → ℕ) → (T → ℕ) → ℕ → ℕ → List T → Type 0
AreSeqs lane_of seq_of lane seq [] = Unit {0}
AreSeqs lane_of seq_of lane seq (piece ∷ pieces) =
    (lane_of piece ≡ lane) × (seq_of piece ≡ seq) × AreSeqs lane_of seq_of lane (seq + 1) pieces

-- Of two pieces of one lane, the later one has the greater number (seq).
abbrev pub Rises : {T : Type 0} → (T → ℕ) → (T → ℕ) → List T → Type 0
Rises lane_of seq_of [] = Unit {0}
Rises lane_of seq_of (piece ∷ pieces) =
    Each (λ later. lane_of later ≡ lane_of piece → seq_of piece < seq_of later) pieces
    × Rises lane_of seq_of pieces
