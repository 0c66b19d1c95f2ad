-- What the records of all lanes and passes of a ring say together at its end.
use Rattle.std.specs.Prelude.{◌≡◌, ℕ, ◌+◌, ◌≤◌, List, [], ◌++◌, length}
use Rattle.std.specs.List.{AllByRecursion as Each}
use Rattle.ghost_history.specs.Sums.{total}
use Rattle.line_ring.specs.declared.record.LaneRecord.{LaneRecord}
use Rattle.line_ring.specs.declared.record.PassRecord.{PassRecord}
use Rattle.line_ring.specs.Record.{fresh_lane, fresh_pass, AreSeqs, Rises}
use Rattle.line_ring.specs.History.{Deed, waiting, lane_part, pass_part, rest_part, IsLegal}

-- One legal history explains all records: that of each lane, of each pass and of the end is its own
-- part of the history. After the history these pieces wait.
pub record Lists {T : Type 0} (lane_of seq_of : T → ℕ) (lanes : List (LaneRecord T))
    (passes : List (PassRecord T)) (out waits : List T) : Type 0 where
  pub history : List (Deed T)
  pub legal : IsLegal lane_of seq_of history
  pub each_lane : Each (λ l. l ≡ lane_part history l.number) lanes
  pub each_pass : Each (λ p. p ≡ pass_part history p.number) passes
  pub end : (rest_part history 0).drained ≡ out
  pub left : waiting history ≡ waits

-- What all lanes and passes of a ring did, with the pieces that are left.
pub record RingRun {T : Type 0} (lane_of seq_of : T → ℕ) (lanes : List (LaneRecord T))
    (passes : List (PassRecord T)) (rest : List T) : Type 0 where
  -- However pieces are weighed, the accepted ones weigh as much as those taken and those left. So
  -- each accepted piece was taken once or is left.
  pub balance : (weight : T → ℕ)
      → total (λ l. total weight l.accepted) lanes
      ≡ total (λ p. total weight p.taken) passes + total weight rest
  -- The accepted pieces of a lane have the numbers 0, 1, 2 and so on.
  pub seqs : Each (λ l. AreSeqs lane_of seq_of l.number 0 l.accepted) lanes
  -- In what a pass took, followed by what is left, the numbers of each lane's pieces rise.
  pub rises : Each (λ p. Rises lane_of seq_of (p.taken ++ rest)) passes
  -- The same holds in what is left.
  pub rest_rises : Rises lane_of seq_of rest
  -- One legal history has all of it: what is left came out at the end, and no piece waits.
  pub listed : Lists lane_of seq_of lanes passes rest []
  -- No other lane and no other pass did anything.
  pub no_other_lane : (k : ℕ) → length lanes ≤ k → lane_part listed.history k ≡ fresh_lane k
  pub no_other_pass : (k : ℕ) → length passes ≤ k → pass_part listed.history k ≡ fresh_pass k
