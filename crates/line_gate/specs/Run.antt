-- What the records of all lanes and passes of a gate say together at its end.
use Rattle.std.specs.Prelude.{◌≡◌, ℕ, ◌<◌, ◌≤◌, Some, List, length, map}
use Rattle.std.specs.List.{AllByRecursion as Each}
use Rattle.ghost_history.specs.Sums.{total, below, is_at}
use Rattle.line_gate.specs.declared.record.LaneEntries.{LaneEntries}
use Rattle.line_gate.specs.declared.record.PassReadings.{PassReadings}
use Rattle.line_gate.specs.Record.{Seals}
use Rattle.line_gate.specs.History.{Entering, shut_at, numbers_by, AreEntries}

-- What all lanes and passes of a gate did, with the number of the close note. All entries are
-- settled.
pub record WholeGate (lanes : List LaneEntries) (passes : List PassReadings)
    (note : ℕ) : Type 0 where
  -- Each lane is there once.
  pub numbers : (k : ℕ) → k < length lanes → total (λ l. is_at k l.number) lanes ≡ 1
  -- The entries of all lanes are the numbers below the close number, each once.
  pub entries : (weight : ℕ → ℕ)
      → total (λ l. total (λ e. weight e.number) l.entries) lanes ≡ below weight note
  -- Each entry has a number below the close number.
  pub entered_before : Each (λ l. Each (λ e. e.number < note) l.entries) lanes
  -- A count that was read with the closed mark is at least the close number.
  pub seen : Each (λ l. Each (λ n. note ≤ n) l.seen) lanes
  -- If a pass read that the gate is sealed, all entries were settled.
  pub sealed : Each (λ p. Each (λ r. Seals r → r.settled ≡ note) p.readings) passes
  -- One list has the entries of all lanes and the close.
  pub entering : List Entering
  pub are_entries : AreEntries (length lanes) entering
  pub shut : shut_at entering ≡ Some note
  pub each_lane : Each (λ l. numbers_by entering l.number ≡ map (λ e. e.number) l.entries) lanes
