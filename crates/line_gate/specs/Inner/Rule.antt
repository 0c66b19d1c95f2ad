-- The rule of a gate's table.
use Rattle.std.specs.Prelude.{◌≡◌, ◌≤◌, List}
use Rattle.atomic_table.specs.Table.{State}
use Rattle.ghost_history.specs.Views.{Tied}
use Rattle.cube_shape.specs.declared.limits.TheConstants.{MAX_LANES}
use Rattle.line_gate.specs.declared.gate.Counts.{Counts}
use Rattle.line_gate.specs.declared.view.View.{View}
use Rattle.line_gate.specs.Inner.Deed.{Deed, words_of, lane_part, pass_part, closer_part, IsLegal}

-- Some legal history leads to these words, and each record in a view is its member's part of it.
pub record Keeps (counts : Counts) (s : State (Unit {0}) View) : Type 0 where
  pub history : List Deed
  pub legal : IsLegal counts history
  pub few : counts.lanes ≤ MAX_LANES
  pub words : s.words ≡ words_of history
  pub lanes : Tied (λ (v : View). v.lanes) (λ r. r.number) counts.lanes (lane_part history) s.views
  pub passes : Tied (λ (v : View). v.passes) (λ r. r.number) counts.passes (pass_part history)
      s.views
  pub closers : Tied (λ (v : View). v.closers) (λ r. 0) 1 (closer_part history) s.views
