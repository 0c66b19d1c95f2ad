-- The rule of a ring.
use Rattle.std.specs.Prelude.{◌≡◌, ℕ, ◌<◌, List}
use Rattle.std.specs.List.{AllByRecursion as Each}
use mathlib.Core.Option.{some}
use lib.ListN.{get_elem?}
use Rattle.ghost_history.specs.Views.{Tied}
use Rattle.cube_shape.specs.declared.limits.TheConstants.{MAX_LANES, MAX_PASSES}
use Rattle.line_ring.specs.declared.rule.View.{View}
use Rattle.line_ring.specs.History.{Deed, waiting, lane_part, pass_part, IsLegal, rest_part}
use Rattle.line_ring.specs.Inner.View.{lanes_in, passes_in, rests_in, lane_number, pass_number, rest_number, members}

module _ {T : Type 0} (lane_of seq_of : T → ℕ) (is_for : ℕ → T → Type 0) where
  -- The ring's pieces are those that wait after some legal history, all for one machine. The views
  -- have the records of this history.
  pub record Keeps (items : List T) (views : List (View T)) : Type 0 where
    pub history : List (Deed T)
    pub machine : ℕ
    pub legal : IsLegal lane_of seq_of history
    pub waits : items ≡ waiting history
    pub made_for : Each (is_for machine) items
    pub lanes : Tied lanes_in lane_number MAX_LANES (lane_part history) views
    pub passes : Tied passes_in pass_number MAX_PASSES (pass_part history) views
    pub rests : Tied rests_in rest_number 1 (rest_part history) views
    pub about : (id : ℕ) (v : View T)
        → get_elem? views id ≡ some v
        → 0 < members v
        → v.machine ≡ machine
