use Rattle.std.proofs.Common.{◌≡◌, ◌-◌, ◌^◌}
use Rattle.cube_tree.specs.Hint.{hint_of}
use Rattle.cube_tree.specs.Handles.{cube_dim, station_entry, IsStationOf}
use Rattle.cube_tree.specs.Tries.{Tries}
use Rattle.cube_tree.proofs.handles.TreeStation.try_take.Given as goal

abbrev pub invariant-loop-m : goal.invariant-loop-m
invariant-loop-m l = record {
  of_cube : IsStationOf l.cube l.station;
  tries : Tries (cube_dim l.cube) (2 ^ (cube_dim l.cube - l.k)) l.m l.refusal
      (station_entry l.initial.station) (station_entry l.station);
  memory : hint_of l.station ≡ hint_of l.initial.station;
}
