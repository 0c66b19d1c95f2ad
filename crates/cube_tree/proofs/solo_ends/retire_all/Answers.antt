use Rattle.std.proofs.Common.{◌∙◌}
use Rattle.cube_tree.proofs.MovedLemmas.{gone_next, moved_rest}
use Rattle.cube_tree.proofs.solo_ends.retire_all.Goals as goal

pub loop-station-preserved : goal.loop-station-preserved
loop-station-preserved c = record {
  table = c.retire_one.ensures.table ∙ c.loop-station.invariant.table;
  slots = c.retire_one.ensures.moved.slots ∙ c.loop-station.invariant.slots;
  all = moved_rest c.retire_one.ensures.moved tt c.loop-station.invariant.all;
  gone = gone_next c.loop-station.station c.retire_one.ensures.moved c.loop-station.invariant.gone;
}
