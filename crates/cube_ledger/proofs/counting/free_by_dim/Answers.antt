use Rattle.std.proofs.Common.{◌-◌, rules, arith}
use Rattle.cube_ledger.specs.Occupancy.{free_regions}
use Rattle.cube_ledger.proofs.RegionLemmas.{set_counted, set_others}
use Rattle.cube_ledger.proofs.counting.free_by_dim.Goals as goal

pub loop-dim-preserved : goal.loop-dim-preserved
loop-dim-preserved c =
    record {
      places = search rules;
      counted = set_counted (λ k. free_regions c.args.words.now (c.args.n - k)) c.loop-dim.free c.loop-dim.dim c.free_regions.result (omega (arith, c.loop-dim.invariant.places)) c.free_regions.ensures.count c.loop-dim.invariant.counted;
      others = set_others c.loop-dim.free c.loop-dim.dim c.free_regions.result c.loop-dim.invariant.others;
    }
