use Rattle.std.proofs.Common.{◌^◌, arith}
use Rattle.std.proofs.lemmas.List.Elements.{All-replicate, All-set}
use Rattle.collectives.specs.Operations.{IsU64}
use Rattle.job_types.proofs.PlaceLemmas.{item_put, units_put}
use Rattle.job_types.proofs.rounds.put_items.Goals as goal

pub loop-rank-init : goal.loop-rank-init
loop-rank-init g c = record {
  numbers = units_put g.O.Operator.unit (2 ^ c.args.k) c.args.places.now c.requires.units;
  values = rw c.requires.units (All-replicate IsU64 (2 ^ c.args.k) g.O.Operator.unit g.met.O.Operator.laws.unit_value);
}

pub loop-rank-preserved : goal.loop-rank-preserved
loop-rank-preserved g c = record {
  numbers = item_put g.O.Operator.unit (2 ^ c.args.k) c.loop-rank.rank c.args.items.now c.loop-rank.places c.new.result (omega arith) c.requires.fits c.new.ensures.number c.loop-rank.invariant.numbers;
  values = All-set IsU64 c.loop-rank.places c.loop-rank.rank c.new.result c.new.ensures.value c.loop-rank.invariant.values;
}
