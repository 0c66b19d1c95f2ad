use Rattle.std.proofs.Common.{arith, ◌∙◌}
use Rattle.job_types.proofs.PlaceLemmas.{number_copied}
use Rattle.job_types.proofs.rounds.copy_numbers.Goals as goal

pub loop-place-preserved : goal.loop-place-preserved
loop-place-preserved g c =
    number_copied c.args.places.now c.loop-place.numbers c.loop-place.place c.number.result c.index-places-place.result
    (omega arith) (omega arith) (c.number.ensures ∙ c.index-places-place.is) c.loop-place.invariant
