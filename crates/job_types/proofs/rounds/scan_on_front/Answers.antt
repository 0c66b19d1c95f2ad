use Rattle.std.proofs.Common.{◌^◌, arith}
use Rattle.job_types.proofs.DimLemmas.{shifted_one}
use Rattle.job_types.proofs.PlaceLemmas.{units_in_front}
use Rattle.job_types.proofs.rounds.scan_on_front.Goals as goal

pub on_places-requires-clause-units : goal.on_places-requires-clause-units
on_places-requires-clause-units g c =
    units_in_front g.O.Operator.unit c.args.places.now _ (2 ^ c.args.k) c.requires.units c.requires.places (shifted_one c.args.k (omega (arith, c.requires.job.dim)))
