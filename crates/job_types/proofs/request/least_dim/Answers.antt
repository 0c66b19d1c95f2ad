-- The result is the number of binary digits of count - 1.
use Rattle.std.proofs.Common.{◌≡◌, ◌-◌, arith}
use Rattle.std.specs.Int.Count.{count_leading_zeros}
use Rattle.std.proofs.lemmas.Nat.{leading_length}
use Rattle.job_types.proofs.DimLemmas.{least_by_digits, least_is_dim_of}
use Rattle.job_types.proofs.request.least_dim.Goals as goal

pub returns-clause-least : goal.returns-clause-least
returns-clause-least c =
    let found = leading_length 64 (c.args.count - 1) (omega (arith, c.ranges.count.fits)) in
    let digits : 64 - count_leading_zeros 64 (c.args.count - 1) ≡ found.0 = omega (arith, found.1) in
    rw digits (least_by_digits c.args.count found.0 c.requires found.2 found.3)

pub returns-clause-value : goal.returns-clause-value
returns-clause-value c = least_is_dim_of c.args.count (64 - count_leading_zeros 64 (c.args.count - 1)) (returns-clause-least c)
