-- The result is the number of binary digits of count - 1.
use Rattle.std.proofs.Common.{◌≡◌, ◌-◌, arith}
use Rattle.std.specs.Int.Count.{count_leading_zeros}
use Rattle.std.proofs.lemmas.Nat.{leading_length}
use Rattle.sched_core.proofs.DimLemmas.{digits_enough, digits_least}
use Rattle.sched_core.proofs.request.least_dim.Goals as goal

pub returns-clause-enough : goal.returns-clause-enough
returns-clause-enough c =
    let found = leading_length 32 (c.args.count - 1) (omega (arith, c.ranges.count.fits)) in
    let digits : 32 - count_leading_zeros 32 (c.args.count - 1) ≡ found.0 = omega (arith, found.1) in
    rw digits (digits_enough c.args.count found.0 c.requires found.2)

pub returns-clause-least : goal.returns-clause-least
returns-clause-least c = λ k enough.
    let found = leading_length 32 (c.args.count - 1) (omega (arith, c.ranges.count.fits)) in
    let digits : 32 - count_leading_zeros 32 (c.args.count - 1) ≡ found.0 = omega (arith, found.1) in
    rw digits (digits_least c.args.count found.0 k c.requires found.3 enough)
