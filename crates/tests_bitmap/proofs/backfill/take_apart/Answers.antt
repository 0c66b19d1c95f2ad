-- The block that was found is free and apart from the reserved one.
use Rattle.std.proofs.Common.{sym, subst}
use Rattle.cube_shape.specs.Machine.{IsFree}
use Rattle.cube_shape.specs.Region.{AreApart}
use Rattle.fit_tree.specs.Fit.{held_in}
use Rattle.tests_bitmap.proofs.backfill.take_apart.Goals as goal

pub unreachable-requires : goal.unreachable-requires
unreachable-requires c =
    let found = c.in_ok-region.ensures.first in
    c.in_default.ensures.refused (subst (IsFree (held_in c.args.fit.now)) (sym found.1) found.2.free)

pub returns-clause-apart : goal.returns-clause-apart
returns-clause-apart c =
    let found = c.in_ok-region.ensures.first in
    subst (AreApart c.args.reserved) (sym found.1) found.2.apart
