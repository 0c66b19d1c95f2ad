-- What the handles of a machine have in common, and its owner.
use Rattle.std.specs.Prelude.{⊤}
use Rattle.std.specs.Arc.{arc_value}
use Rattle.cubejobs_regions.specs.declared.common.Common.{Common}
use Rattle.cubejobs_regions.specs.declared.ownership.Ownership.{Ownership}
use Rattle.cubejobs_regions.specs.declared.ownership.Ownership.TheVariants.{Shared, Sole}

-- What the handles of a machine have in common.
abbrev pub common_of : Ownership → Common
common_of (Shared common) = arc_value common
common_of (Sole common) = common

-- No other handle owns it.
abbrev pub IsSoleOwner : Ownership → Type 0
IsSoleOwner (Shared common) = ⊥
IsSoleOwner (Sole common) = ⊤
