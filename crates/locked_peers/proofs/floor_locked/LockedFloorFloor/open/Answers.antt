use Rattle.std.proofs.Common.{sym, subst}
use Rattle.std.specs.List.{All}
use Rattle.std.proofs.lemmas.List.Elements.{All-nil}
use Rattle.cube_shape.specs.Region.{IsAligned}
use Rattle.locked_peers.proofs.floor_locked.LockedFloorFloor.open.Goals as goal

pub returns-clause-of_floor : goal.returns-clause-of_floor
returns-clause-of_floor c =
    λ i d below. (c.deal_stations-list.ensures.stations i d below, subst (All (IsAligned _)) (sym (c.deal_stations-list.ensures.fresh i d below)) (All-nil (IsAligned _)))
