use Rattle.std.proofs.Common.{◌++◌, ◌∷◌, [], ap, ◌∙◌}
use Rattle.locked_peers.specs.InnerFloor.Handle.{floor_id, grants_of}
use Rattle.locked_peers.proofs.FloorHandleLemmas.{one_grant_more}
use Rattle.locked_peers.proofs.floor_locked.LockedFloorFloor.take.Goals as goal

pub returns-in-Some-try_take-clause-of_floor : goal.returns-in-Some-try_take-clause-of_floor
returns-in-Some-try_take-clause-of_floor g c =
    let id = floor_id c.args.self.now.lock in
    let given = c.in-Some-try_take.ensures.given in
    let r = c.in-Some-try_take.region in
    (c.in-Some-try_take.ensures.of_floor, one_grant_more id.dim (grants_of c.args.station) _ r (given.2 ∙ ap (λ gs. gs ++ r ∷ []) c.loop.invariant.2) c.requires.of_floor.1 given.0)
