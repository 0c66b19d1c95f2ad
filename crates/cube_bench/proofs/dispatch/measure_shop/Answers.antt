use denote.Param.Send.{sendable}
use Rattle.floor_tree.proofs.SharedLemmas.{tree_floor_sync}
use Rattle.cube_bench.proofs.dispatch.measure_shop.Goals as goal

pub run_shop-requires-sync-F : goal.run_shop-requires-sync-F
run_shop-requires-sync-F g c κs within = search (sendable, tree_floor_sync) depth 20
