use denote.Param.Send.{sendable}
use Rattle.cube_tree.proofs.SharedLemmas.{cube_field_sync}
use Rattle.cube_bench.proofs.tree.words.Workload.TheSendSync as workload
use Rattle.cube_bench.proofs.tree.lanes.run_all.Goals as goal

pub for_each_mut-requires-sync-F : goal.for_each_mut-requires-sync-F
for_each_mut-requires-sync-F g c κs within = search (sendable, cube_field_sync, workload.the_field_sync) depth 30
