use denote.Param.Send.{sendable}
use Rattle.floor_tree.proofs.SharedLemmas.{tree_floor_sync}
use Rattle.uses.proofs.batch.answer_all.Goals as goal

pub answer_all-requires-sync-F : goal.answer_all-requires-sync-F
answer_all-requires-sync-F g c κs within = search (sendable, tree_floor_sync) depth 20
