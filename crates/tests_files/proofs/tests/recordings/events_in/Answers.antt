use denote.Param.Send.{sendable}
use Rattle.floor_tree.proofs.SharedLemmas.{tree_floor_sync}
use Rattle.tests_files.proofs.tests.recordings.events_in.Goals as goal

pub run_file-ran-requires-sync-F : goal.run_file-ran-requires-sync-F
run_file-ran-requires-sync-F g c κs = search (sendable, tree_floor_sync) depth 20
