use Rattle.std.proofs.Common.{[], map, slice_index_or}
use Rattle.dispatcher_threads.proofs.running.run.Given as goal

abbrev pub ghosts-run_named : goal.ghosts-run_named
ghosts-run_named g a = record { shop = a.ready.opened.shop; jobs = λ k. slice_index_or (map (λ js. js.items) a.ready.jobs.items) k [] }
