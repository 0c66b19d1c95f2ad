use Rattle.uses.specs.InnerNaming.{of_two}
use Rattle.uses.proofs.line_run.running.run.Given as goal

abbrev pub ghosts-run_named : goal.ghosts-run_named
ghosts-run_named g a = record { line = g.L.JobLine.id a.opened.line; jobs = of_two a.jobs.0.items a.jobs.1.items }
