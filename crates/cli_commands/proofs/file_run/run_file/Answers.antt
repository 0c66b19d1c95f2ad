use Rattle.std.proofs.Common.{IfSome, Result, sym, subst}
use Rattle.jobs_csv.specs.Jobs.{parse_jobs}
use Rattle.cli_commands.specs.Events.{run_in}
use Rattle.cli_commands.specs.FileRun.{ReturnsRun}
use Rattle.cli_commands.specs.declared.file_run.FileRun.{FileRun}
use Rattle.cli_commands.specs.declared.shop.AnswerError.{AnswerError}
use Rattle.cli_commands.proofs.RunLemmas.{fault_unanswered, where_known}
use Rattle.cli_commands.proofs.file_run.run_file.Goals as goal
use Rattle.cli_commands.proofs.file_run.run_file.Goals.{in-Ok, in-Err}

pub returns-clause-answered : goal.returns-clause-answered
returns-clause-answered g c =
    let dim = c.args.options.sizes.dim in
    elim c.match-read_lanes_with.branch [
      | in-Ok w ↦ subst (λ (a : Result (FileRun _) (AnswerError _)). IfSome (g.R.Read.remaining c.args.reader.now) (λ bytes. ReturnsRun g.F.Floor.machine_words dim (parse_jobs dim bytes) (run_in a))) (sym w.ran-is)
          (where_known (g.R.Read.remaining c.args.reader.now) _ _ (λ bytes. w.run_lanes-ran.ensures.answered (parse_jobs dim bytes)) w.in-Ok.ensures.parse)
      | in-Err w ↦ subst (λ (a : Result (FileRun _) (AnswerError _)). IfSome (g.R.Read.remaining c.args.reader.now) (λ bytes. ReturnsRun g.F.Floor.machine_words dim (parse_jobs dim bytes) (run_in a))) (sym w.ran-is)
          (fault_unanswered g.F.Floor.machine_words dim (g.R.Read.remaining c.args.reader.now) w.in-Err.fault w.in-Err.ensures.parse)
    ]
