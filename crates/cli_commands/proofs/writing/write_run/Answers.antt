use Rattle.jobs_csv.specs.Jobs.{parse_jobs}
use Rattle.cli_commands.proofs.RecordLemmas.{run_answer, run_fault}
use Rattle.cli_commands.proofs.writing.write_run.Goals as goal

pub returns-in-Ok-clause-answered : goal.returns-in-Ok-clause-answered
returns-in-Ok-clause-answered g c bytes is = run_answer g.F.Floor.machine_words c.args.n (parse_jobs c.args.n bytes)
    (g.O.Output.are_rows c.args.n) g.O.Output.text
    (g.W.Write.contents c.args.writer.now) (g.W.Write.contents c.write_both.new.writer)
    (g.W.Device.failures c.args.writer.now) (g.W.Device.failures c.write_both.new.writer)
    g.K.EventSink.has_file (g.K.EventSink.failures c.args.sink.now) (g.K.EventSink.failures c.write_both.new.sink)
    c.args.ran _ c.write_both.result c.in-Ok.is is c.write_both.ensures.written c.write_both.ensures.failed

pub returns-in-Err-clause-answered : goal.returns-in-Err-clause-answered
returns-in-Err-clause-answered g c bytes is = run_fault g.F.Floor.machine_words c.args.n (parse_jobs c.args.n bytes)
    (g.O.Output.are_rows c.args.n) g.O.Output.text (g.W.Write.contents c.args.writer.now)
    c.args.ran _ c.in-Err.is is
