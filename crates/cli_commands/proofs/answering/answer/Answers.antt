use denote.Param.Send.{sendable}
use Rattle.std.proofs.Common.{IfSome, OnOk, sym, subst}
use Rattle.floor_tree.proofs.SharedLemmas.{tree_floor_sync}
use Rattle.jobs_csv.specs.Jobs.{parse_jobs}
use Rattle.cli_args.specs.declared.invocation.Invocation.{Invocation}
use Rattle.cli_commands.specs.Events.{IsSunk}
use Rattle.cli_commands.specs.Program.{IsAnswerTo}
use Rattle.cli_commands.proofs.RecordLemmas.{events_written}
use Rattle.cli_commands.proofs.RunLemmas.{where_known}
use Rattle.cli_commands.proofs.answering.answer.Goals as goal

pub run_file-ran-requires-sync-F : goal.run_file-ran-requires-sync-F
run_file-ran-requires-sync-F g c κs within = search (sendable, tree_floor_sync) depth 20

pub returns-in-Run-clause-answered : goal.returns-in-Run-clause-answered
returns-in-Run-clause-answered g c =
    subst (λ (i : Invocation). IfSome (g.R.Read.remaining c.args.reader.now)
    (λ bytes. IsAnswerTo i bytes (g.W.Write.contents c.args.writer.now) (g.W.Write.contents c.write_run.new.writer) c.write_run.result)) (sym c.in-Run.is)
    (where_known (g.R.Read.remaining c.args.reader.now) _ _ c.write_run.ensures.answered c.run_file-ran.ensures.answered)

pub returns-in-Run-clause-written : goal.returns-in-Run-clause-written
returns-in-Run-clause-written g c =
    subst (λ (i : Invocation). OnOk c.write_run.result (IfSome (g.R.Read.remaining c.args.reader.now)
    (IsSunk g.K.EventSink.has_file (g.K.EventSink.writes c.args.sink.now c.write_run.new.sink) i))) (sym c.in-Run.is)
    (events_written g.K.EventSink.has_file _ _ (g.R.Read.remaining c.args.reader.now) (λ bytes. parse_jobs _ bytes) c.run_file-ran.result c.write_run.result
    (g.K.EventSink.writes c.args.sink.now c.write_run.new.sink)
    c.run_file-ran.ensures.events c.write_run.ensures.events c.run_file-ran.ensures.answered)

pub run_file-ran-requires-in-RunLong-sync-F : goal.run_file-ran-requires-in-RunLong-sync-F
run_file-ran-requires-in-RunLong-sync-F g c κs within = search (sendable, tree_floor_sync) depth 20

pub returns-in-RunLong-clause-answered : goal.returns-in-RunLong-clause-answered
returns-in-RunLong-clause-answered g c =
    subst (λ (i : Invocation). IfSome (g.R.Read.remaining c.args.reader.now)
    (λ bytes. IsAnswerTo i bytes (g.W.Write.contents c.args.writer.now) (g.W.Write.contents c.write_run-in-RunLong.new.writer) c.write_run-in-RunLong.result)) (sym c.in-RunLong.is)
    (where_known (g.R.Read.remaining c.args.reader.now) _ _ c.write_run-in-RunLong.ensures.answered c.run_file-ran-in-RunLong.ensures.answered)

pub returns-in-RunLong-clause-written : goal.returns-in-RunLong-clause-written
returns-in-RunLong-clause-written g c =
    subst (λ (i : Invocation). OnOk c.write_run-in-RunLong.result (IfSome (g.R.Read.remaining c.args.reader.now)
    (IsSunk g.K.EventSink.has_file (g.K.EventSink.writes c.args.sink.now c.write_run-in-RunLong.new.sink) i))) (sym c.in-RunLong.is)
    (events_written g.K.EventSink.has_file _ _ (g.R.Read.remaining c.args.reader.now) (λ bytes. parse_jobs _ bytes) c.run_file-ran-in-RunLong.result c.write_run-in-RunLong.result
    (g.K.EventSink.writes c.args.sink.now c.write_run-in-RunLong.new.sink)
    c.run_file-ran-in-RunLong.ensures.events c.write_run-in-RunLong.ensures.events c.run_file-ran-in-RunLong.ensures.answered)

pub run_file-ran-requires-in-Report-sync-F : goal.run_file-ran-requires-in-Report-sync-F
run_file-ran-requires-in-Report-sync-F g c κs within = search (sendable, tree_floor_sync) depth 20

pub returns-in-Report-clause-answered : goal.returns-in-Report-clause-answered
returns-in-Report-clause-answered g c =
    subst (λ (i : Invocation). IfSome (g.R.Read.remaining c.args.reader.now)
    (λ bytes. IsAnswerTo i bytes (g.W.Write.contents c.args.writer.now) (g.W.Write.contents c.write_run-in-Report.new.writer) c.write_run-in-Report.result)) (sym c.in-Report.is)
    (where_known (g.R.Read.remaining c.args.reader.now) _ _ c.write_run-in-Report.ensures.answered c.run_file-ran-in-Report.ensures.answered)

pub returns-in-Report-clause-written : goal.returns-in-Report-clause-written
returns-in-Report-clause-written g c =
    subst (λ (i : Invocation). OnOk c.write_run-in-Report.result (IfSome (g.R.Read.remaining c.args.reader.now)
    (IsSunk g.K.EventSink.has_file (g.K.EventSink.writes c.args.sink.now c.write_run-in-Report.new.sink) i))) (sym c.in-Report.is)
    (events_written g.K.EventSink.has_file _ _ (g.R.Read.remaining c.args.reader.now) (λ bytes. parse_jobs _ bytes) c.run_file-ran-in-Report.result c.write_run-in-Report.result
    (g.K.EventSink.writes c.args.sink.now c.write_run-in-Report.new.sink)
    c.run_file-ran-in-Report.ensures.events c.write_run-in-Report.ensures.events c.run_file-ran-in-Report.ensures.answered)
