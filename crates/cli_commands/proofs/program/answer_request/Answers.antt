use Rattle.std.proofs.Common.{rules}
use Rattle.cli_commands.specs.Events.{IsSunk}
use Rattle.cli_commands.specs.Program.{events_of, input_of, output_of}
use Rattle.cli_commands.proofs.FileLemmas.{a_name, by_writer, from_file, from_reader, no_name, settled, to_file}
use Rattle.cli_commands.proofs.RecordLemmas.{beside, ok_answered, ok_settled, reads_file, reads_reader}
use Rattle.cli_commands.proofs.program.answer_request.Goals as goal

-- from the reader to the writer
pub returns-in-None-None-clause-outcome : goal.returns-in-None-None-clause-outcome
returns-in-None-None-clause-outcome g c = from_reader g.S.FileStore.fresh (g.S.FileStore.bytes c.args.store.now) (g.S.FileStore.bytes c.args.store.now)
    (g.R.Read.remaining c.args.console.now.reader) (g.W.Write.contents c.args.console.now.writer) (g.W.Write.contents c.answer.new.writer)
    (g.R.Device.failures c.args.console.now.reader) (g.R.Device.failures c.answer.new.reader)
    (g.W.Device.failures c.args.console.now.writer) (g.W.Device.failures c.answer.new.writer)
    (events_of c.args.request.now) c.args.request.now.invocation c.answered.result (input_of c.args.request.now) (output_of c.args.request.now)
    (no_name c.args.request.now.files.input c.in-None-None.is-0)
    (by_writer g.S.FileStore.fresh (g.S.FileStore.bytes c.args.store.now) (g.R.Read.remaining c.args.console.now.reader)
    (g.W.Write.contents c.args.console.now.writer) (g.W.Write.contents c.answer.new.writer)
    (g.R.Device.failures c.args.console.now.reader) (g.R.Device.failures c.answer.new.reader)
    (g.W.Device.failures c.args.console.now.writer) (g.W.Device.failures c.answer.new.writer)
    (output_of c.args.request.now) (events_of c.args.request.now) (no_name c.args.request.now.files.output c.in-None-None.is-1) c.args.request.now.invocation
    g.K.EventSink.has_file c.answer.result c.answered.result c.requires.sink c.answered.ensures.done c.answered.ensures.failed c.answer.ensures.answered
    (beside _ _ (g.R.Device.failures c.args.console.now.reader) (g.R.Device.failures c.answer.new.reader) _ _
    (g.K.EventSink.failures c.args.sink.now) (g.K.EventSink.failures c.answer.new.sink)
    c.answer.result c.answer.ensures.failed))

-- from the reader to a file
pub returns-in_ok-temp_file-in-None-Some-clause-outcome : goal.returns-in_ok-temp_file-in-None-Some-clause-outcome
returns-in_ok-temp_file-in-None-Some-clause-outcome g c = from_reader g.S.FileStore.fresh (g.S.FileStore.bytes c.args.store.now) (g.S.FileStore.bytes c.settle_output.new.store)
    (g.R.Read.remaining c.args.console.now.reader) (g.W.Write.contents c.args.console.now.writer) (g.W.Write.contents c.args.console.now.writer)
    (g.R.Device.failures c.args.console.now.reader) (g.R.Device.failures c.answer-done.new.reader)
    (g.W.Device.failures c.args.console.now.writer) (g.W.Device.failures c.args.console.now.writer)
    (events_of c.args.request.now) c.args.request.now.invocation c.settle_output.result (input_of c.args.request.now) (output_of c.args.request.now)
    (no_name c.args.request.now.files.input c.in-None-Some.is-0)
    (to_file g.S.FileStore.fresh (g.S.FileStore.bytes c.args.store.now) (g.S.FileStore.bytes c.settle_output.new.store)
    (g.R.Read.remaining c.args.console.now.reader) (g.W.Write.contents c.args.console.now.writer) (g.W.Write.contents c.args.console.now.writer)
    (g.R.Device.failures c.args.console.now.reader) (g.R.Device.failures c.answer-done.new.reader)
    (g.W.Device.failures c.args.console.now.writer) (g.W.Device.failures c.args.console.now.writer)
    (events_of c.args.request.now) c.args.request.now.invocation c.settle_output.result (output_of c.args.request.now) c.deref-in-None-Some.result.now
    (a_name c.args.request.now.files.output c.in-None-Some.output c.deref-in-None-Some.result.now c.in-None-Some.is-1 (search rules))
    (settled g.S.FileStore.fresh (g.S.FileStore.bytes c.args.store.now) (g.S.FileStore.bytes c.settle_output.new.store)
    (g.R.Read.remaining c.args.console.now.reader) (g.W.Write.contents c.args.console.now.writer) (g.W.Write.contents c.args.console.now.writer)
    (g.R.Device.failures c.args.console.now.reader) (g.R.Device.failures c.answer-done.new.reader)
    (g.W.Device.failures c.args.console.now.writer) (g.W.Device.failures c.args.console.now.writer)
    c.deref-in-None-Some.result.now (events_of c.args.request.now) c.args.request.now.invocation (g.S.FileStore.bytes c.begin_file.new.store) c.begin_file.ensures.kept
    g.K.EventSink.has_file (g.S.TempFile.Write.contents c.in_ok-temp_file-in-None-Some.temp_file) (g.S.TempFile.Write.contents c.answer-done.new.writer)
    (g.S.TempFile.Device.failures c.in_ok-temp_file-in-None-Some.temp_file) (g.S.TempFile.Device.failures c.answer-done.new.writer)
    c.answer-done.result c.settle_output.result c.in_ok-temp_file-in-None-Some.ensures.fresh
    c.answer-done.ensures.answered
    (beside _ _ (g.R.Device.failures c.args.console.now.reader) (g.R.Device.failures c.answer-done.new.reader) _ _
    (g.K.EventSink.failures c.args.sink.now) (g.K.EventSink.failures c.answer-done.new.sink)
    c.answer-done.result c.answer-done.ensures.failed) c.settle_output.ensures))

-- from a file to the writer
pub returns-in_ok-file-in-Some-None-clause-outcome : goal.returns-in_ok-file-in-Some-None-clause-outcome
returns-in_ok-file-in-Some-None-clause-outcome g c = from_file g.S.FileStore.fresh (g.S.FileStore.bytes c.args.store.now) (g.S.FileStore.bytes c.args.store.now)
    (g.R.Read.remaining c.args.console.now.reader) (g.W.Write.contents c.args.console.now.writer) (g.W.Write.contents c.answer-in-Some-None.new.writer)
    (g.R.Device.failures c.args.console.now.reader) (g.R.Device.failures c.args.console.now.reader)
    (g.W.Device.failures c.args.console.now.writer) (g.W.Device.failures c.answer-in-Some-None.new.writer)
    (events_of c.args.request.now) c.args.request.now.invocation c.answered-in-Some-None.result (input_of c.args.request.now) (output_of c.args.request.now)
    c.deref-in-Some-None.result.now (g.S.Reader.Read.remaining c.in_ok-file-in-Some-None.file)
    (g.S.Reader.Device.failures c.in_ok-file-in-Some-None.file) (g.S.Reader.Device.failures c.answer-in-Some-None.new.reader)
    (a_name c.args.request.now.files.input c.in-Some-None.input c.deref-in-Some-None.result.now c.in-Some-None.is-0 (search rules))
    c.in_ok-file-in-Some-None.ensures.opened
    (by_writer g.S.FileStore.fresh (g.S.FileStore.bytes c.args.store.now) (g.S.Reader.Read.remaining c.in_ok-file-in-Some-None.file)
    (g.W.Write.contents c.args.console.now.writer) (g.W.Write.contents c.answer-in-Some-None.new.writer)
    (g.S.Reader.Device.failures c.in_ok-file-in-Some-None.file) (g.S.Reader.Device.failures c.answer-in-Some-None.new.reader)
    (g.W.Device.failures c.args.console.now.writer) (g.W.Device.failures c.answer-in-Some-None.new.writer)
    (output_of c.args.request.now) (events_of c.args.request.now) (no_name c.args.request.now.files.output c.in-Some-None.is-1) c.args.request.now.invocation
    g.K.EventSink.has_file c.answer-in-Some-None.result c.answered-in-Some-None.result c.requires.sink c.answered-in-Some-None.ensures.done c.answered-in-Some-None.ensures.failed
    c.answer-in-Some-None.ensures.answered
    (beside _ _ (g.S.Reader.Device.failures c.in_ok-file-in-Some-None.file) (g.S.Reader.Device.failures c.answer-in-Some-None.new.reader) _ _
    (g.K.EventSink.failures c.args.sink.now) (g.K.EventSink.failures c.answer-in-Some-None.new.sink)
    c.answer-in-Some-None.result c.answer-in-Some-None.ensures.failed))

-- from a file to a file
pub returns-in_ok-temp_file-in-Some-Some-clause-outcome : goal.returns-in_ok-temp_file-in-Some-Some-clause-outcome
returns-in_ok-temp_file-in-Some-Some-clause-outcome g c = from_file g.S.FileStore.fresh (g.S.FileStore.bytes c.args.store.now) (g.S.FileStore.bytes c.settle_output-in-Some-Some.new.store)
    (g.R.Read.remaining c.args.console.now.reader) (g.W.Write.contents c.args.console.now.writer) (g.W.Write.contents c.args.console.now.writer)
    (g.R.Device.failures c.args.console.now.reader) (g.R.Device.failures c.args.console.now.reader)
    (g.W.Device.failures c.args.console.now.writer) (g.W.Device.failures c.args.console.now.writer)
    (events_of c.args.request.now) c.args.request.now.invocation c.settle_output-in-Some-Some.result (input_of c.args.request.now) (output_of c.args.request.now)
    c.deref-in-Some-Some.result.now (g.S.Reader.Read.remaining c.in_ok-file-in-Some-Some.file)
    (g.S.Reader.Device.failures c.in_ok-file-in-Some-Some.file) (g.S.Reader.Device.failures c.answer-done-in-Some-Some.new.reader)
    (a_name c.args.request.now.files.input c.in-Some-Some.input c.deref-in-Some-Some.result.now c.in-Some-Some.is-0 (search rules))
    c.in_ok-file-in-Some-Some.ensures.opened
    (to_file g.S.FileStore.fresh (g.S.FileStore.bytes c.args.store.now) (g.S.FileStore.bytes c.settle_output-in-Some-Some.new.store)
    (g.S.Reader.Read.remaining c.in_ok-file-in-Some-Some.file) (g.W.Write.contents c.args.console.now.writer) (g.W.Write.contents c.args.console.now.writer)
    (g.S.Reader.Device.failures c.in_ok-file-in-Some-Some.file) (g.S.Reader.Device.failures c.answer-done-in-Some-Some.new.reader)
    (g.W.Device.failures c.args.console.now.writer) (g.W.Device.failures c.args.console.now.writer)
    (events_of c.args.request.now) c.args.request.now.invocation c.settle_output-in-Some-Some.result (output_of c.args.request.now) c.deref-in-Some-Some-3.result.now
    (a_name c.args.request.now.files.output c.in-Some-Some.output c.deref-in-Some-Some-3.result.now c.in-Some-Some.is-1 (search rules))
    (settled g.S.FileStore.fresh (g.S.FileStore.bytes c.args.store.now) (g.S.FileStore.bytes c.settle_output-in-Some-Some.new.store)
    (g.S.Reader.Read.remaining c.in_ok-file-in-Some-Some.file) (g.W.Write.contents c.args.console.now.writer) (g.W.Write.contents c.args.console.now.writer)
    (g.S.Reader.Device.failures c.in_ok-file-in-Some-Some.file) (g.S.Reader.Device.failures c.answer-done-in-Some-Some.new.reader)
    (g.W.Device.failures c.args.console.now.writer) (g.W.Device.failures c.args.console.now.writer)
    c.deref-in-Some-Some-3.result.now (events_of c.args.request.now) c.args.request.now.invocation (g.S.FileStore.bytes c.begin_file-in-Some-Some.new.store) c.begin_file-in-Some-Some.ensures.kept
    g.K.EventSink.has_file (g.S.TempFile.Write.contents c.in_ok-temp_file-in-Some-Some.temp_file) (g.S.TempFile.Write.contents c.answer-done-in-Some-Some.new.writer)
    (g.S.TempFile.Device.failures c.in_ok-temp_file-in-Some-Some.temp_file) (g.S.TempFile.Device.failures c.answer-done-in-Some-Some.new.writer)
    c.answer-done-in-Some-Some.result c.settle_output-in-Some-Some.result c.in_ok-temp_file-in-Some-Some.ensures.fresh
    c.answer-done-in-Some-Some.ensures.answered
    (beside _ _ (g.S.Reader.Device.failures c.in_ok-file-in-Some-Some.file) (g.S.Reader.Device.failures c.answer-done-in-Some-Some.new.reader) _ _
    (g.K.EventSink.failures c.args.sink.now) (g.K.EventSink.failures c.answer-done-in-Some-Some.new.sink)
    c.answer-done-in-Some-Some.result c.answer-done-in-Some-Some.ensures.failed) c.settle_output-in-Some-Some.ensures))

-- the events go to the sink
pub returns-in-None-None-clause-written : goal.returns-in-None-None-clause-written
returns-in-None-None-clause-written g c = ok_answered _ c.answer.result c.answered.result c.answered.ensures.failed
    (reads_reader (IsSunk g.K.EventSink.has_file (g.K.EventSink.writes c.args.sink.now c.answer.new.sink) c.args.request.now.invocation)
    (g.S.FileStore.bytes c.args.store.now) (g.R.Read.remaining c.args.console.now.reader) (input_of c.args.request.now) c.answer.result
    (no_name c.args.request.now.files.input c.in-None-None.is-0) c.answer.ensures.written)

pub returns-in_ok-temp_file-in-None-Some-clause-written : goal.returns-in_ok-temp_file-in-None-Some-clause-written
returns-in_ok-temp_file-in-None-Some-clause-written g c = ok_settled _ (g.S.TempFile.Write.contents c.answer-done.new.writer)
    (g.S.FileStore.bytes c.begin_file.new.store) (g.S.FileStore.bytes c.settle_output.new.store) c.deref-in-None-Some.result.now
    c.answer-done.result c.settle_output.result c.settle_output.ensures
    (reads_reader (IsSunk g.K.EventSink.has_file (g.K.EventSink.writes c.args.sink.now c.answer-done.new.sink) c.args.request.now.invocation)
    (g.S.FileStore.bytes c.args.store.now) (g.R.Read.remaining c.args.console.now.reader) (input_of c.args.request.now) c.answer-done.result
    (no_name c.args.request.now.files.input c.in-None-Some.is-0) c.answer-done.ensures.written)

pub returns-in_ok-file-in-Some-None-clause-written : goal.returns-in_ok-file-in-Some-None-clause-written
returns-in_ok-file-in-Some-None-clause-written g c = ok_answered _ c.answer-in-Some-None.result c.answered-in-Some-None.result c.answered-in-Some-None.ensures.failed
    (reads_file (IsSunk g.K.EventSink.has_file (g.K.EventSink.writes c.args.sink.now c.answer-in-Some-None.new.sink) c.args.request.now.invocation)
    (g.S.FileStore.bytes c.args.store.now) (g.R.Read.remaining c.args.console.now.reader) (g.S.Reader.Read.remaining c.in_ok-file-in-Some-None.file)
    (input_of c.args.request.now) c.deref-in-Some-None.result.now c.answer-in-Some-None.result
    (a_name c.args.request.now.files.input c.in-Some-None.input c.deref-in-Some-None.result.now c.in-Some-None.is-0 (search rules))
    c.in_ok-file-in-Some-None.ensures.opened c.answer-in-Some-None.ensures.written)

pub returns-in_ok-temp_file-in-Some-Some-clause-written : goal.returns-in_ok-temp_file-in-Some-Some-clause-written
returns-in_ok-temp_file-in-Some-Some-clause-written g c = ok_settled _ (g.S.TempFile.Write.contents c.answer-done-in-Some-Some.new.writer)
    (g.S.FileStore.bytes c.begin_file-in-Some-Some.new.store) (g.S.FileStore.bytes c.settle_output-in-Some-Some.new.store) c.deref-in-Some-Some-3.result.now
    c.answer-done-in-Some-Some.result c.settle_output-in-Some-Some.result c.settle_output-in-Some-Some.ensures
    (reads_file (IsSunk g.K.EventSink.has_file (g.K.EventSink.writes c.args.sink.now c.answer-done-in-Some-Some.new.sink) c.args.request.now.invocation)
    (g.S.FileStore.bytes c.args.store.now) (g.R.Read.remaining c.args.console.now.reader) (g.S.Reader.Read.remaining c.in_ok-file-in-Some-Some.file)
    (input_of c.args.request.now) c.deref-in-Some-Some.result.now c.answer-done-in-Some-Some.result
    (a_name c.args.request.now.files.input c.in-Some-Some.input c.deref-in-Some-Some.result.now c.in-Some-Some.is-0 (search rules))
    c.in_ok-file-in-Some-Some.ensures.opened c.answer-done-in-Some-Some.ensures.written)
