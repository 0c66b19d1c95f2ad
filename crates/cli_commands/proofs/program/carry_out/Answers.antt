use Rattle.std.proofs.Common.{◌≡◌, true, List, ℕ, Option, Some, sym, subst, rules}
use Rattle.cli_commands.specs.Inner.Files.{IsOutcome, IsWholeOutcome}
use Rattle.cli_commands.specs.Program.{events_of, input_of, output_of}
use Rattle.cli_args.specs.CommandLine.{are_apart}
use Rattle.atomic_file.specs.Store.{held_by}
use Rattle.cli_commands.proofs.FileLemmas.{a_name, no_name}
use Rattle.cli_commands.proofs.RecordLemmas.{sunk}
use Rattle.cli_commands.proofs.WholeLemmas.{in_place, late_or_never, never_late, settled_before, untouched_or, without_file}
use Rattle.cli_commands.proofs.program.carry_out.Goals as goal

-- the request names no file for its events
pub returns-in_default-clause-outcome : goal.returns-in_default-clause-outcome
returns-in_default-clause-outcome g c = without_file g.S.FileStore.fresh (g.S.FileStore.bytes c.args.store.now) (g.S.FileStore.bytes c.answer_request.new.store)
    (held_by (g.S.FileStore.bytes c.args.store.now) (g.R.Read.remaining c.args.console.now.reader) (input_of c.args.request.now))
    (g.W.Write.contents c.args.console.now.writer) (g.W.Write.contents c.answer_request.new.console.writer)
    (g.R.Device.failures c.args.console.now.reader) (g.R.Device.failures c.answer_request.new.console.reader)
    (g.W.Device.failures c.args.console.now.writer) (g.W.Device.failures c.answer_request.new.console.writer)
    (input_of c.args.request.now) (output_of c.args.request.now) (events_of c.args.request.now) c.args.request.now.invocation c.answer_request.result
    (no_name c.args.request.now.files.events (search rules)) c.answer_request.ensures.outcome

pub returns-in_default-clause-late : goal.returns-in_default-clause-late
returns-in_default-clause-late g c = never_late _ (input_of c.args.request.now) (output_of c.args.request.now) (events_of c.args.request.now)
    c.answer_request.result (no_name c.args.request.now.files.events (search rules)) c.answer_request.ensures.outcome.side

pub returns-in_default-clause-untouched : goal.returns-in_default-clause-untouched
returns-in_default-clause-untouched g c = untouched_or _ c.answer_request.result c.answer_request.ensures.untouched

-- it names one, which is put in place or discarded
pub returns-clause-outcome : goal.returns-clause-outcome
returns-clause-outcome g c =
    let text : List ℕ = c.deref-2.result.now in
    let named : events_of c.args.request.now ≡ Some text = a_name c.args.request.now.files.events c.in-Some.name text c.in-Some.is (search rules) in
    subst (λ (e : Option (List ℕ)). IsWholeOutcome g.S.FileStore.fresh (g.S.FileStore.bytes c.args.store.now) (g.S.FileStore.bytes c.settle_events.new.store)
    (held_by (g.S.FileStore.bytes c.args.store.now) (g.R.Read.remaining c.args.console.now.reader) (input_of c.args.request.now))
    (g.W.Write.contents c.args.console.now.writer) (g.W.Write.contents c.answer_request-done.new.console.writer)
    (g.R.Device.failures c.args.console.now.reader) (g.R.Device.failures c.answer_request-done.new.console.reader)
    (g.W.Device.failures c.args.console.now.writer) (g.W.Device.failures c.answer_request-done.new.console.writer)
    (input_of c.args.request.now) (output_of c.args.request.now) e c.args.request.now.invocation c.settle_events.result) (sym named)
    (in_place g.S.FileStore.fresh (g.S.FileStore.bytes c.args.store.now) (g.S.FileStore.bytes c.begin_file.new.store)
    (g.R.Read.remaining c.args.console.now.reader) (g.W.Write.contents c.args.console.now.writer) (g.W.Write.contents c.answer_request-done.new.console.writer)
    (g.R.Device.failures c.args.console.now.reader) (g.R.Device.failures c.answer_request-done.new.console.reader)
    (g.W.Device.failures c.args.console.now.writer) (g.W.Device.failures c.answer_request-done.new.console.writer)
    (input_of c.args.request.now) (output_of c.args.request.now) text c.args.request.now.invocation c.begin_file.ensures.kept
    (g.S.FileStore.bytes c.answer_request-done.new.store) (g.S.FileStore.bytes c.settle_events.new.store)
    (g.S.TempFile.Write.contents c.in_ok-file.file) (g.S.TempFile.Write.contents c.answer_request-done.new.sink.file)
    (subst (λ (e : Option (List ℕ)). are_apart (output_of c.args.request.now) e ≡ true) named c.requires.apart) c.in_ok-file.ensures.fresh
    c.answer_request-done.result c.settle_events.result
    (subst (λ (e : Option (List ℕ)). IsOutcome g.S.FileStore.fresh (g.S.FileStore.bytes c.begin_file.new.store) (g.S.FileStore.bytes c.answer_request-done.new.store)
    (held_by (g.S.FileStore.bytes c.begin_file.new.store) (g.R.Read.remaining c.args.console.now.reader) (input_of c.args.request.now))
    (g.W.Write.contents c.args.console.now.writer) (g.W.Write.contents c.answer_request-done.new.console.writer)
    (g.R.Device.failures c.args.console.now.reader) (g.R.Device.failures c.answer_request-done.new.console.reader)
    (g.W.Device.failures c.args.console.now.writer) (g.W.Device.failures c.answer_request-done.new.console.writer)
    (input_of c.args.request.now) (output_of c.args.request.now) e c.args.request.now.invocation c.answer_request-done.result) named c.answer_request-done.ensures.outcome)
    (sunk (g.S.TempFile.Write.contents c.in_ok-file.file) (g.S.TempFile.Write.contents c.answer_request-done.new.sink.file) c.args.request.now.invocation
    (held_by (g.S.FileStore.bytes c.begin_file.new.store) (g.R.Read.remaining c.args.console.now.reader) (input_of c.args.request.now))
    c.answer_request-done.result c.answer_request-done.ensures.written)
    c.settle_events.ensures)

pub returns-clause-late : goal.returns-clause-late
returns-clause-late g c =
    let text : List ℕ = c.deref-2.result.now in
    let named : events_of c.args.request.now ≡ Some text = a_name c.args.request.now.files.events c.in-Some.name text c.in-Some.is (search rules) in
    late_or_never g.S.FileStore.fresh (g.S.FileStore.bytes c.args.store.now) (g.S.FileStore.bytes c.begin_file.new.store)
    (g.R.Read.remaining c.args.console.now.reader) (g.W.Write.contents c.args.console.now.writer) (g.W.Write.contents c.answer_request-done.new.console.writer)
    (g.R.Device.failures c.args.console.now.reader) (g.R.Device.failures c.answer_request-done.new.console.reader)
    (g.W.Device.failures c.args.console.now.writer) (g.W.Device.failures c.answer_request-done.new.console.writer)
    (input_of c.args.request.now) (output_of c.args.request.now) text c.args.request.now.invocation c.begin_file.ensures.kept
    (g.S.FileStore.bytes c.answer_request-done.new.store) (g.S.FileStore.bytes c.settle_events.new.store)
    (g.S.TempFile.Write.contents c.in_ok-file.file) (g.S.TempFile.Write.contents c.answer_request-done.new.sink.file)
    (subst (λ (e : Option (List ℕ)). are_apart (output_of c.args.request.now) e ≡ true) named c.requires.apart) c.in_ok-file.ensures.fresh
    _ c.answer_request-done.result c.settle_events.result
    (subst (λ (e : Option (List ℕ)). IsOutcome g.S.FileStore.fresh (g.S.FileStore.bytes c.begin_file.new.store) (g.S.FileStore.bytes c.answer_request-done.new.store)
    (held_by (g.S.FileStore.bytes c.begin_file.new.store) (g.R.Read.remaining c.args.console.now.reader) (input_of c.args.request.now))
    (g.W.Write.contents c.args.console.now.writer) (g.W.Write.contents c.answer_request-done.new.console.writer)
    (g.R.Device.failures c.args.console.now.reader) (g.R.Device.failures c.answer_request-done.new.console.reader)
    (g.W.Device.failures c.args.console.now.writer) (g.W.Device.failures c.answer_request-done.new.console.writer)
    (input_of c.args.request.now) (output_of c.args.request.now) e c.args.request.now.invocation c.answer_request-done.result) named c.answer_request-done.ensures.outcome)
    c.answer_request-done.ensures.untouched c.settle_events.ensures

pub returns-clause-untouched : goal.returns-clause-untouched
returns-clause-untouched g c =
    let text : List ℕ = c.deref-2.result.now in
    let named : events_of c.args.request.now ≡ Some text = a_name c.args.request.now.files.events c.in-Some.name text c.in-Some.is (search rules) in
    settled_before g.S.FileStore.fresh (g.S.FileStore.bytes c.args.store.now) (g.S.FileStore.bytes c.begin_file.new.store)
    (g.R.Read.remaining c.args.console.now.reader) (g.W.Write.contents c.args.console.now.writer) (g.W.Write.contents c.answer_request-done.new.console.writer)
    (g.R.Device.failures c.args.console.now.reader) (g.R.Device.failures c.answer_request-done.new.console.reader)
    (g.W.Device.failures c.args.console.now.writer) (g.W.Device.failures c.answer_request-done.new.console.writer)
    (input_of c.args.request.now) (output_of c.args.request.now) text c.args.request.now.invocation c.begin_file.ensures.kept
    (g.S.FileStore.bytes c.answer_request-done.new.store) (g.S.FileStore.bytes c.settle_events.new.store)
    (g.S.TempFile.Write.contents c.in_ok-file.file) (g.S.TempFile.Write.contents c.answer_request-done.new.sink.file)
    (subst (λ (e : Option (List ℕ)). are_apart (output_of c.args.request.now) e ≡ true) named c.requires.apart) c.in_ok-file.ensures.fresh
    _ c.answer_request-done.result c.settle_events.result c.answer_request-done.ensures.untouched c.settle_events.ensures
