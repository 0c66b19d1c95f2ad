use Rattle.std.proofs.Common.{◌≡◌, inl, inr, map, refl, string_bytes}
use Rattle.clap.specs.Words.{kind_of}
use Rattle.cli_commands.specs.Program.{IsFaultIn, events_of, input_of, output_of}
use Rattle.cli_commands.proofs.ProgramLemmas.{carried_out, explained, explained_before, explained_done, explained_late, reads_input, shows_help, terminal_shown, writes_output}
use Rattle.cli_commands.proofs.WholeLemmas.{ended, ended_before, ended_kept, ended_late, ended_written}
use Rattle.cli_commands.proofs.program.run.Goals as goal
use Rattle.atomic_file.specs.Store.{begun_by, held_by}

-- the request was answered, or the reason why it was not is reported
pub returns-clause-ends : goal.returns-clause-ends
returns-clause-ends g c = carried_out (map string_bytes c.args.words.now) c.in-Ok.request
    (held_by (g.S.FileStore.bytes c.args.store.now) (g.R.Read.remaining c.args.console.now.reader))
    (begun_by g.S.FileStore.fresh (g.W.Write.contents c.args.console.now.writer))
    (held_by (g.S.FileStore.bytes c.carry_out-answer.new.store) (g.W.Write.contents c.carry_out-answer.new.console.writer))
    (IsFaultIn (g.R.Device.failures c.args.console.now.reader) (g.R.Device.failures c.carry_out-answer.new.console.reader) (g.W.Device.failures c.args.console.now.writer) (g.W.Device.failures c.carry_out-answer.new.console.writer))
    c.report-ending.result c.in-Ok.ensures.asked
    (ended g.S.FileStore.fresh (g.S.FileStore.bytes c.args.store.now) (g.S.FileStore.bytes c.carry_out-answer.new.store)
    (held_by (g.S.FileStore.bytes c.args.store.now) (g.R.Read.remaining c.args.console.now.reader) (input_of c.in-Ok.request))
    (g.W.Write.contents c.args.console.now.writer) (g.W.Write.contents c.carry_out-answer.new.console.writer)
    (g.R.Device.failures c.args.console.now.reader) (g.R.Device.failures c.carry_out-answer.new.console.reader)
    (g.W.Device.failures c.args.console.now.writer) (g.W.Device.failures c.carry_out-answer.new.console.writer)
    (input_of c.in-Ok.request) (output_of c.in-Ok.request) (events_of c.in-Ok.request) c.in-Ok.request.invocation
    c.carry_out-answer.result c.report-ending.result c.report-ending.ensures.ends c.carry_out-answer.ensures.outcome)

pub returns-clause-files : goal.returns-clause-files
returns-clause-files g c = record {
  events = ended_written (map string_bytes c.args.words.now) c.in-Ok.request g.S.FileStore.fresh
      (held_by (g.S.FileStore.bytes c.args.store.now) (g.R.Read.remaining c.args.console.now.reader)) (g.S.FileStore.bytes c.carry_out-answer.new.store) _
      c.carry_out-answer.result c.report-ending.result c.in-Ok.ensures.asked c.report-ending.ensures.ends c.carry_out-answer.ensures.outcome.written;
  others = inr (c.in-Ok.request, c.in-Ok.ensures.asked, c.carry_out-answer.ensures.outcome.others);
  kept = ended_kept _ c.carry_out-answer.result c.report-ending.result c.report-ending.ensures.ends c.carry_out-answer.ensures.outcome.kept;
  late = ended_late _ (map string_bytes c.args.words.now) c.in-Ok.request g.S.FileStore.fresh
      (g.W.Write.contents c.args.console.now.writer) (g.W.Write.contents c.carry_out-answer.new.console.writer) (g.R.Read.remaining c.args.console.now.reader)
      (g.S.FileStore.bytes c.args.store.now) (g.S.FileStore.bytes c.carry_out-answer.new.store) c.carry_out-answer.result c.report-ending.result
      c.in-Ok.ensures.asked c.report-ending.ensures.ends c.carry_out-answer.ensures.late;
  untouched = ended_before (c.carry_out-answer.new.console.writer ≡ c.args.console.now.writer) c.carry_out-answer.result c.report-ending.result
      c.report-ending.ensures.ends c.carry_out-answer.ensures.untouched;
}

pub returns-clause-shown : goal.returns-clause-shown
returns-clause-shown g c = terminal_shown (map string_bytes c.args.words.now) c.in-Ok.request c.report-ending.result
    c.args.console.now.terminal c.carry_out-answer.new.console.terminal c.show_refusal.new.terminal
    c.in-Ok.ensures.asked c.carry_out-answer.ensures.shown c.show_refusal.ensures

pub returns-clause-aside : goal.returns-clause-aside
returns-clause-aside g c = writes_output (map string_bytes c.args.words.now) c.in-Ok.request c.in-Ok.ensures.asked c.carry_out-answer.ensures.aside

pub returns-clause-unread : goal.returns-clause-unread
returns-clause-unread g c = reads_input (map string_bytes c.args.words.now) c.in-Ok.request c.in-Ok.ensures.asked c.carry_out-answer.ensures.unread

-- the words have an error, which is explained
pub returns-in-Err-clause-ends : goal.returns-in-Err-clause-ends
returns-in-Err-clause-ends g c = explained (map string_bytes c.args.words.now) (kind_of c.in-Err.error)
    (held_by (g.S.FileStore.bytes c.args.store.now) (g.R.Read.remaining c.args.console.now.reader))
    (begun_by g.S.FileStore.fresh (g.W.Write.contents c.args.console.now.writer))
    (held_by (g.S.FileStore.bytes c.args.store.now) (g.W.Write.contents c.explain.new.writer))
    (IsFaultIn (g.R.Device.failures c.args.console.now.reader) (g.R.Device.failures c.args.console.now.reader) (g.W.Device.failures c.args.console.now.writer) (g.W.Device.failures c.explain.new.writer))
    c.explain.result c.in-Err.ensures.fails c.explain.ensures.ends

pub returns-in-Err-clause-files : goal.returns-in-Err-clause-files
returns-in-Err-clause-files g c = record {
  events = λ done. inr (explained_done (map string_bytes c.args.words.now) (kind_of c.in-Err.error) c.explain.result c.in-Err.ensures.fails c.explain.ensures.ends done);
  others = inl (λ file. refl);
  kept = inr (inl (λ file. refl));
  late = explained_late _ (kind_of c.in-Err.error) c.explain.result c.explain.ensures.ends;
  untouched = explained_before (c.explain.new.writer ≡ c.args.console.now.writer) (kind_of c.in-Err.error) c.explain.result
      c.explain.ensures.ends c.explain.ensures.rejected c.explain.ensures.untouched;
}

pub returns-in-Err-clause-prompted : goal.returns-in-Err-clause-prompted
returns-in-Err-clause-prompted g c = inl refl

pub returns-in-Err-clause-aside : goal.returns-in-Err-clause-aside
returns-in-Err-clause-aside g c = shows_help (map string_bytes c.args.words.now) (kind_of c.in-Err.error) c.in-Err.ensures.fails c.explain.ensures.aside

pub returns-in-Err-clause-unread : goal.returns-in-Err-clause-unread
returns-in-Err-clause-unread g c = inl refl
