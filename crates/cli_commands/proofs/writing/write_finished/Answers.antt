use Rattle.std.proofs.Common.{◌≡◌, rules}
use Rattle.std.proofs.lemmas.Result.{on_ok_weaker}
use Rattle.cli_commands.proofs.RunLemmas.{write_failed}
use Rattle.cli_commands.proofs.writing.write_finished.Goals as goal

pub returns-clause-written : goal.returns-clause-written
returns-clause-written g c jobs answers =
    let same : c.deref.result.now ≡ c.in-Ok.rows.items = search rules in
    on_ok_weaker c.write-answer.result (λ out. (c.in-Ok.rows.items, c.in-Ok.ensures jobs answers, rw (← same) out)) c.write-answer.ensures.written

pub returns-clause-failed : goal.returns-clause-failed
returns-clause-failed g c = write_failed (g.W.Device.failures c.args.writer.now) (g.W.Device.failures c.write-answer.new.writer)
    c.write-answer.result c.write-answer.ensures.failed
