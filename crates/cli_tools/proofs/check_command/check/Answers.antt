use Rattle.std.proofs.Common.{map, string_bytes}
use Rattle.clap.specs.Words.{kind_of}
use Rattle.atomic_file.specs.Store.{held_by}
use Rattle.cli_tools.proofs.EndingLemmas.{check_explained}
use Rattle.cli_tools.proofs.check_command.check.Goals as goal

pub returns-in-Err-clause-ends : goal.returns-in-Err-clause-ends
returns-in-Err-clause-ends g c =
    check_explained (map string_bytes c.args.words.now) (kind_of c.in-Err.error)
    (held_by (g.S.FileStore.bytes c.args.store.now) (g.R.Read.remaining c.args.console.now.reader))
    (g.W.Write.contents c.args.console.now.writer) (g.W.Write.contents c.explain.new.writer)
    (g.W.Device.failures c.args.console.now.writer) (g.W.Device.failures c.explain.new.writer)
    c.explain.result c.in-Err.ensures.fails c.explain.ensures.ends
