use Rattle.std.proofs.Common.{map, string_bytes}
use Rattle.clap.specs.Words.{kind_of}
use Rattle.jobs_csv.specs.Fault.{attribute}
use Rattle.jobs_csv.specs.declared.fault.FaultKind.TheVariants as what
use Rattle.cli_tools.proofs.EndingLemmas.{messages_explained}
use Rattle.cli_tools.proofs.messages_command.messages.Goals as goal

pub returns-in-Err-clause-ends : goal.returns-in-Err-clause-ends
returns-in-Err-clause-ends g c =
    messages_explained (map string_bytes c.args.words.now) (kind_of c.in-Err.error)
    (g.W.Write.contents c.args.writer.now) (g.W.Write.contents c.explain.new.writer)
    (attribute what.Write (g.W.Device.failures c.args.writer.now) (g.W.Device.failures c.explain.new.writer))
    c.explain.result c.in-Err.ensures.fails c.explain.ensures.ends
