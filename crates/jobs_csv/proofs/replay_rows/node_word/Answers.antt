use Rattle.jobs_csv.proofs.PlainLemmas.{plain_node_word}
use Rattle.jobs_csv.proofs.replay_rows.node_word.Goals as goal

pub returns-else-node-eq0-clause-plain : goal.returns-else-node-eq0-clause-plain
returns-else-node-eq0-clause-plain c = plain_node_word c.args.node c.args.word
