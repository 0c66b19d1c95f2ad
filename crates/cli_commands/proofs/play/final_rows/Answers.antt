use Rattle.std.proofs.Common.{◌≡◌, ◌≢◌, ◌++◌, ◌∷◌, [], length, arith, rules}
use Rattle.jobs_csv.specs.declared.replay_rows.ReplayRow.TheVariants as row
use Rattle.cli_commands.proofs.ReplayLemmas.{all_ended, word_added, word_skipped}
use Rattle.cli_commands.proofs.play.final_rows.Goals.{then-word-ne0+in_ok-push, else-word-ne0}
use Rattle.cli_commands.proofs.play.final_rows.Goals as goal

pub loop-node-init : goal.loop-node-init
loop-node-init c = record { from = omega arith; same = c.new-rows.ensures.items }

pub loop-node-preserved : goal.loop-node-preserved
loop-node-preserved c = elim c.if-word-ne0.branch [
  | then-word-ne0+in_ok-push w ↦
      let other : c.word-word.result ≢ 0 = search rules in
      let pushed : c.if-word-ne0.rows.items ≡ c.loop-node.rows.items ++ row.Word c.loop-node.node c.word-word.result ∷ [] = search rules in
      record {
        from = omega arith;
        same = word_added c.args.world.now c.loop-node.node c.word-word.result _ _ c.loop-node.invariant.from c.word-word.ensures other c.loop-node.invariant.same pushed;
      }
  | else-word-ne0 w ↦
      let none : c.word-word.result ≡ 0 = search rules in
      let kept : c.if-word-ne0.rows.items ≡ c.loop-node.rows.items = search rules in
      record {
        from = omega arith;
        same = word_skipped c.args.world.now c.loop-node.node c.word-word.result _ _ c.loop-node.invariant.from c.word-word.ensures none c.loop-node.invariant.same kept;
      }
]

pub returns : goal.returns
returns c =
    let last : c.loop-node.node ≡ c.node_limit-node-end.result = search rules in
    let pushed : c.push-2.new.self.items ≡ c.loop-node.rows.items ++ row.End (length c.loop-node.rows.items) ∷ [] = search rules in
    all_ended c.args.world.now c.args.n c.loop-node.node c.node_limit-node-end.result c.loop-node.rows.items _ c.requires.dim c.node_limit-node-end.ensures last c.loop-node.invariant.same pushed
