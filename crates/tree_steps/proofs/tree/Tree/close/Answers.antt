use Rattle.std.proofs.Common.{ℕ, ◌+◌, ◌<◌, arith, sym, ap, subst, ◌∙◌, get_or}
use Rattle.std.proofs.lemmas.Nat.{pow_pos}
use Rattle.status_word.specs.Word.{IsSet}
use Rattle.tree_steps.specs.declared.view.Size.{Size}
use Rattle.tree_steps.proofs.SeatLemmas.{copied_more, copied_one, copied_all, closes, roll_stays}
use Rattle.tree_steps.proofs.tree.Tree.close.Goals as goal

pub loop-node-preserved : goal.loop-node-preserved
loop-node-preserved c = record {
  len = c.loop-node.invariant.len;
  copied = copied_more c.loop-node.room.items _ c.loop-node.node _ (omega (arith, c.loop-node.room.ok.0)) c.word.ensures c.loop-node.invariant.copied;
}

pub returns-clause-nodes : goal.returns-clause-nodes
returns-clause-nodes c = λ node positive.
    let final = c.close_with-closed.ensures.values.2 in
    let whole = subst (λ (k : Size). (s : ℕ) → s < k.stations → IsSet c.requires.retired.roll s) (sym c.args.self.keyed) c.requires.retired.whole in
    let none = closes _ final.0 _ _ c.requires.retired.roll c.requires.retired.earlier final.1.0 final.1.1 c.requires.retired.loaded whole node positive in
    copied_all c.loop-node.room.items _ c.loop-node.node (omega (arith, c.loop-node.room.ok.0)) c.loop-node.invariant.copied node (ap (λ ws. get_or ws node 0) (sym final.2) ∙ none)

pub returns-clause-roll : goal.returns-clause-roll
returns-clause-roll c = λ roll earlier loaded.
    let final = c.close_with-closed.ensures.values.2 in
    let whole = subst (λ (k : Size). (s : ℕ) → s < k.stations → IsSet c.requires.retired.roll s) (sym c.args.self.keyed) c.requires.retired.whole in
    let stays = roll_stays _ final.0 _ _ c.requires.retired.roll c.requires.retired.earlier final.1.0 final.1.1 c.requires.retired.loaded whole in
    let some = pow_pos (c.args.self.size.dim + 1) in
    copied_one c.loop-node.room.items _ c.loop-node.node 0 roll (omega (arith, c.loop-node.room.ok.0)) (omega (arith, some, c.loop-node.invariant.len, c.args.self.has_room)) c.loop-node.invariant.copied
    (ap (λ ws. get_or ws 0 0) (sym final.2) ∙ stays ∙ ap (λ loads. get_or loads 0 0) (sym c.requires.retired.loaded ∙ loaded))
