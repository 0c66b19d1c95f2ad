use Rattle.std.proofs.Common.{false, ap, length, ◌∙◌, refl}
use Rattle.sched_law.specs.State.{set}
use Rattle.sched_blocks.specs.Ends.{AreEnds, HasNoEndBeside}
use Rattle.sched_blocks.specs.Busy.{AreBusy, HasNoneBeside}
use Rattle.sched_blocks.proofs.NoteLemmas.{noted}
use Rattle.sched_blocks.proofs.nodes.note_idle.Goals as goal

pub returns-clause-ends : goal.returns-clause-ends
returns-clause-ends c = λ own v of_r right alone.
    noted c.args.n v c.node_of-node.result (length c.args.ends.now.items) c.args.region c.args.ends.now.items c.deref_mut.result.now c.set_end.new.ends
    (λ xs. AreEnds c.args.n own xs) (λ x. HasNoEndBeside c.args.n own x) (λ x xs. AreEnds c.args.n (set own x 0) xs)
    c.deref_mut.ensures.value refl (c.set_end.ensures.len ∙ ap length c.deref_mut.ensures.value) c.node_of-node.ensures.named (c.set_end.ensures.ends own) of_r right alone

pub returns-clause-busy : goal.returns-clause-busy
returns-clause-busy c = λ used v of_r right alone.
    noted c.args.n v c.node_of-node.result (length c.args.busy.now.items) c.args.region c.args.busy.now.items c.deref_mut-2.result.now c.drop_busy.new.busy
    (λ xs. AreBusy c.args.n used xs) (λ x. HasNoneBeside c.args.n used x) (λ x xs. AreBusy c.args.n (set used x false) xs)
    c.deref_mut-2.ensures.value refl (c.drop_busy.ensures.len ∙ ap length c.deref_mut-2.ensures.value) c.node_of-node.ensures.named (c.drop_busy.ensures.busy used) of_r right alone
