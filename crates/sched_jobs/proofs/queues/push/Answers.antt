-- The item is written, and then its leaf joins the tree.
use Rattle.std.proofs.Common.{◌∷◌, inl, inr, refl, ◌∙◌, ap}
use Rattle.sched_jobs.proofs.QueueLemmas.{HasPut, can_push, is_tree, push_first, pushed_others, pushed_queue, put_others, queue_kept, still_queue}
use Rattle.sched_jobs.proofs.queues.push.Goals as goal

pub returns-then-queue-clause-queue : goal.returns-then-queue-clause-queue
returns-then-queue-clause-queue c = λ slots can.
    let put : HasPut c.args.nodes.now c.put_item.new.nodes c.args.slot c.args.key = record { own = c.put_item.ensures.key; rest = c.put_item.ensures.others } in
    push_first c.args.nodes.now c.put_item.new.nodes c.args.queue.now slots c.args.slot c.args.key put c.requires.limit c.requires.slot can _ c.if-queue.true refl refl

pub returns-then-queue-clause-keys : goal.returns-then-queue-clause-keys
returns-then-queue-clause-keys c = λ u other.
    ap (λ n. n.key) (c.put_item.ensures.others.same_nodes u (λ hit. elim hit [ inl same ↦ other same | inr none ↦ none ]))

pub returns-then-queue-clause-estimates : goal.returns-then-queue-clause-estimates
returns-then-queue-clause-estimates c = λ u other.
    ap (λ n. n.estimate) (c.put_item.ensures.others.same_nodes u (λ hit. elim hit [ inl same ↦ other same | inr none ↦ none ]))

pub returns-then-queue-clause-others : goal.returns-then-queue-clause-others
returns-then-queue-clause-others c = λ slots can other theirs is clear.
    let put : HasPut c.args.nodes.now c.put_item.new.nodes c.args.slot c.args.key = record { own = c.put_item.ensures.key; rest = c.put_item.ensures.others } in
    queue_kept c.args.nodes.now c.put_item.new.nodes (c.args.slot ∷ slots) other theirs (put_others c.args.nodes.now c.put_item.new.nodes c.args.queue.now slots c.args.slot c.args.key put c.requires.limit c.requires.slot can) clear is

pub push_in-queue-requires : goal.push_in-queue-requires
push_in-queue-requires c =
    let put : HasPut c.args.nodes.now c.put_item.new.nodes c.args.slot c.args.key = record { own = c.put_item.ensures.key; rest = c.put_item.ensures.others } in
    ((is_tree c.put_item.new.nodes c.args.queue.now c.requires.queue.0 (still_queue c.args.nodes.now c.put_item.new.nodes c.args.queue.now c.requires.queue.0 c.args.slot c.args.key put c.requires.limit c.requires.slot c.requires.queue.1) c.if-queue.false).tree, can_push c.args.nodes.now c.put_item.new.nodes c.args.queue.now c.requires.queue.0 c.args.slot c.args.key put c.requires.limit c.requires.slot c.requires.queue.1 c.if-queue.false)

pub returns-clause-queue : goal.returns-clause-queue
returns-clause-queue c = λ slots can.
    let put : HasPut c.args.nodes.now c.put_item.new.nodes c.args.slot c.args.key = record { own = c.put_item.ensures.key; rest = c.put_item.ensures.others } in
    let done = c.push_in-queue.ensures (is_tree c.put_item.new.nodes c.args.queue.now slots (still_queue c.args.nodes.now c.put_item.new.nodes c.args.queue.now slots c.args.slot c.args.key put c.requires.limit c.requires.slot can) c.if-queue.false).tree (can_push c.args.nodes.now c.put_item.new.nodes c.args.queue.now slots c.args.slot c.args.key put c.requires.limit c.requires.slot can c.if-queue.false) in
    pushed_queue c.args.nodes.now c.put_item.new.nodes c.args.queue.now slots c.args.slot c.args.key put c.requires.limit c.requires.slot can c.push_in-queue.new.nodes _ c.push_in-queue.result c.if-queue.false done refl refl

pub returns-clause-key : goal.returns-clause-key
returns-clause-key c =
    let put : HasPut c.args.nodes.now c.put_item.new.nodes c.args.slot c.args.key = record { own = c.put_item.ensures.key; rest = c.put_item.ensures.others } in
    let done = c.push_in-queue.ensures (is_tree c.put_item.new.nodes c.args.queue.now c.requires.queue.0 (still_queue c.args.nodes.now c.put_item.new.nodes c.args.queue.now c.requires.queue.0 c.args.slot c.args.key put c.requires.limit c.requires.slot c.requires.queue.1) c.if-queue.false).tree (can_push c.args.nodes.now c.put_item.new.nodes c.args.queue.now c.requires.queue.0 c.args.slot c.args.key put c.requires.limit c.requires.slot c.requires.queue.1 c.if-queue.false) in
    done.rest.same_keys c.args.slot ∙ c.put_item.ensures.key

pub returns-clause-estimate : goal.returns-clause-estimate
returns-clause-estimate c =
    let put : HasPut c.args.nodes.now c.put_item.new.nodes c.args.slot c.args.key = record { own = c.put_item.ensures.key; rest = c.put_item.ensures.others } in
    let done = c.push_in-queue.ensures (is_tree c.put_item.new.nodes c.args.queue.now c.requires.queue.0 (still_queue c.args.nodes.now c.put_item.new.nodes c.args.queue.now c.requires.queue.0 c.args.slot c.args.key put c.requires.limit c.requires.slot c.requires.queue.1) c.if-queue.false).tree (can_push c.args.nodes.now c.put_item.new.nodes c.args.queue.now c.requires.queue.0 c.args.slot c.args.key put c.requires.limit c.requires.slot c.requires.queue.1 c.if-queue.false) in
    done.rest.same_estimates c.args.slot ∙ c.put_item.ensures.estimate

pub returns-clause-keys : goal.returns-clause-keys
returns-clause-keys c = λ u other.
    let put : HasPut c.args.nodes.now c.put_item.new.nodes c.args.slot c.args.key = record { own = c.put_item.ensures.key; rest = c.put_item.ensures.others } in
    let done = c.push_in-queue.ensures (is_tree c.put_item.new.nodes c.args.queue.now c.requires.queue.0 (still_queue c.args.nodes.now c.put_item.new.nodes c.args.queue.now c.requires.queue.0 c.args.slot c.args.key put c.requires.limit c.requires.slot c.requires.queue.1) c.if-queue.false).tree (can_push c.args.nodes.now c.put_item.new.nodes c.args.queue.now c.requires.queue.0 c.args.slot c.args.key put c.requires.limit c.requires.slot c.requires.queue.1 c.if-queue.false) in
    done.rest.same_keys u ∙ ap (λ n. n.key) (c.put_item.ensures.others.same_nodes u (λ hit. elim hit [ inl same ↦ other same | inr none ↦ none ]))

pub returns-clause-estimates : goal.returns-clause-estimates
returns-clause-estimates c = λ u other.
    let put : HasPut c.args.nodes.now c.put_item.new.nodes c.args.slot c.args.key = record { own = c.put_item.ensures.key; rest = c.put_item.ensures.others } in
    let done = c.push_in-queue.ensures (is_tree c.put_item.new.nodes c.args.queue.now c.requires.queue.0 (still_queue c.args.nodes.now c.put_item.new.nodes c.args.queue.now c.requires.queue.0 c.args.slot c.args.key put c.requires.limit c.requires.slot c.requires.queue.1) c.if-queue.false).tree (can_push c.args.nodes.now c.put_item.new.nodes c.args.queue.now c.requires.queue.0 c.args.slot c.args.key put c.requires.limit c.requires.slot c.requires.queue.1 c.if-queue.false) in
    done.rest.same_estimates u ∙ ap (λ n. n.estimate) (c.put_item.ensures.others.same_nodes u (λ hit. elim hit [ inl same ↦ other same | inr none ↦ none ]))

pub returns-clause-others : goal.returns-clause-others
returns-clause-others c = λ slots can other theirs is clear.
    let put : HasPut c.args.nodes.now c.put_item.new.nodes c.args.slot c.args.key = record { own = c.put_item.ensures.key; rest = c.put_item.ensures.others } in
    let done = c.push_in-queue.ensures (is_tree c.put_item.new.nodes c.args.queue.now slots (still_queue c.args.nodes.now c.put_item.new.nodes c.args.queue.now slots c.args.slot c.args.key put c.requires.limit c.requires.slot can) c.if-queue.false).tree (can_push c.args.nodes.now c.put_item.new.nodes c.args.queue.now slots c.args.slot c.args.key put c.requires.limit c.requires.slot can c.if-queue.false) in
    queue_kept c.args.nodes.now c.push_in-queue.new.nodes (c.args.slot ∷ slots) other theirs (pushed_others c.args.nodes.now c.put_item.new.nodes c.args.queue.now slots c.args.slot c.args.key put c.requires.limit c.requires.slot can c.push_in-queue.new.nodes c.push_in-queue.result c.if-queue.false done) clear is
