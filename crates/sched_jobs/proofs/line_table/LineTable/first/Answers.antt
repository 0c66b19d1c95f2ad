-- The vectors have the lists.
use Rattle.std.proofs.Common.{ℕ, List, sym, subst}
use Rattle.sched_jobs.specs.declared.nodes.QueueNode.{QueueNode as NodeData}
use Rattle.sched_jobs.specs.declared.queues.Queue.{Queue as QueueData}
use Rattle.sched_jobs.specs.Lines.{ShowsLines}
use Rattle.sched_jobs.specs.Inner.Search.{IsChosen}
use Rattle.sched_jobs.proofs.line_table.LineTable.first.Goals as goal

pub returns : goal.returns
returns c = λ line shown.
    subst (λ (xs : List NodeData). IsChosen xs line c.args.wanted.now c.first_of_all.result) c.deref.ensures.value (c.first_of_all.ensures line
    (subst (λ (xs : List NodeData). ShowsLines xs c.deref-2.result.now c.deref-3.result.now line) (sym c.deref.ensures.value)
    (subst (λ (xs : List QueueData). ShowsLines c.args.self.now.nodes.items xs c.deref-3.result.now line) (sym c.deref-2.ensures.value)
    (subst (λ (xs : List ℕ). ShowsLines c.args.self.now.nodes.items c.args.self.now.queues.items xs line) (sym c.deref-3.ensures.value) shown))))
