use Rattle.std.proofs.Common.{[], map, take}
use Rattle.cube_ledger.specs.Ledger.{HasAllSlips}
use Rattle.cube_ledger.proofs.ledger.Ledger.of.Given as goal

-- The slips of the workers so far are there.
abbrev pub invariant-loop-replies : goal.invariant-loop-replies
invariant-loop-replies g l = HasAllSlips (map (λ replies. replies.items) (take l.replies-index l.finished.by_worker.items)) [] l.ledger
