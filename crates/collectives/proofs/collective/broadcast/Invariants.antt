use Rattle.std.proofs.Common.{◌^◌}
use Rattle.collectives.proofs.XorLemmas.{HoldsRoot}
use Rattle.collectives.proofs.collective.broadcast.Given as goal

-- the first 2 ^ round ranks, seen from the root, hold its item
abbrev pub invariant-loop-round : goal.invariant-loop-round
invariant-loop-round g l = HoldsRoot l.root (2 ^ l.round) l.fn.items l.items
