-- The nodes of the level so far are counted.
use Rattle.std.proofs.Common.{◌-◌, ◌^◌}
use Rattle.alloc_bits.specs.Count.{IsCount}
use Rattle.fit_tree.proofs.MaximalLemmas.{MaximalIn}
use Rattle.fit_tree.proofs.counts.count_level.Given as goal

abbrev pub invariant-loop-node : goal.invariant-loop-node
invariant-loop-node l = IsCount (MaximalIn l.n l.rooms l.dim) (l.node - 2 ^ (l.n - l.dim)) l.count
