use Rattle.std.proofs.Common.{◌≡◌, All, length}
use Rattle.collectives.specs.Operations.{IsU64}
use Rattle.cube_bench.proofs.rounds.number.Given as goal

-- So far every place has a number below `2^64`, and there are as many places as before.
pub record Kept (l : goal.Live-loop-rank) : Type 0 where
  pub places : length l.items ≡ length l.initial.items
  pub values : All IsU64 l.items

abbrev pub invariant-loop-rank : goal.invariant-loop-rank
invariant-loop-rank l = Kept l
