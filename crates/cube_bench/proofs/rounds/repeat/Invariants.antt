use Rattle.std.proofs.Common.{◌≡◌, ◌^◌, All, length}
use Rattle.collectives.specs.Operations.{IsU64}
use Rattle.cube_bench.proofs.rounds.repeat.Given as goal

-- Both slices keep their places, and the items their values.
pub record Kept (l : goal.Live-loop) : Type 0 where
  pub places : length l.items ≡ 2 ^ l.dim
  pub scratch : length l.scratch ≡ 2 ^ l.dim
  pub values : All IsU64 l.items

abbrev pub invariant-loop : goal.invariant-loop
invariant-loop l = Kept l
