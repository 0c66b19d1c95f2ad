use Rattle.std.proofs.Common.{◌≡◌, ◌≤◌, ◌<◌, vec_len, vec_capacity}
use Rattle.std.specs.List.{All}
use Rattle.library_bench.proofs.jobs.consumers_of.Given as goal

abbrev pub invariant-loop-number : goal.invariant-loop-number
invariant-loop-number l = record {
  members : l.members.id ≡ l.lanes;
  dealt : l.members.dealt_workers ≡ l.number;
  lanes : l.members.dealt_lanes ≡ l.initial.members.dealt_lanes;
  many : vec_len l.all ≡ l.number;
  room : l.number-end ≤ vec_capacity l.all;
  workers : All (λ it. (it.worker.id ≡ l.lanes) × (it.from < l.run.sizes.lanes)) l.all.items;
}
