use Rattle.std.proofs.Common.{◌≡◌, ◌≤◌, vec_len, vec_capacity}
use Rattle.std.specs.List.{All}
use Rattle.library_bench.proofs.jobs.producers_of.Given as goal

abbrev pub invariant-loop : goal.invariant-loop
invariant-loop l = record {
  members : l.members.id ≡ l.lanes;
  dealt : l.members.dealt_lanes ≡ l.counter;
  workers : l.members.dealt_workers ≡ l.initial.members.dealt_workers;
  many : vec_len l.all ≡ l.counter;
  room : l.end ≤ vec_capacity l.all;
  lanes : All (λ it. it.lane.id ≡ l.lanes) l.all.items;
}
