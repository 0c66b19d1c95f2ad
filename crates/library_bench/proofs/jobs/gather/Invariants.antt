use Rattle.std.proofs.Common.{◌≡◌, ◌+◌, length, vec_len}
use Rattle.std.specs.List.{All}
use Rattle.library_bench.proofs.jobs.gather.Given as goal

abbrev pub invariant-loop-producer : goal.invariant-loop-producer
invariant-loop-producer l = record {
  end : l.end.id ≡ l.lanes;
  lanes : length l.end.lanes + vec_len l.producers ≡ vec_len l.initial.producers;
  workers : length l.end.workers ≡ 0;
  of_lanes : All (λ it. it.lane.id ≡ l.lanes) l.producers.items;
}

abbrev pub decreases-loop-producer : goal.decreases-loop-producer
decreases-loop-producer l = goal.left-loop-producer l

abbrev pub invariant-loop-consumer : goal.invariant-loop-consumer
invariant-loop-consumer l = record {
  end : l.end.id ≡ l.lanes;
  lanes : length l.end.lanes ≡ length l.initial.end.lanes;
  workers : length l.end.workers + vec_len l.consumers ≡ vec_len l.initial.consumers;
  of_lanes : All (λ it. it.worker.id ≡ l.lanes) l.consumers.items;
}

abbrev pub decreases-loop-consumer : goal.decreases-loop-consumer
decreases-loop-consumer l = goal.left-loop-consumer l
