-- What the jobs that started so far did, and which workers have them.
use Rattle.std.proofs.Common.{◌≡◌, ◌≢◌, None}
use Rattle.sched_core.specs.Shows.{KeepsGenerations, KeepsSlots, slots_of}
use Rattle.sched_board.specs.Pool.{workers_of}
use Rattle.sched_board.specs.JobBoard.{DecidesAt, KeepsPhase, Serves, NamesWoken}
use Rattle.sched_board.specs.declared.board.BoardPhase.TheVariants.{Stopped}
use Rattle.sched_board.proofs.board.JobBoard.decide.Given as goal

abbrev pub invariant-loop-turn : goal.invariant-loop-turn
invariant-loop-turn l = record {
  decides : DecidesAt l.now l.initial.self l.self;
  serves : Serves None l.initial.self l.self;
  names : NamesWoken l.initial.self l.self l.woken;
  count : workers_of l.self.pool ≡ workers_of l.initial.self.pool;
  slots : slots_of l.self.pool.core ≡ slots_of l.initial.self.pool.core;
  generations : KeepsGenerations l.initial.self.pool.core l.self.pool.core;
  keeps : KeepsSlots l.initial.self.pool.core l.self.pool.core;
  phase : KeepsPhase l.initial.self l.self;
  started : l.initial.self.phase ≢ Stopped;
  named : l.woken.count ≡ l._turn;
}
