use Rattle.std.proofs.Common.{subst, sym}
use Rattle.wake_pool.specs.Schedule.{waking}
use Rattle.wake_pool.specs.Words.{word_count}
use Rattle.wake_pool.specs.declared.phase.WakePhase.TheVariants.{Giving, Idle}
use Rattle.wake_calls.specs.Thread.{IsIn}
use Rattle.wake_calls.proofs.GoesLemmas.{moved_in}
use Rattle.tests_lanes.specs.declared.board.BoardSizes.{BoardSizes as Sizes}
use Rattle.tests_lanes.specs.Inner.Rule.{threads_in, Keeps}
use Rattle.tests_lanes.specs.Inner.Steps.{goes, noted}
use Rattle.tests_lanes.specs.Inner.Law.{board_law}
use Rattle.tests_lanes.proofs.board_tests.wakes.Goals as goal

pub give-requires-clause-phase : goal.give-requires-clause-phase
give-requires-clause-phase g c =
    subst (λ (k : Sizes). IsIn c.wake_check.new.seat.me.0.threads c.args.board.now.sizes.workers k.lanes (Giving c.in-Worker.woken)) (sym c.args.board.now.sized.1)
    (moved_in threads_in goes noted Keeps (λ sizes. sizes.workers) (λ sizes. sizes.lanes) board_law c.args.seat.now.me c.wake_check.new.seat.me c.args.board.now.sizes.workers c.args.board.now.sizes.lanes
    (waking (word_count c.args.board.now.sizes.workers) 0) (Giving c.in-Worker.woken) (c.wake_check.ensures.woken c.in-Worker.woken c.in-Worker.is) c.requires.waking)

pub returns-clause-idle : goal.returns-clause-idle
returns-clause-idle g c =
    moved_in threads_in goes noted Keeps (λ sizes. sizes.workers) (λ sizes. sizes.lanes) board_law c.wake_check.new.seat.me c.give.new.seat.me c.args.board.now.sizes.workers c.args.board.now.sizes.lanes
    (Giving c.in-Worker.woken) Idle c.give.ensures.idle
    (moved_in threads_in goes noted Keeps (λ sizes. sizes.workers) (λ sizes. sizes.lanes) board_law c.args.seat.now.me c.wake_check.new.seat.me c.args.board.now.sizes.workers c.args.board.now.sizes.lanes
    (waking (word_count c.args.board.now.sizes.workers) 0) (Giving c.in-Worker.woken) (c.wake_check.ensures.woken c.in-Worker.woken c.in-Worker.is) c.requires.waking)
