use Rattle.std.proofs.Common.{arith}
use Rattle.wake_calls.specs.Thread.{number_of}
use Rattle.tests_lanes.proofs.LaneLemmas.{look_step}
use Rattle.tests_lanes.proofs.board.Board.look.Goals as goal

pub load-requires : goal.load-requires
load-requires c = (
  c.requires.table,
  omega (arith, c.args.self.now.sized.0, c.requires.lane, c.word_of_lane-word.ensures),
  look_step c.args.self.now.table.shared.key c.args.self.now.sizes c.args.self.now.sized.1 c.args.self.now.table.shared.table_id.slots c.args.seat.now.id c.args.seat.now.me (number_of c.args.seat.now.me.0.threads)
      c.args.lane c.word_of_lane-word.result c.word_of_lane-word.ensures c.requires.lane c.requires.phase,
)
