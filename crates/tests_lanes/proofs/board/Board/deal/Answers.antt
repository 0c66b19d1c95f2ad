use Rattle.std.proofs.Common.{arith}
use Rattle.tests_lanes.proofs.LaneLemmas.{deals}
use Rattle.tests_lanes.proofs.board.Board.deal.Goals as goal

pub split_seat-requires : goal.split_seat-requires
split_seat-requires c = (
  c.requires.table,
  omega (arith, c.args.self.now.sized.0, c.requires.some_word),
  deals c.args.self.now.table.shared.key c.args.seat.now.id c.args.seat.now.me.0,
)
