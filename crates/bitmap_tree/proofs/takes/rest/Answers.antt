use Rattle.bitmap_tree.proofs.CloseLemmas.{blank_no_bit}
use Rattle.bitmap_tree.proofs.takes.rest.Goals as goal

pub leave-requires : goal.leave-requires
leave-requires c = blank_no_bit c.args.seat.me c.requires
