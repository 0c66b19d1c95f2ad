use Rattle.std.proofs.Common.{length, length-append, ap, arith}
use Rattle.dispatcher.proofs.sorting.move_all.Goals as goal

pub push_reserved-requires : goal.push_reserved-requires
push_reserved-requires c = omega (arith, c.requires, c.loop-reply.invariant.1, ap length c.loop-reply.invariant.0, ap length c.in-Some.ensures.items, length-append c.loop-reply.all.items c.loop-reply.left.items, length-append c.args.all.now.items c.args.replies.items)
