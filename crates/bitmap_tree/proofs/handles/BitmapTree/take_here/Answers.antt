use Rattle.std.proofs.Common.{◌/◌, ◌*◌, ◌-◌, arith}
use Rattle.std.proofs.lemmas.Nat.{pow_pos}
use Rattle.bitmap_tree.specs.Handles.{dim_of}
use Rattle.bitmap_tree.proofs.SweepLemmas.{one_pass, two_passes}
use Rattle.bitmap_tree.proofs.handles.BitmapTree.take_here.Goals as goal

pub returns-in-Ok-clause-grows : goal.returns-in-Ok-clause-grows
returns-in-Ok-clause-grows c = one_pass (dim_of c.args.self.now) (6 * (c.args.k / 6)) c.args.seat.now.me c.take_marked.new.seat.me c.take_marked.ensures.grows

pub returns-then-from-lt64-clause-grows : goal.returns-then-from-lt64-clause-grows
returns-then-from-lt64-clause-grows c = one_pass (dim_of c.args.self.now) (6 * (c.args.k / 6)) c.args.seat.now.me c.take_marked.new.seat.me c.take_marked.ensures.grows

pub returns-in-Ok-take_marked-clause-grows : goal.returns-in-Ok-take_marked-clause-grows
returns-in-Ok-take_marked-clause-grows c = two_passes (dim_of c.args.self.now) (6 * (c.args.k / 6)) c.args.seat.now.me c.take_marked.new.seat.me c.take_marked-2.new.seat.me c.take_marked.ensures.grows c.take_marked-2.ensures.grows

pub returns-in-Err-take_marked-clause-grows : goal.returns-in-Err-take_marked-clause-grows
returns-in-Err-take_marked-clause-grows c = two_passes (dim_of c.args.self.now) (6 * (c.args.k / 6)) c.args.seat.now.me c.take_marked.new.seat.me c.take_marked-2.new.seat.me c.take_marked.ensures.grows c.take_marked-2.ensures.grows

pub returns-then-k-self-clause-grows : goal.returns-then-k-self-clause-grows
returns-then-k-self-clause-grows c = let some = pow_pos (dim_of c.args.self.now - 6) in let grows = c.take_in.ensures.grows in omega (arith, some, grows)
