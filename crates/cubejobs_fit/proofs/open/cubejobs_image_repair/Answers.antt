-- An image that holds what it held has the bytes that it had.
use Rattle.std.proofs.Common.{subst, arith}
use Rattle.fit_tree.specs.Image.{IsImage}
use Rattle.cubejobs_fit.proofs.SameLemmas.{heads_same, rooms_same}
use Rattle.cubejobs_fit.proofs.open.cubejobs_image_repair.Goals as goal

pub returns-clause-kept : goal.returns-clause-kept
returns-clause-kept c = λ image.
    rooms_same c.args.n c.repair.new.head c.args.head.now c.repair.new.rooms c.args.rooms.now c.repair.ensures.image image (c.repair.ensures.kept image)

pub returns-clause-head_kept : goal.returns-clause-head_kept
returns-clause-head_kept c = λ image.
    let same = rooms_same c.args.n c.repair.new.head c.args.head.now c.repair.new.rooms c.args.rooms.now c.repair.ensures.image image (c.repair.ensures.kept image) in
    heads_same c.args.n c.repair.new.head c.args.head.now c.args.rooms.now (omega arith) (subst (λ rooms. IsImage c.args.n c.repair.new.head rooms) same c.repair.ensures.image) image
