-- A processor that is held is one of the machine.
use Rattle.std.proofs.Common.{◌≡◌, ◌*◌, ◌%◌, ◌^◌, ◌<◌, arith}
use Rattle.std.proofs.lemmas.Nat.{one_shl}
use Rattle.cubejobs_fit.proofs.ImageLemmas.{held_below}
use Rattle.cubejobs_fit.proofs.looks.cubejobs_image_block_with.Goals as goal

pub returns-then-processor-n-clause-done : goal.returns-then-processor-n-clause-done
returns-then-processor-n-clause-done c = λ image held.
    let size = c.fault_of_size-fault.ensures.fine c.if-fault-ne-DONE.false in
    let all : 1 * 2 ^ c.args.n % 2 ^ 64 ≡ 2 ^ c.args.n = one_shl c.args.n 64 (omega (arith, size.0)) in
    let below : c.args.processor < 2 ^ c.args.n = held_below c.args.n c.args.processor c.args.head.now c.args.rooms.now image held in
    absurd (omega (arith, all, below, c.if-processor-n.true))
