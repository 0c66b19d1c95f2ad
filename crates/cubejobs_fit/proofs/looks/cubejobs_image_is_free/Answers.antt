-- What is no block of the machine was refused.
use Rattle.cubejobs_fit.proofs.looks.cubejobs_image_is_free.Goals as goal

pub returns-clause-free : goal.returns-clause-free
returns-clause-free c = λ image.
    let aligned = (c.fault_of_block.ensures.fine c.if-fault_of_block-ne-DONE.false).1 in
    let free = c.is_free.ensures c.args.head.now image in
    (λ is. (aligned, free.0 is), λ both. free.1 both.1)
