-- The handle keeps the seat of the refused take.
use Rattle.std.proofs.Common.{◌∙◌, ap}
use Rattle.bitmap_tree.specs.Handles.{dim_of, refused_trail}
use Rattle.cubejobs_regions.specs.Holding.{trail_of}
use Rattle.cubejobs_regions.specs.Machine.{dim_of_machine}
use Rattle.cubejobs_regions.specs.Takes.{FoundNoRoom}
use Rattle.cubejobs_regions.proofs.TakeLemmas.{no_room_at}
use Rattle.cubejobs_regions.proofs.takes.take_exact.Goals as goal

pub returns-in-Err-clause-found : goal.returns-in-Err-clause-found
returns-in-Err-clause-found c = λ code.
    let e = c.in-Err.ensures in let n = dim_of c.common-common.result.now.tree in let m = dim_of_machine c.args.machine.now in
    let contended = c.sought.result.contended in let old = refused_trail c.in-Err.refusal in let new = trail_of c.keep.new.self in
    let found : FoundNoRoom n c.args.k contended old = record {
      no_room = λ none. e.refused (c.sought.ensures.alone none);
      disturbed = λ some. e.disturbed (c.sought.ensures.disturbed some);
      alone = e.alone;
      few = e.few_refused;
    } in
    no_room_at n m c.args.k contended old new (ap (λ x. dim_of x.tree) c.common-common.ensures.common) (c.keep.ensures.trail ∙ c.into_seat.ensures.trail) found
