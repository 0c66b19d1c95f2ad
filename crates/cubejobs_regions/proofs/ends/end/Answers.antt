-- The whole machine is the block that was not free.
use Rattle.std.proofs.Common.{ℕ, refl, subst}
use Rattle.bitmap_tree.specs.Handles.{dim_of, refused_trail}
use Rattle.bitmap_tree.specs.Trail.{WasDisturbed, WasRefused}
use Rattle.cubejobs_regions.specs.Takes.{FoundNoRoom}
use Rattle.cubejobs_regions.proofs.TakeLemmas.{count_of, no_room_at, told}
use Rattle.cubejobs_regions.proofs.ends.end.Goals as goal

pub returns-in-Err-clause-held : goal.returns-in-Err-clause-held
returns-in-Err-clause-held c =
    let e = c.in-Err.ensures in let n = dim_of c.args.common.tree in let refused = c.in-Err.refused in
    let contended : ℕ = count_of refused.disturbed in
    let both = told refused.disturbed (WasRefused n c.dim.result (refused_trail refused)) (WasDisturbed (refused_trail refused)) e.refused e.disturbed in
    let found : FoundNoRoom n c.dim.result contended (refused_trail refused) = record {
      no_room = both.0;
      disturbed = both.1;
      alone = e.alone;
      few = e.few_refused;
    } in
    record {
      contended = contended;
      found = no_room_at n n n contended (refused_trail refused) c.into_seat-in-Err.result.me.0.trail refl c.into_seat-in-Err.ensures.trail
          (subst (λ k. FoundNoRoom n k contended (refused_trail refused)) c.dim.ensures.dim found);
    }
