-- The seat that comes out is the one that was hidden.
use Rattle.std.proofs.Common.{◌∙◌, ap, sym, refl}
use Rattle.bitmap_tree.specs.HiddenSeats.{seat_in}
use Rattle.cubejobs_regions.proofs.HoldLemmas.{holds_it}
use Rattle.cubejobs_regions.proofs.block_handle.BlockHandle.take.Goals as goal

pub returns-clause-held : goal.returns-clause-held
returns-clause-held c =
    let h = c.args.self.now in let old = c.replace-seat in
    holds_it h.tag h.machine h.seat h.machine c.of_parts.result c.requires refl (sym (c.of_parts.ensures.dim ∙ c.dim_at.ensures))
    (sym (c.of_parts.ensures.region ∙ c.region_at.ensures.region)) (ap seat_in (sym old.ensures.value) ∙ (sym c.into_seat.ensures ∙ sym c.of_parts.ensures.seat))
