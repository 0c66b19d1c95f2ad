use Rattle.std.proofs.Common.{◌≡◌, ◌∙◌, ap, rules}
use Rattle.alloc_bits.specs.Allocation.{held_in}
use Rattle.alloc_bits.specs.Inner.{slot_of}
use Rattle.cube_shape.specs.Machine.{IsLawful}
use Rattle.alloc_bits.proofs.HoldingsLemmas.{of_slots}
use Rattle.alloc_bits.proofs.alloc_bits.AllocBits.holds.Goals as goal

pub returns-clause-held : goal.returns-clause-held
returns-clause-held c =
    let region : c.region_of.result ≡ held_in c.args.self.now c.args.station =
    of_slots (λ _ held. c.region_of.result ≡ held c.args.station) c.self.inside.dim c.self.inside.slots.items c.args.self.now c.self.view_is
    (c.region_of.ensures ∙ ap (λ slots. slot_of slots c.args.station) c.deref.ensures.value) in
    search rules

pub returns-clause-lawful : goal.returns-clause-lawful
returns-clause-lawful c =
    of_slots (λ n held. IsLawful n held) c.self.inside.dim c.self.inside.slots.items c.args.self.now c.self.view_is c.self.invariant.represents.lawful
