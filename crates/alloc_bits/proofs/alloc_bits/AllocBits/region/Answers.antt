use Rattle.std.proofs.Common.{◌≡◌, ◌∙◌, ap}
use Rattle.alloc_bits.specs.Inner.{slot_of}
use Rattle.alloc_bits.proofs.HoldingsLemmas.{of_slots}
use Rattle.alloc_bits.proofs.alloc_bits.AllocBits.region.Goals as goal

pub returns : goal.returns
returns c =
    of_slots (λ _ held. c.region_of.result ≡ held c.args.station) c.self.inside.dim c.self.inside.slots.items c.args.self.now c.self.view_is
    (c.region_of.ensures ∙ ap (λ slots. slot_of slots c.args.station) c.deref.ensures.value)
