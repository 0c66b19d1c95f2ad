use Rattle.std.proofs.Common.{◌≡◌, sym, ◌∙◌, ap, subst, None, ◌++◌, length, take, drop}
use Rattle.std.specs.FinMap.{get}
use Rattle.cube_shape.specs.Machine.{TakesBack}
use Rattle.alloc_bits.specs.Inner.{slot_of, pairs_of}
use Rattle.alloc_bits.proofs.HoldingsLemmas.{of_slots, IsConsistent-written, holdings_written}
use Rattle.alloc_bits.proofs.alloc_bits.AllocBits.release.Goals as goal

pub returns-in_default-clause-refused : goal.returns-in_default-clause-refused
returns-in_default-clause-refused c =
    of_slots (λ _ held. held c.args.station ≡ None) c.self.inside.dim c.self.inside.slots.items c.args.self.now c.self.view_is
    (ap (λ slots. slot_of slots c.args.station) (sym c.deref.ensures.value) ∙ sym c.region_of.ensures ∙ c.in_default.is)

pub invariant_of-self : goal.invariant_of-self
invariant_of-self c =
    let was = sym (rw c.deref.ensures.value at c.region_of.ensures) ∙ c.in-Some.is in
    let same_slots = rw c.deref_mut-2.ensures.value at c.set_slot.ensures.len in
    let others = rw c.deref_mut-2.ensures.value at c.set_slot.ensures.others in
    let back : TakesBack c.args.station (slot_of c.self.inside.slots.items) (slot_of c.set_slot.new.slots) c.in-Some.region =
    record { held = was; idle = c.set_slot.ensures.own; others = others } in
    let same_bits = rw c.deref_mut.ensures.value at c.clear_region.ensures.len in
    let keeps = rw c.deref_mut.ensures.value at c.clear_region.ensures.taken_back in
    IsConsistent-written c.self.inside.dim _ _ c.self.inside.slots.items c.set_slot.new.slots c.self.inside.bits.items c.clear_region.new.bits c.self.inside.slots.ok.0 same_slots c.self.inside.bits.ok.0 same_bits
    c.self.invariant (keeps c.args.station (slot_of c.self.inside.slots.items) (slot_of c.set_slot.new.slots) c.self.invariant.represents back)

pub returns-clause-released : goal.returns-clause-released
returns-clause-released c =
    let was = sym (rw c.deref.ensures.value at c.region_of.ensures) ∙ c.in-Some.is in
    let same_slots = rw c.deref_mut-2.ensures.value at c.set_slot.ensures.len in
    let others = rw c.deref_mut-2.ensures.value at c.set_slot.ensures.others in
    let back : TakesBack c.args.station (slot_of c.self.inside.slots.items) (slot_of c.set_slot.new.slots) c.in-Some.region =
    record { held = was; idle = c.set_slot.ensures.own; others = others } in
    of_slots (λ _ held. TakesBack c.args.station held (get (pairs_of (take c.self.inside.slots.len (c.set_slot.new.slots ++ drop (length c.set_slot.new.slots) c.self.inside.slots.items)))) c.in-Some.region) c.self.inside.dim c.self.inside.slots.items c.args.self.now c.self.view_is
    (subst (λ new. TakesBack c.args.station (slot_of c.self.inside.slots.items) new c.in-Some.region)
    (sym (holdings_written _ c.self.inside.slots.items c.set_slot.new.slots c.self.inside.slots.ok.0 same_slots)) back)
