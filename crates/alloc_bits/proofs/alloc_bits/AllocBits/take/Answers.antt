-- The station gets the first fit. Only the bits of this block and the slot of this station change.
use Rattle.std.proofs.Common.{◌≡◌, ℕ, ◌≤◌, sym, subst, None, ◌++◌, length, take, drop}
use Rattle.std.specs.FinMap.{get}
use Rattle.cube_shape.specs.Region.{block}
use Rattle.cube_shape.specs.Machine.{Gives, HasNoFit, IsFirstFit}
use Rattle.alloc_bits.proofs.RepresentsLemmas.{Gives-first_fit}
use Rattle.alloc_bits.specs.Inner.{slot_of, pairs_of}
use Rattle.alloc_bits.proofs.HoldingsLemmas.{of_slots, to_slots, IsConsistent-written, holdings_written}
use Rattle.alloc_bits.proofs.alloc_bits.AllocBits.take.Goals as goal

pub returns-in_default-clause-refused : goal.returns-in_default-clause-refused
returns-in_default-clause-refused c =
    of_slots (λ n held. HasNoFit n c.args.k held) c.self.inside.dim c.self.inside.slots.items c.args.self.now c.self.view_is
    (rw c.deref.ensures.value at c.in_default.ensures.none (slot_of c.self.inside.slots.items) c.self.invariant.represents)

pub invariant_of-self : goal.invariant_of-self
invariant_of-self c =
    let old = slot_of c.self.inside.slots.items in
    let new = slot_of c.set_slot.new.slots in
    let found = rw c.deref.ensures.value at c.in-Some.ensures.first in
    let idle = to_slots (λ _ held. held c.args.station ≡ None) c.self.inside.dim c.self.inside.slots.items c.args.self.now c.self.view_is c.requires.idle in
    let fits = to_slots (λ n _. c.args.k ≤ n) c.self.inside.dim c.self.inside.slots.items c.args.self.now c.self.view_is c.requires.dim in
    let same_slots = rw c.deref_mut-2.ensures.value at c.set_slot.ensures.len in
    let same_bits = rw c.deref_mut.ensures.value at c.set_region.ensures.len in
    let others = rw c.deref_mut-2.ensures.value at c.set_slot.ensures.others in
    let keeps = rw c.deref_mut.ensures.value at c.set_region.ensures.given in
    let given = Gives-first_fit c.self.inside.dim c.args.k found.0 c.args.station old new c.in-Some.region fits idle found.1 (found.2 old c.self.invariant.represents) c.set_slot.ensures.own others in
    IsConsistent-written c.self.inside.dim _ _ c.self.inside.slots.items c.set_slot.new.slots c.self.inside.bits.items c.set_region.new.bits c.self.inside.slots.ok.0 same_slots c.self.inside.bits.ok.0 same_bits
    c.self.invariant (keeps c.args.station c.args.k old new c.self.invariant.represents given)

pub returns-clause-first : goal.returns-clause-first
returns-clause-first c =
    let found = rw c.deref.ensures.value at c.in-Some.ensures.first in
    of_slots (λ n held. (m : ℕ) × (c.in-Some.region ≡ block c.args.k m) × IsFirstFit n c.args.k held m) c.self.inside.dim c.self.inside.slots.items c.args.self.now c.self.view_is
    (found.0, found.1, found.2 (slot_of c.self.inside.slots.items) c.self.invariant.represents)

pub returns-clause-given : goal.returns-clause-given
returns-clause-given c =
    let old = slot_of c.self.inside.slots.items in
    let new = slot_of c.set_slot.new.slots in
    let found = rw c.deref.ensures.value at c.in-Some.ensures.first in
    let idle = to_slots (λ _ held. held c.args.station ≡ None) c.self.inside.dim c.self.inside.slots.items c.args.self.now c.self.view_is c.requires.idle in
    let fits = to_slots (λ n _. c.args.k ≤ n) c.self.inside.dim c.self.inside.slots.items c.args.self.now c.self.view_is c.requires.dim in
    let same_slots = rw c.deref_mut-2.ensures.value at c.set_slot.ensures.len in
    let others = rw c.deref_mut-2.ensures.value at c.set_slot.ensures.others in
    let given = Gives-first_fit c.self.inside.dim c.args.k found.0 c.args.station old new c.in-Some.region fits idle found.1 (found.2 old c.self.invariant.represents) c.set_slot.ensures.own others in
    of_slots (λ n held. Gives n c.args.station c.args.k held (get (pairs_of (take c.self.inside.slots.len (c.set_slot.new.slots ++ drop (length c.set_slot.new.slots) c.self.inside.slots.items)))) c.in-Some.region) c.self.inside.dim c.self.inside.slots.items c.args.self.now c.self.view_is
    (subst (λ held. Gives c.self.inside.dim c.args.station c.args.k old held c.in-Some.region)
    (sym (holdings_written _ c.self.inside.slots.items c.set_slot.new.slots c.self.inside.slots.ok.0 same_slots)) given)
