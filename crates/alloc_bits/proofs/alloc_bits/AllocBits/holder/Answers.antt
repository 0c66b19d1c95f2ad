use Rattle.std.proofs.Common.{◌≡◌, ℕ, Some, IfSome, IfNone}
use Rattle.cube_shape.specs.declared.region.Region.{Region}
use Rattle.cube_shape.specs.Region.{Covers}
use Rattle.alloc_bits.proofs.HoldingsLemmas.{of_slots}
use Rattle.alloc_bits.proofs.alloc_bits.AllocBits.holder.Goals as goal

pub returns-clause-held : goal.returns-clause-held
returns-clause-held c =
    of_slots (λ _ held. IfSome c.holder_of.result (λ s. (a : Region) × (held s ≡ Some a) × Covers a c.args.processor)) c.self.inside.dim c.self.inside.slots.items c.args.self.now c.self.view_is
    (rw c.deref.ensures.value at c.holder_of.ensures.held)

pub returns-clause-free : goal.returns-clause-free
returns-clause-free c =
    of_slots (λ _ held. IfNone c.holder_of.result ((s : ℕ) (a : Region) → held s ≡ Some a → Covers a c.args.processor → ⊥)) c.self.inside.dim c.self.inside.slots.items c.args.self.now c.self.view_is
    (rw c.deref.ensures.value at c.holder_of.ensures.free)
