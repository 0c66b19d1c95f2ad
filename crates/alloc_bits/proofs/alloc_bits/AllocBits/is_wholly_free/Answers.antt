use Rattle.std.proofs.Common.{◌≡◌, ℕ, ◌↔◌, IsTrue, None}
use Rattle.alloc_bits.proofs.HoldingsLemmas.{of_slots}
use Rattle.alloc_bits.proofs.alloc_bits.AllocBits.is_wholly_free.Goals as goal

pub returns : goal.returns
returns c =
    of_slots (λ _ held. IsTrue c.all_empty.result ↔ ((s : ℕ) → held s ≡ None)) c.self.inside.dim c.self.inside.slots.items c.args.self.now c.self.view_is
    (rw c.deref.ensures.value at c.all_empty.ensures)
