use Rattle.std.proofs.Common.{◌≡◌, ℕ, ◌<◌, slice_index, vec_len}
use Rattle.std.specs.Mem.Slots.{slots_items}
use Rattle.tree_steps.proofs.tree.Tree.close.Given as goal

abbrev pub invariant-loop-node : goal.invariant-loop-node
invariant-loop-node l = record {
  len : vec_len l.room ≡ vec_len l.initial.room;
  copied : (k : ℕ)
      → k < l.node
      → slice_index l.room.items k ≡ slice_index (slots_items l.closed.words) k;
}
