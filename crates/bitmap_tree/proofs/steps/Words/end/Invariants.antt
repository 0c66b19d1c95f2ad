use Rattle.std.proofs.Common.{◌≡◌, ℕ, ◌<◌, slice_index, vec_len}
use Rattle.std.specs.Mem.Slots.{slots_items}
use Rattle.bitmap_tree.proofs.steps.Words.end.Given as goal

abbrev pub invariant-loop-word : goal.invariant-loop-word
invariant-loop-word l = record {
  len : vec_len l.row ≡ vec_len l.initial.row;
  copied : (k : ℕ)
      → k < l.word
      → slice_index l.row.items k ≡ slice_index (slots_items l.closed.words) k;
}
