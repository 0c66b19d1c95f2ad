use Rattle.std.proofs.Common.{◌≡◌, ℕ, ◌+◌, ◌<◌}
use Rattle.std.specs.Prelude.{slice_get, bit_xor}
use Rattle.collectives.proofs.rounds.broadcast_round.Given as goal

abbrev pub invariant-loop-v : goal.invariant-loop-v
invariant-loop-v g l = record {
  kept : (w : ℕ)
      → w < l.half
      → slice_get l.items (bit_xor w l.root) ≡ slice_get l.fn.items (bit_xor w l.root);
  sent : (w : ℕ)
      → w < l.v
      → slice_get l.items (bit_xor (w + l.half) l.root) ≡ slice_get l.fn.items (bit_xor w l.root);
}
