use Rattle.std.proofs.Common.{◌≡◌, ℕ, ◌<◌, None}
use Rattle.cube_tree.specs.Solo.{solo_size, held_by}
use Rattle.cube_tree.proofs.solo.Solo.release_all.Given as goal

abbrev pub invariant-loop-station : goal.invariant-loop-station
invariant-loop-station l = record {
  size : solo_size l.self ≡ solo_size l.fn.self;
  idle : (s : ℕ) → s < l.station → held_by l.self s ≡ None;
}
