-- When each refusal occurs, by the number of items.
use Rattle.std.proofs.Common.{◌≡◌, ℕ, ◌<◌, ◌≤◌, ◌^◌, List, length, arith, false}
use Rattle.std.specs.Prelude.{None}
use Rattle.std.proofs.lemmas.Bool.Decides.{nat_tests}
use Rattle.job_types.specs.declared.kind.Kind.{Kind}
use Rattle.job_types.specs.declared.kind.Kind.TheVariants.{Broadcast, Reduce, AllReduce, Scan, ExScan}
use Rattle.job_types.specs.Job.{refusal_of, has_bad_root}

-- what holds for items that are accepted
pub record IsAccepted (n : ℕ) (kind : Kind) (items : List ℕ) : Type 0 where
  pub some : 0 < length items
  pub within : length items ≤ 2 ^ n
  pub rooted : has_bad_root kind (length items) ≡ false

pub accepted :
    (n : ℕ) (kind : Kind) (items : List ℕ) → refusal_of n kind items ≡ None → IsAccepted n kind items
accepted n kind items none = record {
  some = grind (arith, nat_tests);
  within = grind (arith, nat_tests);
  rooted = grind (arith, nat_tests);
}

-- the root of a broadcast, if it is not a bad one
pub root_below : (root places : ℕ) → has_bad_root (Broadcast root) places ≡ false → root < places
root_below root places good = grind (arith, nat_tests)

-- a root that is one of some places is one of more places
pub root_of_more : (kind : Kind) (few many : ℕ)
    → few ≤ many
    → has_bad_root kind few ≡ false
    → has_bad_root kind many ≡ false
root_of_more (Broadcast root) few many more good = grind (arith, nat_tests)
root_of_more (Reduce op root) few many more good = grind (arith, nat_tests)
root_of_more (AllReduce op) few many more good = good
root_of_more (Scan op) few many more good = good
root_of_more (ExScan op) few many more good = good
