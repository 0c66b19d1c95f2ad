-- The levels of the tree: which region a node names, and how deep it is.
use Rattle.std.proofs.Common.{◌≡◌, ◌≢◌, ℕ, zero, suc, ◌+◌, ◌-◌, ◌*◌, ◌/◌, ◌^◌, ◌<◌, ◌≤◌, Bool, true, false, cond, eqb, refl, ◌∙◌, ap, arith}
use Rattle.std.proofs.lemmas.Bool.{eqb-true, eqb-false}
use Rattle.std.proofs.lemmas.Nat.{pow-add}
use Rattle.cube_shape.specs.Node.{IsInCube, IsNodeOf}
use Rattle.cube_shape.proofs.PathLemmas.{log_unique}
use Rattle.cube_core.specs.Held.{dim_at, region_at}
use Rattle.cube_core.specs.Count.{depth}

-- ---- a node names its region

-- w is on the level of the regions of dimension k
abbrev IsOnLevel : ℕ → ℕ → ℕ → Type 0
IsOnLevel m w k = (k ≤ m) × (2 ^ (m - k) ≤ w) × (w < 2 * 2 ^ (m - k))

root_level : (m w : ℕ) → w ≡ 1 → IsOnLevel m w m
root_level m w root =
    let none : m - m ≡ 0 = omega arith in
    let one : 2 ^ (m - m) ≡ 1 = ap (λ i. 2 ^ i) none in
    (omega arith, omega arith, omega arith)

-- a node is one level below its parent, in a machine of one dimension more
next_level : (m w k : ℕ) → IsOnLevel m (w / 2) k → IsOnLevel (suc m) w k
next_level m w k above =
    let level : suc m - k ≡ 1 + (m - k) = omega (arith, above.0) in
    let twice : 2 ^ (suc m - k) ≡ 2 * 2 ^ (m - k) = ap (λ i. 2 ^ i) level ∙ pow-add 2 1 (m - k) in
    (omega (arith, above.0), omega (arith, above.1, twice), omega (arith, above.2, twice))

pub parent_in_cube : (m w : ℕ) → w ≢ 1 → IsInCube (suc m) w → IsInCube m (w / 2)
parent_in_cube m w inner in_cube =
    let more : suc m + 1 ≡ 1 + (m + 1) = omega arith in
    let whole : 2 ^ (suc m + 1) ≡ 2 * 2 ^ (m + 1) = ap (λ i. 2 ^ i) more ∙ pow-add 2 1 (m + 1) in
    (omega (arith, in_cube.0), omega (arith, in_cube.1, whole))

pub dim_at-level : (m w : ℕ) → IsInCube m w → IsOnLevel m w (dim_at m w)
dim_at-level zero w in_cube = root_level 0 w (omega (arith, in_cube.0, in_cube.1))
dim_at-level (suc m) w in_cube = turn (dim_at-level m (w / 2)) (eqb w 1) refl
  where
    turn : (IsInCube m (w / 2) → IsOnLevel m (w / 2) (dim_at m (w / 2)))
        → (t : Bool)
        → eqb w 1 ≡ t
        → IsOnLevel (suc m) w (cond t (suc m) (dim_at m (w / 2)))
    turn above true is = root_level (suc m) w (eqb-true w 1 is)
    turn above false is = next_level m w (dim_at m (w / 2)) (above (parent_in_cube m w (eqb-false w 1 is) in_cube))

pub region_at-named : (n v : ℕ) → IsInCube n v → IsNodeOf n v (region_at n v)
region_at-named n v in_cube =
    let level = dim_at-level n v in_cube in
    (level.0, (v - 2 ^ (n - dim_at n v), omega (arith, level.1, level.2), refl, omega (arith, level.1)))

-- ---- depths

-- a node is one level below its parent
pub depth-parent : (n v : ℕ) → IsInCube n v → v ≢ 1 → depth n v ≡ 1 + depth n (v / 2)
depth-parent n v in_cube inner =
    let level = dim_at-level n v in_cube in
    let above = dim_at-level n (v / 2) (omega (arith, in_cube.0), omega (arith, in_cube.1)) in
    let twice : 2 ^ (1 + depth n (v / 2)) ≡ 2 * 2 ^ depth n (v / 2) = pow-add 2 1 (depth n (v / 2)) in
    log_unique v (depth n v) (1 + depth n (v / 2)) level.1 level.2 (omega (arith, above.1, twice)) (omega (arith, above.2, twice))
