-- Sums and bounds of tries.
use Rattle.std.proofs.Common.{◌≡◌, ℕ, zero, suc, ◌+◌, ◌-◌, ◌*◌, ◌^◌, ◌<◌, ◌≤◌, length, ap, subst, arith, suc-mul}
use Rattle.std.proofs.lemmas.Nat.{pow-add, pow_pos}
use Rattle.std.proofs.Math.Pow.{pow_mono}
use Rattle.std.proofs.Math.Nat.{mul-le-mul_right}
use Rattle.cube_shape.specs.Node.{IsInCube}
use Rattle.cube_core.specs.Count.{depth}
use Rattle.cube_core.specs.Held.{region_at}
use Rattle.cube_core.proofs.RunningLemmas.{depth_is, region_named}
use Rattle.tree_steps.specs.declared.why.Why.{Why}
use Rattle.tree_steps.specs.declared.why.Why.TheVariants.{InUse, Lost, Under}
use Rattle.tree_steps.specs.declared.view.Entry.{Entry}
use Rattle.cube_tree.specs.declared.refusal.Refusal.{Refusal}
use Rattle.cube_tree.specs.declared.handles.Cube.{Cube}
use Rattle.cube_tree.specs.declared.handles.Subcube.{Subcube}
use Rattle.cube_tree.specs.Handles.{cube_dim, subcube_entry, IsRefusedTry, TakesNode}
use Rattle.cube_tree.specs.Tries.{counted, refusal_sum, Tries, TakesOne, IsRefusedAll}
use Rattle.cube_tree.proofs.RefusalLemmas.{tries_events}

-- a node of the level j levels below the root
pub node_of_level : (n k m : ℕ)
    → k ≤ n
    → m < 2 ^ (n - k)
    → IsInCube n (2 ^ (n - k) + m) × (depth n (2 ^ (n - k) + m) ≡ n - k)
node_of_level n k m le below = (in_cube, depth_is n (2 ^ (n - k) + m) (n - k) in_cube (omega arith) (omega arith))
  where
    twice : 2 ^ (1 + (n - k)) ≡ 2 * 2 ^ (n - k)
    twice = pow-add 2 1 (n - k)

    more : 2 ^ (1 + (n - k)) ≤ 2 ^ (n + 1)
    more = pow_mono (order n k)
      where
        order : (a b : ℕ) → 1 + (a - b) ≤ a + 1
        order a b = omega arith

    in_cube : IsInCube n (2 ^ (n - k) + m)
    in_cube = let some = pow_pos (n - k) in (omega arith, omega (arith, twice, more, below))

-- the same of the node itself
pub on_level : (n j v : ℕ) → j ≤ n → 2 ^ j ≤ v → v < 2 * 2 ^ j → IsInCube n v × (depth n v ≡ j)
on_level n j v le low high = (in_cube, depth_is n v j in_cube low high)
  where
    in_cube : IsInCube n v
    in_cube =
        let some = pow_pos j in
        let twice : 2 ^ (1 + j) ≡ 2 * 2 ^ j = pow-add 2 1 j in
        let more : 2 ^ (1 + j) ≤ 2 ^ (n + 1) = pow_mono (omega (arith, le)) in
        (omega (arith, some, low), omega (arith, twice, more, high))

-- and its region is of the dimension of the level
pub dim_of_level : (n k v : ℕ)
    → k ≤ n
    → 2 ^ (n - k) ≤ v
    → v < 2 * 2 ^ (n - k)
    → (region_at n v).dim ≡ k
dim_of_level n k v le low high =
    let level = on_level n (n - k) v (omega arith) low high in
    same n k (region_at n v).dim le (region_named n v level.0).0 level.1
  where
    same : (a b c : ℕ) → b ≤ a → c ≤ a → a - c ≡ a - b → c ≡ b
    same a b c le_b le_c is = omega arith

-- each refusal is counted once
pub sum_counted : (why : Why) (r : Refusal) → refusal_sum (counted why r) ≡ 1 + refusal_sum r
sum_counted InUse r = omega arith
sum_counted Lost r = omega arith
sum_counted (Under at) r = omega arith

pub tries_sum : (n first m : ℕ) (r : Refusal) (old new : Entry)
    → Tries n first m r old new
    → refusal_sum r ≡ m
tries_sum n first zero r old new tries = ap refusal_sum tries.1
tries_sum n first (suc m) r old new (between, before, tries, one) =
    let earlier = tries_sum n first m before old between tries in let more = sum_counted one.why before in let counts = ap refusal_sum one.counts in omega arith

-- and adds at most this many events
tries_bound : (n k m : ℕ) (r : Refusal) (old new : Entry)
    → k ≤ n
    → m ≤ 2 ^ (n - k)
    → Tries n (2 ^ (n - k)) m r old new
    → length new.trail ≤ length old.trail + m * (3 + 7 * (n - k))
tries_bound n k zero r old new le below tries = let same = ap (λ (e : Entry). length e.trail) tries.0 in omega arith
tries_bound n k (suc m) r old new le below (between, before, tries, one) =
    let earlier = tries_bound n k m before old between le (omega arith) tries in
    let level = (node_of_level n k m le (omega arith)).1 in
    let last = one.refused.bound in
    let each : length new.trail ≤ length between.trail + (3 + 7 * (n - k)) = subst (λ j. length new.trail ≤ length between.trail + (3 + 7 * j)) level last in
    let sum = suc-mul m (3 + 7 * (n - k)) in
    omega (arith, earlier, each, sum)

-- this many tries are at most all tries of the level
within : (m j t : ℕ) → m ≤ j → m * t ≤ j * t
within m j t le = mul-le-mul_right t le

pub refused_all : (n k : ℕ) (old new : Entry) (r : Refusal)
    → k ≤ n
    → Tries n (2 ^ (n - k)) (2 ^ (n - k)) r old new
    → IsRefusedAll n (n - k) old new r
refused_all n k old new r le tries = record {
  tries = tries;
  sum = tries_sum n (2 ^ (n - k)) (2 ^ (n - k)) r old new tries;
  events = tries_events n (2 ^ (n - k)) (2 ^ (n - k)) r old new tries;
  bound = tries_bound n k (2 ^ (n - k)) r old new le (omega arith) tries;
}

pub takes_one : (cube : Cube) (k m : ℕ) (old between : Entry) (r : Refusal) (subcube : Subcube)
    → k ≤ cube_dim cube
    → m < 2 ^ (cube_dim cube - k)
    → Tries (cube_dim cube) (2 ^ (cube_dim cube - k)) m r old between
    → TakesNode cube (2 ^ (cube_dim cube - k) + m) between subcube
    → TakesOne cube (cube_dim cube - k) old subcube
takes_one cube k m old between r subcube le below tries taken = record {
  m = m;
  there = below;
  between = between;
  before = r;
  tries = tries;
  taken = taken;
  bound =
      let earlier = tries_bound (cube_dim cube) k m r old between le (omega arith) tries in
      let level = (node_of_level (cube_dim cube) k m le below).1 in
      let last : length (subcube_entry subcube).trail ≤ length between.trail + (3 + 7 * (cube_dim cube - k)) = subst (λ j. length (subcube_entry subcube).trail ≤ length between.trail + (3 + 7 * j)) level taken.bound in
      let sum = suc-mul m (3 + 7 * (cube_dim cube - k)) in
      let all = within (suc m) (2 ^ (cube_dim cube - k)) (3 + 7 * (cube_dim cube - k)) below in
      omega (arith, earlier, last, sum, all);
}

pub one_more : (n first m : ℕ) (r s : Refusal) (old between new : Entry) (why : Why)
    → Tries n first m r old between
    → IsRefusedTry n (first + m) between new why
    → s ≡ counted why r
    → Tries n first (m + 1) s old new
one_more n first m r s old between new why tries refused counts = subst (λ i. Tries n first i s old new) (next m) (between, r, tries, record { why = why; refused = refused; counts = counts })
  where
    next : (i : ℕ) → suc i ≡ i + 1
    next i = omega arith
