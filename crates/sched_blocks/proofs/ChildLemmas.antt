-- The child of a node in which the block to reserve is.
use Rattle.std.proofs.Common.{◌≡◌, ℕ, suc, ◌+◌, ◌-◌, ◌*◌, ◌^◌, ◌<◌, ◌≤◌, ◌↔◌, ◌⊎◌, inl, inr, Bool, true, false, IsTrue, refl, sym, ap, subst, arith}
use Rattle.std.proofs.lemmas.Bool.{true≢false}
use Rattle.std.proofs.lemmas.Nat.{pow-add}
use Rattle.std.proofs.Math.Pow.{pow_mono}
use Rattle.cube_shape.specs.declared.region.Region.{Region}
use Rattle.cube_shape.specs.Region.{IsAligned, block}
use Rattle.cube_shape.specs.Node.{IsNodeOf}
use Rattle.cube_shape.proofs.RegionLemmas.{IsNodeOf-aligned, IsNodeOf-one_region}
use Rattle.fit_tree.specs.Parts.{IsHalfOf}
use Rattle.fit_tree.specs.Rooms.{IsNode}
use Rattle.fit_tree.specs.Halves.{lower_half, upper_half}
use Rattle.fit_tree.proofs.NodeLemmas.{IsNode-left, IsNode-of, IsNode-right, IsNodeOf-at}
use Rattle.fit_tree.proofs.SplitLemmas.{named_lower, named_upper}
use Rattle.sched_law.specs.State.{Sched}
use Rattle.sched_law.specs.Policy.{HasUsable, HasUsableIn, IsBetter}
use Rattle.sched_blocks.specs.Busy.{IsEarlier}
use Rattle.sched_blocks.specs.Layout.{Layout}
use Rattle.sched_blocks.specs.Shows.{Shows}
use Rattle.sched_blocks.specs.Inner.{HasFreeIn}
use Rattle.sched_blocks.proofs.PartLemmas.{GoesTo, better_is, free_in, goes_high, goes_low, root_is, usable_in, way_begins}

-- What a test of a node says of the half that it names.
abbrev pub Says : Layout → ℕ → Bool → ℕ → Type 0
Says b k r u = (whole half : Region) → IsNodeOf b.out.dim u half → k ≤ half.dim → IsAligned b.out.dim whole → IsHalfOf whole half
    → HasFreeIn b.out k whole → IsTrue r ↔ HasFreeIn b.out k half

module _ (w : Sched) (b : Layout) (shows : Shows w b) (dims : b.out.dim ≡ b.dim) (k v : ℕ) (part : Region) (named : IsNodeOf b.dim v part)
    (less : k < part.dim) (has : HasUsableIn w k part) where
  node : IsNode b.dim (suc (part.dim - 1)) v
  node = let down : part.dim ≡ suc (part.dim - 1) = omega (arith, less) in subst (λ d. IsNode b.dim d v) down (IsNode-of b.dim v part named)

  low_named : IsNodeOf b.dim (2 * v) (lower_half part)
  low_named = named_lower b.dim (part.dim - 1) v part node named

  high_named : IsNodeOf b.dim (2 * v + 1) (upper_half part)
  high_named = named_upper b.dim (part.dim - 1) v part node named

  aligned : IsAligned b.dim part
  aligned = IsNodeOf-aligned b.dim v part named

  half_usable : (r : Bool) (u : ℕ) (half : Region) → IsNodeOf b.dim u half → k ≤ half.dim → IsHalfOf part half → Says b k r u
      → IsTrue r ↔ HasUsableIn w k half
  half_usable r u half of_half fits is_half says =
      let test = says part half (subst (λ n. IsNodeOf n u half) (sym dims) of_half) fits (subst (λ n. IsAligned n part) (sym dims) aligned)
      is_half (free_in w b shows k part part dims refl has) in (
        λ yes. usable_in w b shows k half half dims refl (test.0 yes),
        λ it. test.1 (free_in w b shows k half half dims refl it),
      )

  pub low_usable : (r : Bool) → Says b k r (2 * v) → IsTrue r ↔ HasUsableIn w k (lower_half part)
  low_usable r says = half_usable r (2 * v) (lower_half part) low_named (omega (arith, less)) (omega (arith, less), inl refl) says

  pub high_usable : (r : Bool) → Says b k r (2 * v + 1) → IsTrue r ↔ HasUsableIn w k (upper_half part)
  high_usable r says = half_usable r (2 * v + 1) (upper_half part) high_named (omega (arith, less)) (omega (arith, less), inr refl) says

  better : IsEarlier b.ends b.busy (2 * v + 1) (2 * v) ↔ IsBetter w (upper_half part) (lower_half part)
  better = better_is w b shows part (lower_half part) (upper_half part) (2 * v) (2 * v + 1) aligned (omega (arith, less)) refl refl low_named high_named

  pub to_low : (half : Region) → IsNodeOf b.dim (2 * v) half
      → (HasUsableIn w k (upper_half part) → HasUsableIn w k (lower_half part) × (IsBetter w (upper_half part) (lower_half part) → ⊥))
      → GoesTo w k part half
  to_low half of_half worse =
      goes_low w k part half (IsNodeOf-one_region b.dim (2 * v) half (lower_half part) of_half low_named)
      (subst (λ n. IsAligned n part) (sym shows.dim) aligned) less worse has

  pub to_high : (half : Region) → IsNodeOf b.dim (2 * v + 1) half → HasUsableIn w k (upper_half part)
      → (HasUsableIn w k (lower_half part) → IsBetter w (upper_half part) (lower_half part)) → GoesTo w k part half
  to_high half of_half up better_there =
      goes_high w k part half (IsNodeOf-one_region b.dim (2 * v + 1) half (upper_half part) of_half high_named) less up better_there

  -- the entries of the children say it where both have a usable block
  pub to_better : (r : Bool) (u : ℕ) (half : Region) → (r ≡ true → u ≡ 2 * v + 1) → (r ≡ false → u ≡ 2 * v)
      → IsTrue r ↔ IsEarlier b.ends b.busy (2 * v + 1) (2 * v) → HasUsableIn w k (lower_half part) → HasUsableIn w k (upper_half part)
      → IsNodeOf b.dim u half → GoesTo w k part half
  to_better true u half high low test in_low in_high of_half =
      to_high half (subst (λ x. IsNodeOf b.dim x half) (high refl) of_half) in_high (λ _. better.0 (test.0 refl))
  to_better false u half high low test in_low in_high of_half =
      to_low half (subst (λ x. IsNodeOf b.dim x half) (low refl) of_half)
      (λ _. (in_low, λ is. absurd (true≢false (sym (test.1 (better.1 is))))))

-- ---- the way down

-- a node with children is not of the lowest level
pub inner_node : (n d v : ℕ) → 0 < d → IsNode n d v → v < 2 ^ n
inner_node n d v more node =
    let below : 2 * 2 ^ (n - d) ≤ 2 ^ n = (
    let parts : 1 + (n - d) ≤ n = omega (arith, more, node.0) in
    let power : 2 ^ (1 + (n - d)) ≤ 2 ^ n = pow_mono parts in
    let double : 2 ^ (1 + (n - d)) ≡ 2 * 2 ^ (n - d) = pow-add 2 1 (n - d) in omega (arith, power, double)) in
    omega (arith, below, node.2)

-- a child is one level below
pub child_level : (n d v u : ℕ) → IsNode n (suc d) v → (u ≡ 2 * v) ⊎ (u ≡ 2 * v + 1) → IsNode n d u
child_level n d v u node (inl left) = subst (IsNode n d) (sym left) (IsNode-left n d v node)
child_level n d v u node (inr right) = subst (IsNode n d) (sym right) (IsNode-right n d v node)

-- the block of a node
pub part_of : (n d v : ℕ) → IsNode n d v → (part : Region) × IsNodeOf n v part × (part.dim ≡ d)
part_of n d v node = (block d (v - 2 ^ (n - d)), IsNodeOf-at n d v node, refl)

-- the way begins at the machine
pub way_starts : (w : Sched) (b : Layout) → Shows w b → (k : ℕ) (part : Region) → HasUsable w k → IsNodeOf b.dim 1 part
    → GoesTo w k (block w.dim 0) part
way_starts w b shows k part has named =
    let root : IsNodeOf b.dim 1 (record { base = 0; dim = b.dim }) = subst (IsNodeOf b.dim 1) (root_is b.dim) (root_named b.dim) in
    subst (GoesTo w k (block w.dim 0)) (IsNodeOf-one_region b.dim 1 (record { base = 0; dim = b.dim }) part root named) (way_begins w b shows k has)
  where
    root_named : (n : ℕ) → IsNodeOf n 1 (block n 0)
    root_named n =
        let none : n - n ≡ 0 = omega arith in
        let one : 2 ^ (n - n) ≡ 1 = ap (λ i. 2 ^ i) none in
        (omega arith, (0, omega (arith, one), refl, omega (arith, one)))
