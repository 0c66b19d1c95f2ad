-- Where the latest end of a block is.
use Rattle.std.proofs.Common.{◌≡◌, ℕ, ◌+◌, ◌^◌, ◌<◌, ◌≤◌, ◌⊎◌, inl, inr, Bool, true, false, Some, refl, sym, ◌∙◌, ap, subst, arith}
use Rattle.std.proofs.lemmas.Bool.{cases_eq, cases_lt, true≢false}
use Rattle.std.proofs.lemmas.Nat.{pow_pos}
use Rattle.cube_shape.specs.declared.region.Region.{Region}
use Rattle.cube_shape.specs.Region.{Covers, IsAligned}
use Rattle.cube_shape.specs.Node.{IsInCube, IsNodeOf, OnPath}
use Rattle.cube_shape.proofs.PathLemmas.{OnPath-le, OnPath-linear, OnPath-trans}
use Rattle.cube_shape.proofs.RegionLemmas.{Covers-below, Covers-leaf, IsNodeOf-in_cube, IsNodeOf-one_region}
use Rattle.fit_tree.specs.Fit.{held_in}
use Rattle.fit_tree.specs.Rooms.{IsNode}
use Rattle.fit_tree.proofs.NodeLemmas.{IsNode-of, same_dim, steps_up}
use Rattle.sched_law.specs.State.{Sched}
use Rattle.sched_law.specs.Law.{IsSafe}
use Rattle.sched_law.specs.Policy.{IsLatest}
use Rattle.sched_blocks.specs.Ends.{entry_of}
use Rattle.sched_blocks.specs.Use.{HasNoneAbove, IsInUse, Tracks}
use Rattle.sched_blocks.proofs.ServeLemmas.{serves_latest, serves_latest_under}
use Rattle.sched_blocks.proofs.UseLemmas.{named_at, related, used_alone}
use Rattle.sched_blocks.specs.Layout.{Layout}
use Rattle.sched_blocks.specs.Shows.{Shows}

-- a block in use is aligned
pub in_use_aligned : (w : Sched) (a : Region) → IsSafe w → IsInUse w a → IsAligned w.dim a
in_use_aligned w a safe (inl (s, is)) = safe.lawful.aligned s a is
in_use_aligned w a safe (inr (s, is)) = safe.out.aligned s a is

module _ (w : Sched) (b : Layout) (k : Shows w b) (r : Region) (v : ℕ) (named : IsNodeOf w.dim v r) where
  own : ℕ → ℕ
  own = k.trees.0

  used : ℕ → Bool
  used = k.trees.1

  tracks : Tracks w k.trees.0 k.trees.1 b.ends b.busy
  tracks = k.trees.2

  -- the first processor of the block
  first_in : Covers r r.base
  first_in = (omega arith, omega (arith, pow_pos r.dim))

  first_below : r.base < 2 ^ w.dim
  first_below = Covers-below w.dim v r named r.base first_in

  leaf_on : OnPath v (2 ^ w.dim + r.base)
  leaf_on = (Covers-leaf w.dim v r named r.base first_below).0 first_in

  -- a block of a node at or above it has this processor
  above_covers : (u : ℕ) (a : Region) → IsNodeOf w.dim u a → OnPath u v → Covers a r.base
  above_covers u a of_a on = (Covers-leaf w.dim u a of_a r.base first_below).1 (OnPath-trans u v (2 ^ w.dim + r.base) on leaf_on)

  idle_unless : (u : ℕ) → (k.trees.1 u ≡ true → ⊥) → k.trees.1 u ≡ false
  idle_unless u not = by (k.trees.1 u) refl
    where
      by : (t : Bool) → k.trees.1 u ≡ t → k.trees.1 u ≡ false
      by true is = absurd (not is)
      by false is = is

  -- the block in use at a node above it is held
  above_held : (u : ℕ) → OnPath u v → k.trees.1 u ≡ true → (a : Region) × IsNodeOf w.dim u a × (held_in b.used a.base ≡ Some a) × Covers a r.base
  above_held u on is =
      let cube : IsInCube w.dim v = IsNodeOf-in_cube w.dim v r named in
      let a = named_at w.dim u (on.0, omega (arith, OnPath-le u v on, cube.1)) in
      (a.0, a.1, k.holds a.0 ((tracks.uses.each u a.0 a.1).0 is), above_covers u a.0 a.1 on)

  -- no block in use has its first processor
  pub latest_alone : ((s : ℕ) (a : Region) → held_in b.used s ≡ Some a → Covers a r.base → ⊥) → IsLatest w r (entry_of b.ends v)
  latest_alone none = serves_latest w k.trees.0 k.trees.1 b.ends b.busy tracks v r named none_above
    where
      none_above : HasNoneAbove k.trees.1 v
      none_above u on other = idle_unless u (λ is. let a = above_held u on is in none a.0.base a.0 a.2 a.3)

  module _ (x : ℕ) (above : Region) (of_above : IsNodeOf w.dim x above) (holds : held_in b.used above.base ≡ Some above) (covers : Covers above r.base) where
    x_used : k.trees.1 x ≡ true
    x_used = (tracks.uses.each x above of_above).1 (k.only above.base above holds).1

    x_leaf : OnPath x (2 ^ w.dim + r.base)
    x_leaf = (Covers-leaf w.dim x above of_above r.base first_below).0 covers

    -- the block in use is smaller
    pub latest_over : above.dim < r.dim → IsLatest w r (entry_of b.ends v)
    latest_over smaller = serves_latest w k.trees.0 k.trees.1 b.ends b.busy tracks v r named none_above
      where
        none_above : HasNoneAbove k.trees.1 v
        none_above u on other = idle_unless u in_use
          where
            in_use : k.trees.1 u ≡ true → ⊥
            in_use is =
                let a = above_held u on is in
                elim (cases_eq u x) [
                  | inl here ↦
                      let one : a.0 ≡ above = IsNodeOf-one_region w.dim x a.0 above (subst (λ y. IsNodeOf w.dim y a.0) here a.1) of_above in
                      let size : a.0.dim ≡ above.dim = ap (λ (y : Region). y.dim) one in
                      let up = steps_up w.dim a.0.dim r.dim u v (IsNode-of w.dim u a.0 a.1) (IsNode-of w.dim v r named) on in
                      omega (arith, size, up.0, smaller)
                  | inr apart ↦
                      let cube : IsInCube w.dim x = IsNodeOf-in_cube w.dim x above of_above in
                      let cube_u : IsInCube w.dim u = IsNodeOf-in_cube w.dim u a.0 a.1 in
                      let meet : OnPath u x ⊎ OnPath x u = related w.dim u x a.0 above a.1 of_above (λ clear. clear r.base a.3 covers) in
                      let idle : k.trees.1 u ≡ false = used_alone w tracks.safe k.trees.1 tracks.uses x cube x_used u cube_u meet apart in
                      true≢false (sym is ∙ idle)
                ]

    -- the block in use is not
    pub latest_under : r.dim ≤ above.dim → IsLatest w r (entry_of b.ends x)
    latest_under larger = serves_latest_under w k.trees.0 k.trees.1 b.ends b.busy tracks v r named x x_used on
      where
        on : OnPath x v
        on = elim (cases_lt v x) [
          | inr order ↦ OnPath-linear x v (2 ^ w.dim + r.base) x_leaf leaf_on order
          | inl before ↦
              let below : OnPath v x = OnPath-linear v x (2 ^ w.dim + r.base) leaf_on x_leaf (omega (arith, before)) in
              let up = steps_up w.dim r.dim above.dim v x (IsNode-of w.dim v r named) (IsNode-of w.dim x above of_above) below in
              let size : above.dim ≡ r.dim = omega (arith, up.0, larger) in
              let same : v ≡ x = same_dim w.dim r.dim v x (IsNode-of w.dim v r named) (subst (λ d. IsNode w.dim d x) size (IsNode-of w.dim x above of_above)) below in
              absurd (omega (arith, before, same))
        ]
