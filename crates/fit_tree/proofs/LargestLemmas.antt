-- The largest dimension of a free block apart from another one.
use Rattle.std.proofs.Common.{ℕ, ◌+◌, ◌-◌, ◌^◌, ◌<◌, ◌≤◌, List, arith}
use Rattle.cube_shape.specs.declared.region.Region.{Region}
use Rattle.cube_shape.specs.Region.{block}
use Rattle.cube_shape.specs.Machine.{Holdings}
use Rattle.cube_shape.specs.Node.{IsNodeOf}
use Rattle.cube_shape.proofs.RegionLemmas.{AreApart-paths}
use Rattle.fit_tree.specs.Rooms.{IsSound}
use Rattle.fit_tree.specs.FirstApart.{HasNoneApart}
use Rattle.fit_tree.specs.InnerApart.{IsMost}
use Rattle.fit_tree.specs.InnerRepresents.{Represents}
use Rattle.fit_tree.proofs.NodeLemmas.{IsNode-of, IsNodeOf-at}
use Rattle.fit_tree.proofs.ApartLemmas.{none_at_root, start_open}
use Rattle.fit_tree.proofs.RepresentsLemmas.{free_from_open, nth_named, open_from_free}

module _ (n : ℕ) (rooms : List ℕ) (sound : IsSound n rooms) (held : Holdings) (represents : Represents n held rooms) (avoid : Region) (v : ℕ) (of_avoid : IsNodeOf n v avoid)
    (most : ℕ) (is : IsMost n rooms v 1 most) where
  pub none_larger : (k : ℕ) → k ≤ n → most < k + 2 → HasNoneApart n k held avoid
  none_larger k fits less m within apart free =
      let named = nth_named n k m fits within in
      none_at_root n k rooms v (is.1 k less) (2 ^ (n - k) + m) (IsNode-of n (2 ^ (n - k) + m) (block k m) named)
      ((AreApart-paths n v (2 ^ (n - k) + m) avoid (block k m) of_avoid named).0 apart)
      (open_from_free n held rooms represents (2 ^ (n - k) + m) (block k m) named free)

  pub one_fits : (k : ℕ) → k + 2 ≤ most → HasNoneApart n k held avoid → ⊥
  one_fits k enough none =
      let start = is.0 k enough in
      let found = start_open n k rooms sound v start.0 start.1 start.2 in
      let named = IsNodeOf-at n k found.0 found.1 in
      none (found.0 - 2 ^ (n - k)) (omega (arith, found.1.1, found.1.2))
      ((AreApart-paths n v found.0 avoid (block k (found.0 - 2 ^ (n - k))) of_avoid named).1 found.3)
      (free_from_open n held rooms represents found.0 (block k (found.0 - 2 ^ (n - k))) named found.2)
