-- A split and a join over what images hold.
use Rattle.std.proofs.Common.{◌≡◌, ℕ, suc, ◌+◌, ◌*◌, inl, List, sym, arith}
use Rattle.cube_shape.specs.declared.region.Region.{Region}
use Rattle.cube_shape.specs.Node.{IsNodeOf}
use Rattle.fit_tree.specs.Rooms.{IsNode, IsSound, room_of}
use Rattle.fit_tree.specs.Fit.{held_in}
use Rattle.fit_tree.specs.Image.{fit_in}
use Rattle.fit_tree.specs.Halves.{AreSplit, HoldsHalves, Joins, Splits, lower_half, upper_half}
use Rattle.fit_tree.proofs.RoomLemmas.{children_whole}
use Rattle.fit_tree.proofs.ImageLemmas.{Represents-in, in_views}
use Rattle.fit_tree.proofs.SplitLemmas.{AreSplit-held, AreWritten, named_lower, named_upper, over_taken}

module _ (n k v : ℕ) (r : Region) (old new : List ℕ) (sound : IsSound n old) (sound' : IsSound n new) (node : IsNode n (suc k) v) (named : IsNodeOf n v r) where
  pub split_views : room_of old v ≡ 0 → AreWritten old new (2 * v) (2 * v + 1) v 0 0 1 → Splits (held_in (fit_in n old)) (held_in (fit_in n new)) r
  split_views taken written =
      let below = children_whole n old sound k v node (inl taken) in
      in_views (λ whole halves. AreSplit whole halves r) n old new
      (AreSplit-held n k v r node named old new sound sound' taken (λ is. omega (arith, is, below.0)) (λ is. omega (arith, is, below.1)) (λ is. omega (arith, is, written.third))
      written.first written.second (λ u a b c. written.others u b c a))

  pub join_views : room_of old (2 * v) ≡ 0 → room_of old (2 * v + 1) ≡ 0 → AreWritten old new v (2 * v) (2 * v + 1) 0 (k + 2) (k + 2) → Joins (held_in (fit_in n old)) (held_in (fit_in n new)) r
  join_views left right written =
      let over = over_taken n k v old sound node left right in
      in_views (λ halves whole. AreSplit whole halves r) n old new
      (AreSplit-held n k v r node named new old sound' sound written.first (λ is. omega (arith, is, written.second)) (λ is. omega (arith, is, written.third)) (λ is. omega (arith, is, over))
      left right (λ u a b c. sym (written.others u a b c)))

-- held halves are taken nodes
pub halves_taken : (n k v : ℕ) (r : Region) (rooms : List ℕ) → IsSound n rooms → IsNode n (suc k) v → IsNodeOf n v r → HoldsHalves (held_in (fit_in n rooms)) r → (room_of rooms (2 * v) ≡ 0) × (room_of rooms (2 * v + 1) ≡ 0)
halves_taken n k v r rooms sound node named held =
    let represents = Represents-in n rooms sound in (
      represents.each_is_taken r.base (lower_half r) (2 * v) held.0 (named_lower n k v r node named),
      represents.each_is_taken (upper_half r).base (upper_half r) (2 * v + 1) held.1 (named_upper n k v r node named),
    )
