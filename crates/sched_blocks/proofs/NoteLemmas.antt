-- What a write of a tree at one node leaves in its vector.
use Rattle.std.proofs.Common.{◌≡◌, ℕ, List, ◌++◌, length, take, drop, sym, subst}
use Rattle.cube_shape.specs.declared.region.Region.{Region}
use Rattle.cube_shape.specs.Node.{IsNodeOf}
use Rattle.cube_shape.proofs.RegionLemmas.{IsNodeOf-one_node}
use Rattle.fit_tree.proofs.HeldLemmas.{all_written}

pub noted : (n v node len : ℕ) (r : Region) (old now new : List ℕ) (Right : List ℕ → Type 0) (Alone : ℕ → Type 0) (Done : ℕ → List ℕ → Type 0)
    → now ≡ old → len ≡ length old → length new ≡ length old → IsNodeOf n node r → (Right now → Alone node → Done node new)
    → IsNodeOf n v r → Right old → Alone v → Done v (take len (new ++ drop (length new) old))
noted n v node len r old now new Right Alone Done is count same named step of_r right alone =
    let one : v ≡ node = IsNodeOf-one_node n v node r of_r named in
    subst (λ x. Done x (take len (new ++ drop (length new) old))) (sym one)
    (subst (λ xs. Done node xs) (sym (all_written len old new count same)) (step (subst Right (sym is) right) (subst Alone one alone)))

pub written : (len : ℕ) (old new : List ℕ) (Right : List ℕ → Type 0) → len ≡ length old → length new ≡ length old → Right new
    → Right (take len (new ++ drop (length new) old))
written len old new Right count same right = subst Right (sym (all_written len old new count same)) right
