-- What 'an occupied node above' means: some ancestor is occupied.
use Rattle.std.proofs.Common.{◌≡◌, ℕ, zero, suc, ◌+◌, ◌*◌, ◌/◌, ◌^◌, ◌<◌, ◌≤◌, ◌⊎◌, inl, inr, ◌||◌, Bool, true, false, List, slice_index, eq-eqb, refl, ap, subst, ◌∙◌, arith}
use mathlib.Core.Logic.{dite}
use native.Mathlib.Decide.{ℕ_discrete}
use Rattle.std.proofs.Math.Nat.{one-le-pow}
use Rattle.std.proofs.lemmas.Bool.{eqb-true, false≢true}
use Rattle.std.proofs.lemmas.Nat.{pow-add}
use Rattle.std.specs.Int.{bit_at}
use Rattle.cube_shape.specs.Node.{OnPath}
use Rattle.cube_shape.proofs.PathLemmas.{OnPath-le, OnPath-parent, OnPath-trans, OnPath-up, OnPath-zero}
use Rattle.cube_ledger.specs.Occupancy.{HasOccupiedAncestor, has_occupied_above, is_occupied_word}
use Rattle.cube_ledger.proofs.RegionLemmas.{half}

or_true : (a : Bool) → (a || true) ≡ true
or_true true = refl
or_true false = refl

-- an ancestor of the node: its parent, or an ancestor of the parent
from_parent : (words : List ℕ) (node : ℕ)
    → 0 < node / 2
    → (is_occupied_word words (node / 2) ≡ true) ⊎ HasOccupiedAncestor words (node / 2)
    → HasOccupiedAncestor words node
from_parent words node some (inl here) = (node / 2, OnPath-parent node some, (λ e. omega (arith, e, some)), eqb-true (bit_at (slice_index words (node / 2)) 0) 1 here)
from_parent words node some (inr (a, on, other, occupied)) = (a, OnPath-trans a (node / 2) node on (OnPath-parent node some), (λ e. omega (arith, e, OnPath-le a (node / 2) on, some)), occupied)

from_either : {A : Type 0} (a b : Bool) → (b ≡ true → A) → (a || b) ≡ true → (a ≡ true) ⊎ A
from_either true b f e = inl refl
from_either false b f e = inr (f e)

pub ancestor_found : (words : List ℕ) (levels node : ℕ)
    → 2 ^ levels ≤ node
    → has_occupied_above words node levels ≡ true
    → HasOccupiedAncestor words node
unfolding has_occupied_above
ancestor_found words zero node deep found = absurd (false≢true found)
ancestor_found words (suc levels) node deep found =
    let up : 2 ^ levels ≤ node / 2 = half levels node deep in
    let some : 1 ≤ 2 ^ levels = one-le-pow levels 2 (omega arith) in
    from_parent words node (omega (arith, up, some))
    (from_either (is_occupied_word words (node / 2)) (has_occupied_above words (node / 2) levels) (λ above. ancestor_found words levels (node / 2) up above) found)

pub ancestor_seen : (words : List ℕ) (levels node : ℕ)
    → 2 ^ levels ≤ node
    → node < 2 ^ (levels + 1)
    → HasOccupiedAncestor words node
    → has_occupied_above words node levels ≡ true
unfolding has_occupied_above
ancestor_seen words zero node deep within (a, on, other, occupied) =
    let none : node / 2 ≡ 0 = omega (arith, within) in
    absurd (OnPath-zero a (subst (λ v. OnPath a v) none (OnPath-up a node on other)))
ancestor_seen words (suc levels) node deep within (a, on, other, occupied) =
    dite (ℕ_discrete a (node / 2))
    (λ e. ap (λ b. b || has_occupied_above words (node / 2) levels) (subst (λ v. is_occupied_word words v ≡ true) e here))
    (λ further. ap (λ b. is_occupied_word words (node / 2) || b) (ancestor_seen words levels (node / 2) (half levels node deep) lower (a, OnPath-up a node on other, further, occupied)) ∙ or_true (is_occupied_word words (node / 2)))
  where
    here : is_occupied_word words a ≡ true
    here = eq-eqb (bit_at (slice_index words a) 0) 1 occupied

    lower : node / 2 < 2 ^ (levels + 1)
    lower = let e : 2 ^ (suc levels + 1) ≡ 2 * 2 ^ (levels + 1) = ap (λ k. 2 ^ k) (omega arith) ∙ pow-add 2 1 (levels + 1) in omega (arith, e, within)
