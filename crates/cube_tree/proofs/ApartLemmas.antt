-- Two stations that hold regions, on one seat.
use Rattle.std.proofs.Common.{◌≡◌, ℕ, ◌+◌, ◌^◌, ◌<◌, List, [], ◌∷◌, ◌++◌, sym, ◌∙◌, ap, subst, arith}
use Rattle.std.proofs.lemmas.Nat.{pow_pos}
use Rattle.std.proofs.lemmas.List.Elements.{All-head}
use Rattle.atomic_table.specs.Seated.{TableId}
use Rattle.cube_shape.specs.Region.{AreApart}
use Rattle.cube_shape.proofs.PathLemmas.{log_unique}
use Rattle.cube_shape.proofs.RegionLemmas.{AreApart-paths}
use Rattle.cube_core.specs.declared.phase.Phase.{Phase}
use Rattle.cube_core.specs.Held.{region_at}
use Rattle.cube_core.proofs.RunningLemmas.{region_named}
use Rattle.tree_steps.specs.declared.view.Entry.{Entry}
use Rattle.tree_steps.specs.Steps.{Known, first_of, joined, AreOffPath, IsOffAll}
use Rattle.cube_tree.specs.Seats.{IsSeatOf}
use Rattle.cube_tree.specs.declared.handles.Subcube.{Subcube}
use Rattle.cube_tree.specs.Handles.{held_region, subcube_entry}

-- the seat of both
pub both_there : {s t : ℕ} {p q : Phase} {m o : Known} (new : Known)
    → IsSeatOf s p m
    → IsSeatOf t q o
    → new ≡ (joined m.0 o.0, m.1)
    → new.0.stations ≡ first_of m ∷ first_of o ∷ []
both_there {m = m} {o = o} new by_s by_t is =
    ap (λ (x : Known). x.0.stations) is ∙ ap (λ es. es ++ o.0.stations) by_s.one ∙ ap (λ es. first_of m ∷ es) by_t.one

pub two_off : (entries : List Entry) (a b : Entry)
    → entries ≡ a ∷ b ∷ []
    → IsOffAll entries
    → AreOffPath a b
two_off entries a b is off = All-head (AreOffPath a) b [] (subst IsOffAll is off)

-- ---- regions

-- two machines of as many words have one dimension
same_dim : (n k count : ℕ) → count ≡ 2 ^ (n + 1) → count ≡ 2 ^ (k + 1) → n ≡ k
same_dim n k count first second =
    let some = pow_pos (n + 1) in let more = pow_pos (k + 1) in
    let equal : n + 1 ≡ k + 1 = log_unique count (n + 1) (k + 1) (omega arith) (omega arith) (omega arith) (omega arith) in omega arith

pub regions_apart : (a b : Subcube)
    → a.seat.table_id ≡ b.seat.table_id
    → AreOffPath (subcube_entry a) (subcube_entry b)
    → AreApart (held_region a) (held_region b)
regions_apart a b same off =
    subst (λ r. AreApart r (held_region b)) (sym a.named) (subst (AreApart (region_at a.dim a.node.0)) (sym (b.named ∙ ap (λ n. region_at n b.node.0) (sym dims)))
    ((AreApart-paths a.dim a.node.0 b.node.0 (region_at a.dim a.node.0) (region_at a.dim b.node.0)
    (region_named a.dim a.node.0 (a.positive, a.in_cube))
    (region_named a.dim b.node.0 (b.positive, subst (λ n. b.node.0 < 2 ^ (n + 1)) (sym dims) b.in_cube))).1 (off a.node.0 b.node.0 a.holds.phase_is b.holds.phase_is)))
  where
    dims : a.dim ≡ b.dim
    dims = same_dim a.dim b.dim a.seat.table_id.words a.words (ap (λ (id : TableId). id.words) same ∙ b.words)
