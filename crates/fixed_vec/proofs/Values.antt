-- The machine values of a chunk, and a parameter of a walk. Assumes `Logic`.
use Rattle.std.proofs.Common.{◌≡◌, ℕ, zero, suc, ◌^◌, ◌<◌, List, [], ◌∷◌, ◌++◌, refl, ◌∙◌, lit<, w64}
use seplogic.Ra.Ura.{Ura}
use mir.Syntax.{ty_ptr}
use mir.Val.{Val, vint, vstruct, vcons, vnil, of_list}
use base.Logic.{ent, emp}
use base.Fml.{Fml}
use types.Logic.{Logic, sem}
use denote.RattleType.{RattleType}
use denote.Builtin.{usize, unit}
use denote.RawPtr.{Ptr, RawPtr, block_ptr, null_ptr, ptr_val}
use denote.Shadow.{shadow, makes_shadow}
use denote.Signature.{Slot, plain}
use denote.Struct.Struct.{Struct}
use Rattle.core.proofs.cell.Inside.{Good}

-- a struct by its fields alone: what it owns does not read its name
abbrev pub plainly : List RattleType → RattleType
plainly Rs = Struct (record { name = []; args = []; types = []; fields = Rs })

pub ptr_typed : (p : Ptr) → Good ty_ptr (ptr_val p)
ptr_typed (block_ptr b o) = (tt, tt)
ptr_typed null_ptr = (tt, record { fits = lit< tt })

-- a pointer and a count
abbrev pub sized_val : Ptr → ℕ → Val
sized_val p0 n1 = vstruct (vcons (ptr_val p0) (vcons (vint w64 n1) vnil))

abbrev pub sized_own : Ptr → ℕ → List Val → Fml
sized_own p0 n1 = (plainly (RawPtr ∷ usize ∷ [])).own_val (p0, (n1, tt))

pub sized_told : (p0 : Ptr) (n1 : ℕ) (vs : List Val) → shadow (sized_own p0 n1 vs) → (vs ≡ sized_val p0 n1 ∷ []) × (n1 < 2 ^ 64)
sized_told p0 n1 vs s = (s.1.0 ∙ (λ i. vstruct (of_list (s.1.1.0 i ++ (s.1.1.1.0.0 i ++ []))) ∷ []), s.1.1.1.0.1)

pub sized_made : {M : Type 1} {𝓤 : Ura M} (𝓛 : Logic 𝓤) (p0 : Ptr) (n1 : ℕ) → (n1 < 2 ^ 64) → ent 𝓤 (emp 𝓤) (sem 𝓛 (sized_own p0 n1 (sized_val p0 n1 ∷ [])))
sized_made 𝓛 p0 n1 f = makes_shadow 𝓛 (sized_own p0 n1 (sized_val p0 n1 ∷ [])) (λ _. (tt, (tt, ((tt, tt), tt)))) ((ptr_val p0 ∷ [], (vint w64 n1 ∷ [], tt)), (refl, (refl, ((refl, f), tt))))

-- the parameter at an index
abbrev pub slot_at : {n : ℕ} → ℕ → List (Slot n) → Slot n
slot_at k [] = plain (λ _. unit)
slot_at zero (s ∷ ss) = s
slot_at (suc k) (s ∷ ss) = slot_at k ss
