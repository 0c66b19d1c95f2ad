-- The planner of an open handle.
use Rattle.std.proofs.Common.{◌≡◌, ℕ, Option, Some, None, IsSome, IsTrue, false, true≢false, refl, sym, ◌∙◌, ap, subst}
use Rattle.std.specs.Prelude.{◌↔◌}
use Rattle.std.proofs.Props.{props}
use Rattle.sched_core.specs.declared.scheduler.Core.{Core}
use Rattle.cubejobs_plan.specs.declared.codes.TheConstants.{OPEN}
use Rattle.cubejobs_plan.specs.declared.handle.Handle.{Handle}
use Rattle.cubejobs_plan.specs.declared.opaque_ptr.OpaquePtr.{OpaquePtr}
use Rattle.cubejobs_plan.specs.declared.planner.Planner.{Planner}
use Rattle.cubejobs_plan.specs.CoreIn.{core_in, is_open_tag}
use Rattle.cubejobs_plan.specs.InnerLending.{with_content}

pub placed : (o : Option Planner) → IsSome (core_in o) → (x : Planner) × (o ≡ Some x)
placed None is = absurd (true≢false (sym is))
placed (Some x) is = (x, refl)

abbrev Opens : ℕ → OpaquePtr → Type 0
Opens tag at = IsTrue (is_open_tag tag) ↔ IsSome (core_in at.content)

abbrev Owns : ℕ → OpaquePtr → Type 0
Owns tag at = tag ≡ OPEN → at.lent ≡ false

opens_once : (tag : ℕ) (at : OpaquePtr) → IsProp (Opens tag at)
opens_once tag at = Prim.hlevel props

owns_once : (tag : ℕ) (at : OpaquePtr) → IsProp (Owns tag at)
owns_once tag at = Prim.hlevel props

-- a handle is its tag and its pointer
same_handle : (tag : ℕ) (a b : OpaquePtr) → a ≡ b → (o : Opens tag a) (w : Owns tag a) (o' : Opens tag b) (w' : Owns tag b)
    → ◌≡◌ {A = Handle} (record { tag = tag; at = a; «open» = o; own = w }) (record { tag = tag; at = b; «open» = o'; own = w' })
same_handle tag a b same =
    subst (λ (p : OpaquePtr). (o : Opens tag a) (w : Owns tag a) (o' : Opens tag p) (w' : Owns tag p)
    → ◌≡◌ {A = Handle} (record { tag = tag; at = a; «open» = o; own = w }) (record { tag = tag; at = p; «open» = o'; own = w' })) same
    (λ o w o' w'. λ i. record { tag = tag; at = a; «open» = opens_once tag a o o' i; own = owns_once tag a w w' i })

-- a scheduler that is as it was is in the same handle
pub kept : (h : Handle) (inside : Planner) (core : Core) (o : IsTrue (is_open_tag h.tag) ↔ IsSome (Some core)) (w : h.tag ≡ OPEN → h.at.lent ≡ false)
    → h.at.content ≡ Some inside → core ≡ inside.scheduler
    → ◌≡◌ {A = Handle} (record { tag = h.tag; at = with_content h.at (record { scheduler = core }); «open» = o; own = w }) h
kept h inside core o w is same =
    let at : with_content h.at (record { scheduler = core }) ≡ h.at = ap (λ (x : Option Planner). record h.at { content = x }) (ap (λ (s : Core). Some (record { scheduler = s })) same ∙ sym is) in
    same_handle h.tag _ h.at at o w (h.«open») (h.own)
