-- A call leaves a state that is shown.
use Rattle.std.proofs.Common.{◌≡◌, ℕ, Bool, true, false, Option, Some, None, refl, sym, subst}
use Rattle.std.specs.Prelude.{◌↔◌, IsTrue, IsFalse, IfSome, IfNone}
use Rattle.sched_law.specs.State.{Sched}
use Rattle.sched_core.specs.declared.scheduler.Core.{Core}
use Rattle.sched_core.specs.Shows.{ShowsCore}

-- a call that may be refused
pub kept_by : (b : Bool) (w v : Sched) (old new : Core) (P : Type 0) → IsTrue b ↔ P → (P → ShowsCore v new) → (IsFalse b → new ≡ old) → ShowsCore w old
    → (x : Sched) × ShowsCore x new
kept_by true w v old new P may shows unchanged k = (v, shows (may.0 refl))
kept_by false w v old new P may shows unchanged k = (w, subst (ShowsCore w) (sym (unchanged refl)) k)

-- a job that may be refused
pub kept_if : (o : Option ℕ) (w v : Sched) (old new : Core) → IfNone o (new ≡ old) → IfSome o (λ slot. ShowsCore v new) → ShowsCore w old → (x : Sched) × ShowsCore x new
kept_if None w v old new unchanged shows k = (w, subst (ShowsCore w) (sym unchanged) k)
kept_if (Some slot) w v old new unchanged shows k = (v, shows)
