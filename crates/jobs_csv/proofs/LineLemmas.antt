-- Records that are no lines of a schedule.
use Rattle.std.proofs.Common.{◌≡◌, ◌≢◌, ℕ, List, [], ◌∷◌, length, Err, refl}
use Rattle.jobs_csv.specs.declared.fault.FaultKind.TheVariants as what
use Rattle.jobs_csv.specs.Schedule.{schedule_line}

pub no_line : (fields : List (List ℕ)) → length fields ≢ 3 → schedule_line fields ≡ Err what.Fields
unfolding schedule_line
no_line [] d = refl
no_line (f0 ∷ []) d = refl
no_line (f0 ∷ f1 ∷ []) d = refl
no_line (f0 ∷ f1 ∷ f2 ∷ []) d = absurd (d refl)
no_line (f0 ∷ f1 ∷ f2 ∷ f3 ∷ rest) d = refl
