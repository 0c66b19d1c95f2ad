-- Records that are no commands.
use Rattle.std.proofs.Common.{◌≡◌, ◌≢◌, ℕ, List, [], ◌∷◌, length, Err, refl}
use Rattle.jobs_csv.specs.declared.fault.FaultKind.TheVariants as what
use Rattle.jobs_csv.specs.Place.{command_of}

pub no_command : (n : ℕ) (fields : List (List ℕ))
    → length fields ≢ 3
    → command_of n fields ≡ Err what.Fields
unfolding command_of
no_command n [] d = refl
no_command n (f0 ∷ []) d = refl
no_command n (f0 ∷ f1 ∷ []) d = refl
no_command n (f0 ∷ f1 ∷ f2 ∷ []) d = absurd (d refl)
no_command n (f0 ∷ f1 ∷ f2 ∷ f3 ∷ rest) d = refl
