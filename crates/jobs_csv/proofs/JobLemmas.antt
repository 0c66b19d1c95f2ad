-- Records of five fields, and others that are no jobs.
use Rattle.std.proofs.Common.{◌≡◌, ◌≢◌, ℕ, List, [], ◌∷◌, length, Some, Err, refl, arith}
use Rattle.csv.specs.Records.{field_at}
use Rattle.jobs_csv.specs.declared.fault.FaultKind.TheVariants as what
use Rattle.jobs_csv.specs.Jobs.{job_of}

-- a record of five fields is the list of these
pub five : (fields : List (List ℕ)) (a b c d e : List ℕ)
    → length fields ≡ 5
    → field_at fields 0 ≡ Some a
    → field_at fields 1 ≡ Some b
    → field_at fields 2 ≡ Some c
    → field_at fields 3 ≡ Some d
    → field_at fields 4 ≡ Some e
    → fields ≡ a ∷ b ∷ c ∷ d ∷ e ∷ []
unfolding field_at
five [] a b c d e n p0 p1 p2 p3 p4 = absurd (omega arith)
five (f0 ∷ []) a b c d e n p0 p1 p2 p3 p4 = absurd (omega arith)
five (f0 ∷ f1 ∷ []) a b c d e n p0 p1 p2 p3 p4 = absurd (omega arith)
five (f0 ∷ f1 ∷ f2 ∷ []) a b c d e n p0 p1 p2 p3 p4 = absurd (omega arith)
five (f0 ∷ f1 ∷ f2 ∷ f3 ∷ []) a b c d e n p0 p1 p2 p3 p4 = absurd (omega arith)
five (f0 ∷ f1 ∷ f2 ∷ f3 ∷ f4 ∷ []) a b c d e n p0 p1 p2 p3 p4 = cc
five (f0 ∷ f1 ∷ f2 ∷ f3 ∷ f4 ∷ f5 ∷ rest) a b c d e n p0 p1 p2 p3 p4 = absurd (omega arith)

-- any other record has no job
pub no_job : (machine : ℕ) (fields : List (List ℕ))
    → length fields ≢ 5
    → job_of machine fields ≡ Err what.Fields
unfolding job_of
no_job machine [] n = refl
no_job machine (f0 ∷ []) n = refl
no_job machine (f0 ∷ f1 ∷ []) n = refl
no_job machine (f0 ∷ f1 ∷ f2 ∷ []) n = refl
no_job machine (f0 ∷ f1 ∷ f2 ∷ f3 ∷ []) n = refl
no_job machine (f0 ∷ f1 ∷ f2 ∷ f3 ∷ f4 ∷ []) n = absurd (n refl)
no_job machine (f0 ∷ f1 ∷ f2 ∷ f3 ∷ f4 ∷ f5 ∷ rest) n = refl
