-- What a worker or a producer found last.
use Rattle.std.specs.Prelude.{◌≡◌, ◌++◌, [], ◌∷◌, List, Option, Some, None}
use Rattle.job_types.specs.Job.{JobData}
use Rattle.job_queue.specs.declared.record.PassRecord.{PassRecord}
use Rattle.job_queue.specs.declared.record.Reading.{Reading}
use Rattle.job_queue.specs.Record.{Seals}

-- The element is the last one in the list.
abbrev pub EndsWith : {A : Type 0} → List A → A → Type 0
EndsWith {A} xs x = (before : List A) × (xs ≡ before ++ x ∷ [])

-- Between two records of a pass, the pass took no job. It read once, and found the queue closed and
-- every entry settled.
pub record FindsTheEnd (before after : PassRecord) : Type 0 where
  pub none_taken : after.taken ≡ before.taken
  pub seal : (r : Reading) × (after.readings ≡ before.readings ++ r ∷ []) × Seals r

-- The job that came back, if one did.
abbrev pub given_back : Option JobData → List JobData
given_back (Some job) = job ∷ []
given_back None = []
