-- The jobs that entries brought in, as entries follow each other.
use Rattle.std.proofs.Common.{◌≡◌, ℕ, suc, ◌≤◌, Option, Some, None, List, [], ◌∷◌, ◌++◌, length, refl, ap, ◌∙◌, arith}
use Rattle.job_queue.specs.declared.record.QueuedJob.{QueuedJob}
use Rattle.job_queue.specs.declared.record.Entry.{Entry}
use Rattle.job_queue.specs.Record.{entry, accepted_with, accepted}

pub accepted-append : (xs ys : List Entry) → accepted (xs ++ ys) ≡ accepted xs ++ accepted ys
accepted-append [] ys = refl
accepted-append (x ∷ xs) ys = ap (accepted_with x.job) (accepted-append xs ys) ∙ accepted_with-append x.job (accepted xs) (accepted ys)
  where
    accepted_with-append : (o : Option QueuedJob) (ps qs : List QueuedJob)
        → accepted_with o (ps ++ qs) ≡ accepted_with o ps ++ qs
    accepted_with-append (Some job) ps qs = refl
    accepted_with-append None ps qs = refl

pub accepted-push : (xs : List Entry) (number : ℕ) (job : QueuedJob)
    → accepted (xs ++ entry number (Some job) ∷ []) ≡ accepted xs ++ job ∷ []
accepted-push xs number job = accepted-append xs (entry number (Some job) ∷ [])

pub accepted-full : (xs : List Entry) (number : ℕ)
    → accepted (xs ++ entry number None ∷ []) ≡ accepted xs
accepted-full xs number = accepted-append xs (entry number None ∷ []) ∙ append-nil (accepted xs)
  where
    append-nil : (ps : List QueuedJob) → ps ++ [] ≡ ps
    append-nil [] = refl
    append-nil (p ∷ ps) = ap (λ t. p ∷ t) (append-nil ps)

pub accepted-length : (xs : List Entry) → length (accepted xs) ≤ length xs
accepted-length [] = omega arith
accepted-length (x ∷ xs) = with_job x.job (accepted xs) (accepted-length xs)
  where
    with_job : {n : ℕ} (o : Option QueuedJob) (ps : List QueuedJob)
        → length ps ≤ n
        → length (accepted_with o ps) ≤ suc n
    with_job (Some job) ps le = omega arith
    with_job None ps le = omega arith
