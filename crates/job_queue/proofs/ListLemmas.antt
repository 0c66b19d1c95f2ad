-- Histories of a queue: entries whose jobs come in, and jobs that come out at the end.
use Rattle.std.proofs.Common.{◌≡◌, ℕ, ◌+◌, ◌<◌, ◌⊎◌, inl, inr, cond, eqb, eq-eqb, ne_eqb, Option, Some, None, List, [], ◌∷◌, ◌++◌, append_assoc, sym, refl, ap, ◌∙◌, arith}
use Rattle.std.proofs.lemmas.List.{append-nil}
use Rattle.std.specs.List.{AllByRecursion}
use Rattle.ghost_history.specs.History.{Legal}
use Rattle.ghost_history.proofs.ViewLemmas.{all_append}
use Rattle.job_queue.specs.declared.record.QueuedJob.{QueuedJob}
use Rattle.job_queue.specs.declared.record.Entry.{Entry}
use Rattle.job_queue.specs.Record.{entry, Ascend}
use Rattle.ghost_history.specs.Lists.{rest_of}
use Rattle.job_queue.specs.History.{Deed, comes_out, closed_at, waiting, with_job, entries_by, taken_in, left_in, AwaitsJob, May}

-- ---- entries

-- Entries that have no job yet.
abbrev pub unfilled : List ℕ → List Entry
unfilled [] = []
unfilled (n ∷ ns) = entry n None ∷ unfilled ns

pub unfilled-push : (ns : List ℕ) (n : ℕ)
    → unfilled (ns ++ n ∷ []) ≡ unfilled ns ++ entry n None ∷ []
unfilled-push [] n = refl
unfilled-push (m ∷ ns) n = ap (λ (es : List Entry). entry m None ∷ es) (unfilled-push ns n)

pub none_has : (ns : List ℕ) → AllByRecursion (λ (e : Entry). e.job ≡ None) (unfilled ns)
none_has [] = tt
none_has (n ∷ ns) = (refl, none_has ns)

-- The last entry gets its job.
pub fill_last : (n : ℕ) (job : QueuedJob) (es : List Entry)
    → AllByRecursion (λ (e : Entry). e.number < n) es
    → with_job n job (es ++ entry n None ∷ []) ≡ es ++ entry n (Some job) ∷ []
fill_last n job [] low = ap (λ b. cond b (entry n (Some job) ∷ []) (entry n None ∷ [])) (eq-eqb n n refl)
fill_last n job (e ∷ es) low =
    ap (λ b. cond b (entry n (Some job) ∷ (es ++ entry n None ∷ [])) (e ∷ with_job n job (es ++ entry n None ∷ []))) (ne_eqb e.number n (λ same. omega (arith, same, low.0)))
    ∙ ap (λ (xs : List Entry). e ∷ xs) (fill_last n job es low.1)

pub awaits_last : (n : ℕ) (es : List Entry) → AwaitsJob n (es ++ entry n None ∷ [])
awaits_last n [] = inl (refl, tt)
awaits_last n (e ∷ es) = inr (awaits_last n es)

-- ---- numbers that rise

pub ascend-push : (ns : List ℕ) (n : ℕ)
    → Ascend ns
    → AllByRecursion (λ m. m < n) ns
    → Ascend (ns ++ n ∷ [])
ascend-push [] n up low = (tt, tt)
ascend-push (m ∷ ns) n up low = (all_append (λ k. m < k) ns (n ∷ []) up.0 (low.0, tt), ascend-push ns n up.1 low.1)

-- ---- all that waits comes out

abbrev pub drain_all : List QueuedJob → List Deed → List Deed
drain_all [] h = h
drain_all (job ∷ jobs) h = drain_all jobs (comes_out job ∷ h)

pub drained_legal : (lanes passes : ℕ) (jobs : List QueuedJob) (h : List Deed)
    → waiting h ≡ jobs
    → Legal (May lanes passes) h
    → Legal (May lanes passes) (drain_all jobs h)
drained_legal lanes passes [] h waits legal = legal
drained_legal lanes passes (job ∷ jobs) h waits legal =
    let left : rest_of (waiting h) ≡ jobs = ap rest_of waits in
    drained_legal lanes passes jobs (comes_out job ∷ h) left (waits ∙ ap (λ (js : List QueuedJob). job ∷ js) (sym left), legal)

pub drained_waiting : (jobs : List QueuedJob) (h : List Deed)
    → waiting h ≡ jobs
    → waiting (drain_all jobs h) ≡ []
drained_waiting [] h waits = waits
drained_waiting (job ∷ jobs) h waits = drained_waiting jobs (comes_out job ∷ h) (ap rest_of waits)

pub drained_left : (jobs : List QueuedJob) (h : List Deed)
    → left_in (drain_all jobs h) ≡ left_in h ++ jobs
drained_left [] h = sym (append-nil (left_in h))
drained_left (job ∷ jobs) h = drained_left jobs (comes_out job ∷ h) ∙ append_assoc (left_in h) (job ∷ []) jobs

pub drained_closed : (jobs : List QueuedJob) (h : List Deed)
    → closed_at (drain_all jobs h) ≡ closed_at h
drained_closed [] h = refl
drained_closed (job ∷ jobs) h = drained_closed jobs (comes_out job ∷ h)

pub drained_entries : (jobs : List QueuedJob) (h : List Deed) (k : ℕ)
    → entries_by (drain_all jobs h) k ≡ entries_by h k
drained_entries [] h k = refl
drained_entries (job ∷ jobs) h k = drained_entries jobs (comes_out job ∷ h) k

pub drained_taken : (jobs : List QueuedJob) (h : List Deed) (k : ℕ)
    → taken_in (drain_all jobs h) k ≡ taken_in h k
drained_taken [] h k = refl
drained_taken (job ∷ jobs) h k = drained_taken jobs (comes_out job ∷ h) k
