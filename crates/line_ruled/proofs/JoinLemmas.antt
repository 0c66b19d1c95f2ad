-- The records of a lane at the gate and in the ring, joined.
use Rattle.std.proofs.Common.{◌≡◌, ℕ, suc, ◌+◌, ◌<◌, ◌≤◌, Bool, true, false, Some, None, Result, Ok, Err, List, [], ◌∷◌, ◌++◌, length, length-append, sym, refl, ap, ◌∙◌, subst, arith}
use Rattle.std.proofs.lemmas.List.{append-nil}
use Rattle.std.specs.List.{AllByRecursion}
use Rattle.ghost_history.specs.Sums.{total}
use Rattle.cube_shape.specs.declared.limits.TheConstants.{MAX_ENTRIES}
use Rattle.line_gate.specs.declared.record.SettledEntry.{SettledEntry}
use Rattle.line_gate.specs.declared.record.LaneEntries.{LaneEntries}
use Rattle.line_gate.specs.declared.record.PassReadings.{PassReadings}
use Rattle.line_gate.specs.Record.{entry as settled_entry, fresh_lane as fresh_gate_lane, fresh_pass as fresh_gate_pass, after_enter, after_settle}
use Rattle.line_ring.specs.declared.record.PassRecord.{PassRecord as RingPassRecord}
use Rattle.line_ring.specs.Record.{fresh_lane as fresh_ring_lane, fresh_pass as fresh_ring_pass}
use Rattle.line_ring.specs.declared.record.LaneRecord.{LaneRecord as RingLaneRecord}
use Rattle.job_types.specs.Job.{JobData}
use Rattle.job_queue.specs.declared.job_line.Receipt.{Receipt}
use Rattle.job_queue.specs.declared.record.QueuedJob.{QueuedJob}
use Rattle.job_queue.specs.declared.record.Entry.{Entry}
use Rattle.job_queue.specs.Record.{entry, queued, fresh_lane, fresh_pass, accepted}
use Rattle.job_queue.specs.Line.{GainsEntry}
use Rattle.line_ruled.specs.Inner.Join.{one_if, accepted_count, job_of_entry, jobs_after, with_jobs, joined_lane, joined_pass, IsJoined, Puts}

-- ---- entries with their jobs

pub length-with_jobs : (es : List SettledEntry) (jobs : List QueuedJob)
    → length (with_jobs es jobs) ≡ length es
length-with_jobs [] jobs = refl
length-with_jobs (e ∷ es) jobs = ap suc (length-with_jobs es (jobs_after e.accepted jobs))

pub accepted_count-length : (es : List SettledEntry) → accepted_count es ≤ length es
accepted_count-length [] = omega arith
accepted_count-length (e ∷ es) = omega (arith, at_most e.accepted, accepted_count-length es)
  where
    at_most : (b : Bool) → one_if b ≤ 1
    at_most true = omega arith
    at_most false = omega arith

accepted_count-push : (es : List SettledEntry) (e : SettledEntry)
    → accepted_count (es ++ e ∷ []) ≡ accepted_count es + one_if e.accepted
accepted_count-push [] e = omega arith
accepted_count-push (x ∷ es) e = omega (arith, accepted_count-push es e)

-- The jobs of the accepted entries are those that the ring took.
pub accepted-with_jobs : (es : List SettledEntry) (jobs : List QueuedJob)
    → accepted_count es ≡ length jobs
    → accepted (with_jobs es jobs) ≡ jobs
accepted-with_jobs [] [] same = refl
accepted-with_jobs [] (job ∷ jobs) same = absurd (omega (arith, same))
accepted-with_jobs (e ∷ es) jobs same = first e.accepted e.number es jobs (accepted-with_jobs es) same
  where
    first : (b : Bool) (n : ℕ) (es : List SettledEntry) (jobs : List QueuedJob)
        → ((js : List QueuedJob) → accepted_count es ≡ length js → accepted (with_jobs es js) ≡ js)
        → one_if b + accepted_count es ≡ length jobs
        → accepted (entry n (job_of_entry b jobs) ∷ with_jobs es (jobs_after b jobs)) ≡ jobs
    first true n es (job ∷ jobs) later same = ap (λ (js : List QueuedJob). job ∷ js) (later jobs (omega (arith, same)))
    first true n es [] later same = absurd (omega (arith, same))
    first false n es jobs later same = later jobs (omega (arith, same))

-- One more entry, with the jobs that come then.
with_jobs-push : (es : List SettledEntry) (jobs more : List QueuedJob) (x : SettledEntry)
    → accepted_count es ≡ length jobs
    → with_jobs (es ++ x ∷ []) (jobs ++ more) ≡ with_jobs es jobs
    ++ entry x.number (job_of_entry x.accepted more) ∷ []
with_jobs-push [] [] more x same = refl
with_jobs-push [] (job ∷ jobs) more x same = absurd (omega (arith, same))
with_jobs-push (e ∷ es) jobs more x same = first e.accepted e.number es jobs more x (λ js. with_jobs-push es js more x) same
  where
    first : (b : Bool) (n : ℕ) (es : List SettledEntry) (jobs more : List QueuedJob)
        (x : SettledEntry)
        → ((js : List QueuedJob) → accepted_count es ≡ length js
        → with_jobs (es ++ x ∷ []) (js ++ more) ≡ with_jobs es js
        ++ entry x.number (job_of_entry x.accepted more) ∷ [])
        → one_if b + accepted_count es ≡ length jobs
        → ◌≡◌ {A = List Entry} (entry n (job_of_entry b (jobs ++ more)) ∷ with_jobs (es ++ x ∷ [])
        (jobs_after b (jobs ++ more))) (entry n (job_of_entry b jobs)
        ∷ (with_jobs es (jobs_after b jobs)
        ++ entry x.number (job_of_entry x.accepted more) ∷ []))
    first true n es (job ∷ jobs) more x later same = ap (λ (ys : List Entry). entry n (Some job) ∷ ys) (later jobs (omega (arith, same)))
    first true n es [] more x later same = absurd (omega (arith, same))
    first false n es jobs more x later same = ap (λ (ys : List Entry). entry n None ∷ ys) (later jobs (omega (arith, same)))

pub total-with_jobs : (weight : ℕ → ℕ) (es : List SettledEntry) (jobs : List QueuedJob)
    → total (λ (x : Entry). weight x.number) (with_jobs es jobs)
    ≡ total (λ (e : SettledEntry). weight e.number) es
total-with_jobs weight [] jobs = refl
total-with_jobs weight (e ∷ es) jobs = omega (arith, total-with_jobs weight es (jobs_after e.accepted jobs))

pub each-with_jobs : (P : ℕ → Type 0) (es : List SettledEntry) (jobs : List QueuedJob)
    → AllByRecursion (λ (e : SettledEntry). P e.number) es
    → AllByRecursion (λ (x : Entry). P x.number) (with_jobs es jobs)
each-with_jobs P [] jobs all = tt
each-with_jobs P (e ∷ es) jobs all = (all.0, each-with_jobs P es (jobs_after e.accepted jobs) all.1)

-- ---- what a put does to the joined record

module _ (g : LaneEntries) (r : RingLaneRecord QueuedJob) (count : ℕ)
    (joined : IsJoined g r count) where
  pub joined_accepted : accepted (with_jobs g.entries r.accepted) ≡ r.accepted
  joined_accepted = accepted-with_jobs g.entries r.accepted joined.paired

  pub joined_length : length (with_jobs g.entries r.accepted) ≡ count
  joined_length = length-with_jobs g.entries r.accepted ∙ joined.counted

  -- The ring has taken at most as many jobs as the lane has made entries.
  pub joined_few : length r.accepted ≤ count
  joined_few = omega (arith, joined.paired, joined.counted, accepted_count-length g.entries)

  pub gains_job : (number : ℕ) (job : QueuedJob)
      → GainsEntry (joined_lane g r) number (Some job)
      (joined_lane (after_settle number true (after_enter number g))
      (record r { accepted = r.accepted ++ job ∷ [] }))
  gains_job number job =
      let entries = with_jobs-push g.entries r.accepted (job ∷ []) (settled_entry number true) joined.paired in
      λ i. record { number = r.number; entries = entries i; pending = sym joined.settled.0 i; late = g.late; seen = g.seen }

  pub gains_none : (number : ℕ)
      → GainsEntry (joined_lane g r) number None
      (joined_lane (after_settle number false (after_enter number g)) r)
  gains_none number =
      let as_long = ap (λ (js : List QueuedJob). with_jobs (g.entries ++ settled_entry number false ∷ []) js) (sym (append-nil r.accepted)) in
      let entries = as_long ∙ with_jobs-push g.entries r.accepted [] (settled_entry number false) joined.paired in
      λ i. record { number = r.number; entries = entries i; pending = sym joined.settled.0 i; late = g.late; seen = g.seen }

  pub joined_put : (number : ℕ) (job : JobData) (result : Result Receipt JobData)
      (g1 g' : LaneEntries) (r' : RingLaneRecord QueuedJob)
      → count < MAX_ENTRIES
      → g1 ≡ after_enter number g
      → Puts number job g1 r result g' r'
      → IsJoined g' r' (count + 1)
  joined_put number job (Ok receipt) g1 g' r' unspent pending puts =
      let at_gate : g' ≡ after_settle number true (after_enter number g) = puts.2 ∙ ap (after_settle number true) pending in
      subst (λ (z : LaneEntries). IsJoined z r' (count + 1)) (sym at_gate) (subst (λ (z : RingLaneRecord QueuedJob). IsJoined (after_settle number true (after_enter number g)) z (count + 1)) (sym puts.3)
      record {
        numbered = joined.numbered;
        paired = omega (arith, accepted_count-push g.entries (settled_entry number true), joined.paired, length-append r.accepted (queued receipt.id job ∷ []));
        settled = (refl, joined.settled.1);
        counted = omega (arith, length-append g.entries (settled_entry number true ∷ []), joined.counted);
        few = omega arith;
      })
  joined_put number job (Err back) g1 g' r' unspent pending puts =
      let at_gate : g' ≡ after_settle number false (after_enter number g) = puts.1 ∙ ap (after_settle number false) pending in
      subst (λ (z : LaneEntries). IsJoined z r' (count + 1)) (sym at_gate) (subst (λ (z : RingLaneRecord QueuedJob). IsJoined (after_settle number false (after_enter number g)) z (count + 1)) (sym puts.2)
      record {
        numbered = joined.numbered;
        paired = omega (arith, accepted_count-push g.entries (settled_entry number false), joined.paired);
        settled = (refl, joined.settled.1);
        counted = omega (arith, length-append g.entries (settled_entry number false ∷ []), joined.counted);
        few = omega arith;
      })

-- The fields of a ring's record make it up.
pub ring_record_of : (r r' : RingLaneRecord QueuedJob) (jobs : List QueuedJob)
    → r'.number ≡ r.number
    → r'.accepted ≡ jobs
    → r' ≡ record r { accepted = jobs }
ring_record_of r r' jobs number accepted = λ i. record { number = number i; accepted = accepted i }

-- ---- what a call of submit gains

module _ (g : LaneEntries) (r : RingLaneRecord QueuedJob) (count : ℕ) (joined : IsJoined g r count)
    (number : ℕ) (job : JobData) (g1 g' : LaneEntries) (r' : RingLaneRecord QueuedJob)
    (pending : g1 ≡ after_enter number g) where
  pub put_gains_job : (receipt : Receipt)
      → Puts number job g1 r (Ok receipt) g' r'
      → GainsEntry (joined_lane g r) receipt.number (Some (queued receipt.id job))
      (joined_lane g' r')
  put_gains_job receipt puts =
      let P : ℕ → LaneEntries → RingLaneRecord QueuedJob → Type 0 = λ n z y. GainsEntry (joined_lane g r) n (Some (queued receipt.id job)) (joined_lane z y) in
      let at_gate : g' ≡ after_settle number true (after_enter number g) = puts.2 ∙ ap (after_settle number true) pending in
      let in_ring = record r { accepted = r.accepted ++ queued receipt.id job ∷ [] } in
      subst (λ n. P n g' r') (sym puts.0) (subst (λ z. P number z r') (sym at_gate) (subst (λ y. P number (after_settle number true (after_enter number g)) y) (sym puts.3) (gains_job g r count joined number (queued receipt.id job))))

  pub put_gains_none : (back : JobData)
      → Puts number job g1 r (Err back) g' r'
      → GainsEntry (joined_lane g r) number None (joined_lane g' r')
  put_gains_none back puts =
      let at_gate : g' ≡ after_settle number false (after_enter number g) = puts.1 ∙ ap (after_settle number false) pending in
      subst (λ z. GainsEntry (joined_lane g r) number None (joined_lane z r')) (sym at_gate) (subst (λ y. GainsEntry (joined_lane g r) number None (joined_lane (after_settle number false (after_enter number g)) y)) (sym puts.2) (gains_none g r count joined number))

-- ---- new lanes

-- The records of a lane that has done nothing are joined.
pub fresh_joined : (number : ℕ) (g : LaneEntries) (r : RingLaneRecord QueuedJob)
    → g ≡ fresh_gate_lane number
    → r ≡ fresh_ring_lane number
    → IsJoined g r 0
fresh_joined number g r at_gate in_ring = subst (λ (z : LaneEntries). IsJoined z r 0) (sym at_gate) (subst (λ (y : RingLaneRecord QueuedJob). IsJoined (fresh_gate_lane number) y 0) (sym in_ring)
    record { numbered = refl; paired = refl; settled = (refl, refl); counted = refl; few = omega arith })

pub fresh_joined_lane : (number : ℕ) (g : LaneEntries) (r : RingLaneRecord QueuedJob)
    → g ≡ fresh_gate_lane number
    → r ≡ fresh_ring_lane number
    → joined_lane g r ≡ fresh_lane number
fresh_joined_lane number g r at_gate in_ring = ap (λ (z : LaneEntries). joined_lane z r) at_gate ∙ ap (joined_lane (fresh_gate_lane number)) in_ring

pub fresh_joined_pass : (number : ℕ) (g : PassReadings) (r : RingPassRecord QueuedJob)
    → g ≡ fresh_gate_pass number
    → r ≡ fresh_ring_pass number
    → joined_pass g r ≡ fresh_pass number
fresh_joined_pass number g r at_gate in_ring = ap (λ (z : PassReadings). joined_pass z r) at_gate ∙ ap (joined_pass (fresh_gate_pass number)) in_ring
