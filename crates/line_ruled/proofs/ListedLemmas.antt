-- The histories of a gate and of a ring, joined to one history of the queue. All entries and the
-- close come first, and then all steps of the ring.
use Rattle.std.proofs.Common.{◌≡◌, ◌≢◌, ℕ, ◌+◌, ◌<◌, ◌≤◌, inl, inr, Bool, true, false, cond, eqb, eq-eqb, ne_eqb, Some, None, List, [], ◌∷◌, ◌++◌, map, length, length-append, sym, refl, ap, ◌∙◌, subst, arith}
use Rattle.std.specs.List.{AllByRecursion}
use mathlib.Core.Logic.{dite}
use native.Mathlib.Decide.{ℕ_discrete, dec_le}
use Rattle.ghost_history.specs.History.{Legal}
use Rattle.ghost_history.proofs.ViewLemmas.{all_weaker, all_append}
use Rattle.line_gate.specs.declared.record.SettledEntry.{SettledEntry}
use Rattle.line_gate.specs.History.{Entering, makes, shuts, made, shut_at, numbers_by, AreEntries}
use Rattle.line_ring.specs.declared.record.LaneRecord.{LaneRecord as RingLaneRecord}
use Rattle.line_ring.specs.declared.record.PassRecord.{PassRecord as RingPassRecord}
use Rattle.line_ring.specs.History.{Deed as RingDeed, accepts, takes_piece, drains, waiting as ring_waiting, lane_part, pass_part, rest_part, IsLegal}
use Rattle.line_ring.proofs.HistoryLemmas.{lane_own, lane_other, pass_own, pass_other}
use Rattle.job_queue.specs.declared.record.QueuedJob.{QueuedJob}
use Rattle.job_queue.specs.declared.record.Entry.{Entry}
use Rattle.job_queue.specs.Record.{job_id, entry, accepted, Ascend}
use Rattle.ghost_history.specs.Lists.{rest_of}
use Rattle.job_queue.specs.History.{Deed, enters, accepts_job, takes_first, closes_line, comes_out, entered, closed_at, waiting, with_job, entries_by, taken_in, left_in, AwaitsJob, May}
use Rattle.line_ruled.specs.Inner.Join.{one_if, accepted_count, job_of_entry, jobs_after, with_jobs}
use Rattle.job_queue.proofs.ListLemmas.{unfilled, unfilled-push, none_has, ascend-push}

abbrev pub lane_id : QueuedJob → ℕ
lane_id q = q.id.lane

abbrev pub seq_id : QueuedJob → ℕ
seq_id q = q.id.seq

abbrev pub numbers : List SettledEntry → List ℕ
numbers es = map (λ (e : SettledEntry). e.number) es

-- ---- entries whose jobs come in one after the other

-- The number of the entry by which the next job comes.
abbrev chosen : Bool → List QueuedJob → ℕ → ℕ → ℕ
chosen true [] here later = here
chosen true (job ∷ jobs) here later = later
chosen false jobs here later = later

abbrev pub next_number : List SettledEntry → List QueuedJob → ℕ
next_number [] jobs = 0
next_number (e ∷ es) jobs = chosen e.accepted jobs e.number (next_number es (jobs_after e.accepted jobs))

-- It is the number of one of the entries.
next_is : (P : ℕ → Type 0) (es : List SettledEntry) (jobs : List QueuedJob)
    → length jobs < accepted_count es
    → AllByRecursion P (numbers es)
    → P (next_number es jobs)
next_is P [] jobs few all = absurd (omega arith)
next_is P (e ∷ es) jobs few all = first e.accepted e.number es jobs (λ js some. next_is P es js some all.1) few all.0
  where
    first : (b : Bool) (n : ℕ) (es : List SettledEntry) (jobs : List QueuedJob)
        → ((js : List QueuedJob) → length js < accepted_count es → P (next_number es js))
        → length jobs < one_if b + accepted_count es
        → P n
        → P (chosen b jobs n (next_number es (jobs_after b jobs)))
    first true n es [] later few here = here
    first true n es (job ∷ jobs) later few here = later jobs (omega arith)
    first false n es jobs later few here = later jobs (omega arith)

none_yet : (es : List SettledEntry) → with_jobs es [] ≡ unfilled (numbers es)
none_yet [] = refl
none_yet (e ∷ es) = first e.accepted e.number es (none_yet es)
  where
    first : (b : Bool) (n : ℕ) (es : List SettledEntry)
        → with_jobs es [] ≡ unfilled (numbers es)
        → entry n (job_of_entry b []) ∷ with_jobs es (jobs_after b [])
        ≡ entry n None ∷ unfilled (numbers es)
    first true n es later = ap (λ (xs : List Entry). entry n None ∷ xs) later
    first false n es later = ap (λ (xs : List Entry). entry n None ∷ xs) later

-- The next job comes in.
one_job_more : (es : List SettledEntry) (jobs : List QueuedJob) (job : QueuedJob)
    → length jobs < accepted_count es
    → Ascend (numbers es)
    → with_job (next_number es jobs) job (with_jobs es jobs) ≡ with_jobs es (jobs ++ job ∷ [])
one_job_more [] jobs job few up = absurd (omega arith)
one_job_more (e ∷ es) jobs job few up = first e.accepted e.number es jobs job (λ js some. one_job_more es js job some up.1) few up.0
  where
    first : (b : Bool) (n : ℕ) (es : List SettledEntry) (jobs : List QueuedJob) (job : QueuedJob)
        → ((js : List QueuedJob) → length js < accepted_count es
        → with_job (next_number es js) job (with_jobs es js) ≡ with_jobs es (js ++ job ∷ []))
        → length jobs < one_if b + accepted_count es
        → AllByRecursion (λ m. n < m) (numbers es)
        → with_job (chosen b jobs n (next_number es (jobs_after b jobs))) job
        (entry n (job_of_entry b jobs) ∷ with_jobs es (jobs_after b jobs))
        ≡ entry n (job_of_entry b (jobs ++ job ∷ [])) ∷ with_jobs es
        (jobs_after b (jobs ++ job ∷ []))
    first true n es [] job later few low = ap (λ b. cond b (entry n (Some job) ∷ with_jobs es []) (entry n None ∷ with_job n job (with_jobs es []))) (eq-eqb n n refl)
    first true n es (j ∷ js) job later few low =
        let m = next_number es js in
        let some : length js < accepted_count es = omega arith in
        let higher : n < m = next_is (λ (k : ℕ). n < k) es js some low in
        ap (λ b. cond b (entry m (Some job) ∷ with_jobs es js) (entry n (Some j) ∷ with_job m job (with_jobs es js))) (ne_eqb n m (λ same. omega (arith, same, higher)))
        ∙ ap (λ (xs : List Entry). entry n (Some j) ∷ xs) (later js some)
    first false n es jobs job later few low =
        let m = next_number es jobs in
        let some : length jobs < accepted_count es = omega arith in
        let higher : n < m = next_is (λ (k : ℕ). n < k) es jobs some low in
        ap (λ b. cond b (entry m (Some job) ∷ with_jobs es jobs) (entry n None ∷ with_job m job (with_jobs es jobs))) (ne_eqb n m (λ same. omega (arith, same, higher)))
        ∙ ap (λ (xs : List Entry). entry n None ∷ xs) (later jobs some)

awaits_next : (es : List SettledEntry) (jobs : List QueuedJob)
    → length jobs < accepted_count es
    → AwaitsJob (next_number es jobs) (with_jobs es jobs)
awaits_next [] jobs few = absurd (omega arith)
awaits_next (e ∷ es) jobs few = first e.accepted e.number es jobs (awaits_next es) few
  where
    first : (b : Bool) (n : ℕ) (es : List SettledEntry) (jobs : List QueuedJob)
        → ((js : List QueuedJob) → length js < accepted_count es
        → AwaitsJob (next_number es js) (with_jobs es js))
        → length jobs < one_if b + accepted_count es
        → AwaitsJob (chosen b jobs n (next_number es (jobs_after b jobs)))
        (entry n (job_of_entry b jobs) ∷ with_jobs es (jobs_after b jobs))
    first true n es [] later few = inl (refl, subst (AllByRecursion (λ (e : Entry). e.job ≡ None)) (sym (none_yet es)) (none_has (numbers es)))
    first true n es (job ∷ jobs) later few = inr (later jobs (omega arith))
    first false n es jobs later few = inr (later jobs (omega arith))

had_jobs : (es : List SettledEntry) (jobs : List QueuedJob)
    → length jobs ≤ accepted_count es
    → accepted (with_jobs es jobs) ≡ jobs
had_jobs [] [] few = refl
had_jobs [] (job ∷ jobs) few = absurd (omega arith)
had_jobs (e ∷ es) jobs few = first e.accepted e.number es jobs (had_jobs es) few
  where
    first : (b : Bool) (n : ℕ) (es : List SettledEntry) (jobs : List QueuedJob)
        → ((js : List QueuedJob) → length js ≤ accepted_count es → accepted (with_jobs es js) ≡ js)
        → length jobs ≤ one_if b + accepted_count es
        → accepted (entry n (job_of_entry b jobs) ∷ with_jobs es (jobs_after b jobs)) ≡ jobs
    first true n es [] later few = later [] (omega arith)
    first true n es (job ∷ jobs) later few = ap (λ (js : List QueuedJob). job ∷ js) (later jobs (omega arith))
    first false n es jobs later few = later jobs (omega arith)

-- ---- the entries of the gate

numbers_low : (lanes : ℕ) (g : List Entering) (k : ℕ)
    → AreEntries lanes g
    → AllByRecursion (λ n. n < made g) (numbers_by g k)
numbers_low lanes [] k legal = tt
numbers_low lanes (makes lane number ∷ g) k legal =
    let before = all_weaker (λ n. n < made g) (λ n. n < made g + 1) (λ n low. omega arith) (numbers_by g k) (numbers_low lanes g k legal.1) in
    let here : number < made g + 1 = omega (arith, legal.0.1) in
    elim (eqb lane k) as (λ b. AllByRecursion (λ n. n < made g + 1) (cond b (numbers_by g k ++ number ∷ []) (numbers_by g k))) [
      | true ↦ all_append (λ n. n < made g + 1) (numbers_by g k) (number ∷ []) before (here, tt)
      | false ↦ before
    ]
numbers_low lanes (shuts number ∷ g) k legal = numbers_low lanes g k legal.1

-- A lane's entries have rising numbers.
pub numbers_ascend : (lanes : ℕ) (g : List Entering) (k : ℕ)
    → AreEntries lanes g
    → Ascend (numbers_by g k)
numbers_ascend lanes [] k legal = tt
numbers_ascend lanes (makes lane number ∷ g) k legal =
    let before = numbers_ascend lanes g k legal.1 in
    let low = all_weaker (λ n. n < made g) (λ n. n < number) (λ n low. omega (arith, legal.0.1)) (numbers_by g k) (numbers_low lanes g k legal.1) in
    elim (eqb lane k) as (λ b. Ascend (cond b (numbers_by g k ++ number ∷ []) (numbers_by g k))) [ true ↦ ascend-push (numbers_by g k) number before low | false ↦ before ]
numbers_ascend lanes (shuts number ∷ g) k legal = numbers_ascend lanes g k legal.1

-- No lane past the last has an entry.
pub no_numbers : (lanes : ℕ) (g : List Entering) (k : ℕ)
    → AreEntries lanes g
    → lanes ≤ k
    → numbers_by g k ≡ []
no_numbers lanes [] k legal high = refl
no_numbers lanes (makes lane number ∷ g) k legal high =
    ap (λ b. cond b (numbers_by g k ++ number ∷ []) (numbers_by g k)) (ne_eqb lane k (λ same. omega (arith, same, legal.0.0))) ∙ no_numbers lanes g k legal.1 high
no_numbers lanes (shuts number ∷ g) k legal high = no_numbers lanes g k legal.1 high

abbrev entries_first : List Entering → List Deed
entries_first [] = []
entries_first (makes lane number ∷ g) = enters lane number ∷ entries_first g
entries_first (shuts number ∷ g) = closes_line number ∷ entries_first g

first_entered : (g : List Entering) → entered (entries_first g) ≡ made g
first_entered [] = refl
first_entered (makes lane number ∷ g) = ap (λ (n : ℕ). n + 1) (first_entered g)
first_entered (shuts number ∷ g) = first_entered g

first_closed : (g : List Entering) → closed_at (entries_first g) ≡ shut_at g
first_closed [] = refl
first_closed (makes lane number ∷ g) = first_closed g
first_closed (shuts number ∷ g) = refl

first_waiting : (g : List Entering) → waiting (entries_first g) ≡ []
first_waiting [] = refl
first_waiting (makes lane number ∷ g) = first_waiting g
first_waiting (shuts number ∷ g) = first_waiting g

first_left : (g : List Entering) → left_in (entries_first g) ≡ []
first_left [] = refl
first_left (makes lane number ∷ g) = first_left g
first_left (shuts number ∷ g) = first_left g

first_taken : (g : List Entering) (k : ℕ) → taken_in (entries_first g) k ≡ []
first_taken [] k = refl
first_taken (makes lane number ∷ g) k = first_taken g k
first_taken (shuts number ∷ g) k = first_taken g k

first_entries : (g : List Entering) (k : ℕ)
    → entries_by (entries_first g) k ≡ unfilled (numbers_by g k)
first_entries [] k = refl
first_entries (makes lane number ∷ g) k =
    let before = first_entries g k in
    elim (eqb lane k) as (λ b. cond b (entries_by (entries_first g) k ++ entry number None ∷ []) (entries_by (entries_first g) k) ≡ unfilled (cond b (numbers_by g k ++ number ∷ []) (numbers_by g k))) [
      | true ↦ ap (λ (es : List Entry). es ++ entry number None ∷ []) before ∙ sym (unfilled-push (numbers_by g k) number)
      | false ↦ before
    ]
first_entries (shuts number ∷ g) k = first_entries g k

first_legal : (lanes passes : ℕ) (g : List Entering)
    → AreEntries lanes g
    → Legal (May lanes passes) (entries_first g)
first_legal lanes passes [] legal = tt
first_legal lanes passes (makes lane number ∷ g) legal = ((legal.0.0, legal.0.1 ∙ sym (first_entered g), first_closed g ∙ legal.0.2), first_legal lanes passes g legal.1)
first_legal lanes passes (shuts number ∷ g) legal = ((legal.0.0 ∙ sym (first_entered g), first_closed g ∙ legal.0.1), first_legal lanes passes g legal.1)

-- ---- what the ring did

abbrev pub put_by : List (RingDeed QueuedJob) → ℕ → List QueuedJob
put_by h k = (lane_part h k).accepted

abbrev pub taken_by : List (RingDeed QueuedJob) → ℕ → List QueuedJob
taken_by h k = (pass_part h k).taken

put_own : (lane : ℕ) (job : QueuedJob) (h : List (RingDeed QueuedJob))
    → put_by (accepts lane job ∷ h) lane ≡ put_by h lane ++ job ∷ []
put_own lane job h = ap (λ (r : RingLaneRecord QueuedJob). r.accepted) (lane_own lane job h)

put_else : (lane : ℕ) (job : QueuedJob) (h : List (RingDeed QueuedJob)) (k : ℕ)
    → k ≢ lane
    → put_by (accepts lane job ∷ h) k ≡ put_by h k
put_else lane job h k other = ap (λ (r : RingLaneRecord QueuedJob). r.accepted) (lane_other lane job h k other)

module _ (lanes passes : ℕ) (g : List Entering) (es : ℕ → List SettledEntry) where
  abbrev pub listed : List (RingDeed QueuedJob) → List Deed
  listed [] = entries_first g
  listed (accepts lane job ∷ h) = accepts_job lane (next_number (es lane) (put_by h lane)) job ∷ listed h
  listed (takes_piece pass job ∷ h) = takes_first pass job ∷ listed h
  listed (drains job ∷ h) = comes_out job ∷ listed h

  pub listed_closed : (h : List (RingDeed QueuedJob)) → closed_at (listed h) ≡ shut_at g
  listed_closed [] = first_closed g
  listed_closed (accepts lane job ∷ h) = listed_closed h
  listed_closed (takes_piece pass job ∷ h) = listed_closed h
  listed_closed (drains job ∷ h) = listed_closed h

  pub listed_waiting : (h : List (RingDeed QueuedJob)) → waiting (listed h) ≡ ring_waiting h
  listed_waiting [] = first_waiting g
  listed_waiting (accepts lane job ∷ h) = ap (λ (js : List QueuedJob). js ++ job ∷ []) (listed_waiting h)
  listed_waiting (takes_piece pass job ∷ h) = ap rest_of (listed_waiting h)
  listed_waiting (drains job ∷ h) = ap rest_of (listed_waiting h)

  pub listed_left : (h : List (RingDeed QueuedJob)) → left_in (listed h) ≡ (rest_part h 0).drained
  listed_left [] = first_left g
  listed_left (accepts lane job ∷ h) = listed_left h
  listed_left (takes_piece pass job ∷ h) = listed_left h
  listed_left (drains job ∷ h) = ap (λ (js : List QueuedJob). js ++ job ∷ []) (listed_left h)

  pub listed_taken : (h : List (RingDeed QueuedJob)) (k : ℕ) → taken_in (listed h) k ≡ taken_by h k
  listed_taken [] k = first_taken g k
  listed_taken (accepts lane job ∷ h) k = listed_taken h k
  listed_taken (takes_piece pass job ∷ h) k =
      let before = listed_taken h k in
      dite (ℕ_discrete k pass)
      (λ here. subst (λ (n : ℕ). taken_in (takes_first pass job ∷ listed h) n ≡ taken_by (takes_piece pass job ∷ h) n) (sym here)
      (ap (λ b. cond b (taken_in (listed h) pass ++ job ∷ []) (taken_in (listed h) pass)) (eq-eqb pass pass refl)
      ∙ (ap (λ (js : List QueuedJob). js ++ job ∷ []) (listed_taken h pass) ∙ sym (ap (λ (r : RingPassRecord QueuedJob). r.taken) (pass_own pass job h)))))
      (λ other. ap (λ b. cond b (taken_in (listed h) k ++ job ∷ []) (taken_in (listed h) k)) (ne_eqb pass k (λ same. other (sym same)))
      ∙ (before ∙ sym (ap (λ (r : RingPassRecord QueuedJob). r.taken) (pass_other pass job h k other))))
  listed_taken (drains job ∷ h) k = listed_taken h k

  -- Each lane has an accepted entry for each job that it put in; no pass past the last took a job.
  abbrev pub Enough : List (RingDeed QueuedJob) → Type 0
  Enough h = (k : ℕ) → length (put_by h k) ≤ accepted_count (es k)

  abbrev pub Few : List (RingDeed QueuedJob) → Type 0
  Few h = (k : ℕ) → passes ≤ k → length (taken_by h k) ≡ 0

  enough_before : (lane : ℕ) (job : QueuedJob) (h : List (RingDeed QueuedJob))
      → Enough (accepts lane job ∷ h)
      → Enough h
  enough_before lane job h enough k =
      dite (ℕ_discrete k lane)
      (λ here. subst (λ (n : ℕ). length (put_by h n) ≤ accepted_count (es n)) (sym here) (omega (arith, enough lane, ap length (put_own lane job h), length-append (put_by h lane) (job ∷ []))))
      (λ other. omega (arith, enough k, ap length (put_else lane job h k other)))

  -- The entry by which this job came.
  enough_here : (lane : ℕ) (job : QueuedJob) (h : List (RingDeed QueuedJob))
      → Enough (accepts lane job ∷ h)
      → length (put_by h lane) < accepted_count (es lane)
  enough_here lane job h enough = omega (arith, enough lane, ap length (put_own lane job h), length-append (put_by h lane) (job ∷ []))

  few_before : (pass : ℕ) (job : QueuedJob) (h : List (RingDeed QueuedJob))
      → Few (takes_piece pass job ∷ h)
      → Few h
  few_before pass job h few k high =
      dite (ℕ_discrete k pass)
      (λ here. subst (λ (n : ℕ). length (taken_by h n) ≡ 0) (sym here)
      (let none : length (taken_by (takes_piece pass job ∷ h) pass) ≡ 0 = subst (λ (n : ℕ). length (taken_by (takes_piece pass job ∷ h) n) ≡ 0) here (few k high) in
      omega (arith, none, ap (λ (r : RingPassRecord QueuedJob). length r.taken) (pass_own pass job h), length-append (taken_by h pass) (job ∷ []))))
      (λ other. omega (arith, few k high, ap (λ (r : RingPassRecord QueuedJob). length r.taken) (pass_other pass job h k other)))

  few_here : (pass : ℕ) (job : QueuedJob) (h : List (RingDeed QueuedJob))
      → Few (takes_piece pass job ∷ h)
      → pass < passes
  few_here pass job h few =
      dite (dec_le passes pass)
      (λ high. absurd (omega (arith, few pass high, ap (λ (r : RingPassRecord QueuedJob). length r.taken) (pass_own pass job h), length-append (taken_by h pass) (job ∷ []))))
      (λ low. omega arith)

  module _ (entries : AreEntries lanes g) (same : (k : ℕ) → numbers_by g k ≡ numbers (es k)) where
    rising : (k : ℕ) → Ascend (numbers (es k))
    rising k = subst Ascend (same k) (numbers_ascend lanes g k entries)

    pub listed_entries : (h : List (RingDeed QueuedJob)) (k : ℕ)
        → Enough h
        → entries_by (listed h) k ≡ with_jobs (es k) (put_by h k)
    listed_entries [] k enough = first_entries g k ∙ (ap unfilled (same k) ∙ sym (none_yet (es k)))
    listed_entries (accepts lane job ∷ h) k enough =
        let sofar = enough_before lane job h enough in
        let n = next_number (es lane) (put_by h lane) in
        dite (ℕ_discrete k lane)
        (λ here. subst (λ (m : ℕ). entries_by (accepts_job lane n job ∷ listed h) m ≡ with_jobs (es m) (put_by (accepts lane job ∷ h) m)) (sym here)
        (ap (λ b. cond b (with_job n job (entries_by (listed h) lane)) (entries_by (listed h) lane)) (eq-eqb lane lane refl)
        ∙ (ap (with_job n job) (listed_entries h lane sofar)
        ∙ (one_job_more (es lane) (put_by h lane) job (enough_here lane job h enough) (rising lane)
        ∙ ap (with_jobs (es lane)) (sym (put_own lane job h))))))
        (λ other. ap (λ b. cond b (with_job n job (entries_by (listed h) k)) (entries_by (listed h) k)) (ne_eqb lane k (λ e. other (sym e)))
        ∙ (listed_entries h k sofar ∙ ap (with_jobs (es k)) (sym (put_else lane job h k other))))
    listed_entries (takes_piece pass job ∷ h) k enough = listed_entries h k enough
    listed_entries (drains job ∷ h) k enough = listed_entries h k enough

    front : (h : List (RingDeed QueuedJob)) (job : QueuedJob)
        → ring_waiting h ≡ job ∷ rest_of (ring_waiting h)
        → waiting (listed h) ≡ job ∷ rest_of (waiting (listed h))
    front h job first =
        let waits = listed_waiting h in
        waits ∙ (first ∙ ap (λ (js : List QueuedJob). job ∷ js) (ap rest_of (sym waits)))

    pub listed_legal : (h : List (RingDeed QueuedJob))
        → IsLegal lane_id seq_id h
        → Enough h
        → Few h
        → Legal (May lanes passes) (listed h)
    listed_legal [] legal enough few = first_legal lanes passes g entries
    listed_legal (accepts lane job ∷ h) legal enough few =
        let sofar = enough_before lane job h enough in
        let room = enough_here lane job h enough in
        let there = listed_entries h lane sofar in
        let had : accepted (entries_by (listed h) lane) ≡ put_by h lane = ap accepted there ∙ had_jobs (es lane) (put_by h lane) (omega (arith, room)) in
        let id : job.id ≡ job_id lane (length (put_by h lane)) = λ i. record { lane = legal.0.1 i; seq = legal.0.2 i } in (
          (subst (AwaitsJob (next_number (es lane) (put_by h lane))) (sym there) (awaits_next (es lane) (put_by h lane) room), id ∙ ap (λ (js : List QueuedJob). job_id lane (length js)) (sym had)),
          listed_legal h legal.1 sofar few,
        )
    listed_legal (takes_piece pass job ∷ h) legal enough few = ((few_here pass job h few, front h job legal.0.1), listed_legal h legal.1 enough (few_before pass job h few))
    listed_legal (drains job ∷ h) legal enough few = (front h job legal.0, listed_legal h legal.1 enough few)
