-- Each accepted job has one reply, and there is no other reply.
use Rattle.std.proofs.Common.{◌≡◌, ◌≢◌, ℕ, ◌+◌, ◌*◌, ◌<◌, ◌≤◌, ⊎_elim, List, [], ◌∷◌, map, length, get_or, refl, sym, ap, subst, ◌∙◌, arith}
use Rattle.std.specs.List.{AllByRecursion}
use Rattle.std.proofs.lemmas.Bool.{cases_lt}
use Rattle.std.proofs.lemmas.List.{get_or_past}
use mathlib.Core.Logic.{dite}
use native.Mathlib.Decide.{ℕ_discrete}
use Rattle.ghost_history.specs.Sums.{total, is_at, times}
use Rattle.ghost_history.proofs.SumLemmas.{is_at-same, is_at-other, total-map}
use Rattle.job_types.specs.Reply.{ReplyData}
use Rattle.job_types.specs.declared.reply.JobId.{JobId}
use Rattle.job_queue.specs.declared.record.QueuedJob.{QueuedJob}
use Rattle.job_queue.specs.declared.record.LaneRecord.{LaneRecord}
use Rattle.job_queue.specs.Record.{accepted, AreSeqs, job_id}
use Rattle.dispatcher.specs.Reply.{answered}
use Rattle.dispatcher.specs.Finished.{Outcome, is_to, replies_to, weight_of}

-- 1 for the job of this lane and number (seq), and 0 for any other job.
abbrev is_job : ℕ → ℕ → QueuedJob → ℕ
is_job lane seq job = is_at lane job.id.lane * is_at seq job.id.seq

-- The accepted jobs weigh as much as the replies. They have the numbers from 0 upwards, as many as
-- are counted.
abbrev pub Balance : List LaneRecord → Outcome → Type 0
Balance lanes o = (weight : QueuedJob → ℕ) → total (λ l. total weight (accepted l.entries)) lanes ≡ total (weight_of weight) o.by_worker + weight_of weight o.rest

abbrev pub Seqs : List LaneRecord → Type 0
Seqs lanes = AllByRecursion (λ l. AreSeqs l.number 0 (accepted l.entries)) lanes

abbrev pub Counts : List LaneRecord → Outcome → Type 0
Counts lanes o = AllByRecursion (λ l. get_or o.accepted l.number 0 ≡ length (accepted l.entries)) lanes

total-each : {A : Type 0} (f g : A → ℕ) (xs : List A)
    → AllByRecursion (λ x. f x ≡ g x) xs
    → total f xs ≡ total g xs
total-each f g [] all = refl
total-each f g (x ∷ xs) all = omega (arith, all.0, total-each f g xs all.1)

total-none : {A : Type 0} (f : A → ℕ) (xs : List A)
    → AllByRecursion (λ x. f x ≡ 0) xs
    → total f xs ≡ 0
total-none f [] all = refl
total-none f (x ∷ xs) all = omega (arith, all.0, total-none f xs all.1)

module _ (lane seq : ℕ) where
  of_id : (job : QueuedJob) (l s : ℕ)
      → job.id ≡ job_id l s
      → is_job lane seq job ≡ is_at lane l * is_at seq s
  of_id job l s is = ap (λ (id : JobId). is_at lane id.lane * is_at seq id.seq) is

  other_lane : (l : ℕ)
      → l ≢ lane
      → (s : ℕ) (jobs : List QueuedJob)
      → AreSeqs l s jobs
      → total (is_job lane seq) jobs ≡ 0
  other_lane l other s [] seqs = refl
  other_lane l other s (job ∷ jobs) seqs =
      let none : is_job lane seq job ≡ 0 = of_id job l s seqs.0 ∙ (ap (λ (k : ℕ). k * is_at seq s) (is_at-other lane l other) ∙ omega arith) in
      omega (arith, none, other_lane l other (s + 1) jobs seqs.1)

  of_own : (job : QueuedJob) (s : ℕ) → job.id ≡ job_id lane s → is_job lane seq job ≡ is_at seq s
  of_own job s is = of_id job lane s is ∙ (ap (λ (k : ℕ). k * is_at seq s) (is_at-same lane) ∙ omega arith)

  later : (s : ℕ) (jobs : List QueuedJob)
      → AreSeqs lane s jobs
      → seq < s
      → total (is_job lane seq) jobs ≡ 0
  later s [] seqs past = refl
  later s (job ∷ jobs) seqs past =
      omega (arith, of_own job s seqs.0 ∙ is_at-other seq s (λ same. absurd (omega (arith, same, past))), later (s + 1) jobs seqs.1 (omega (arith, past)))

  earlier : (s : ℕ) (jobs : List QueuedJob)
      → AreSeqs lane s jobs
      → s + length jobs ≤ seq
      → total (is_job lane seq) jobs ≡ 0
  earlier s [] seqs past = refl
  earlier s (job ∷ jobs) seqs past =
      omega (arith, of_own job s seqs.0 ∙ is_at-other seq s (λ same. absurd (omega (arith, same, past))), earlier (s + 1) jobs seqs.1 (omega (arith, past)))

  once : (s : ℕ) (jobs : List QueuedJob)
      → AreSeqs lane s jobs
      → s ≤ seq
      → seq < s + length jobs
      → total (is_job lane seq) jobs ≡ 1
  once s [] seqs from within = absurd (omega (arith, from, within))
  once s (job ∷ jobs) seqs from within =
      dite (ℕ_discrete s seq)
      (λ same. omega (arith, of_own job s seqs.0 ∙ (ap (is_at seq) same ∙ is_at-same seq), later (s + 1) jobs seqs.1 (omega (arith, same))))
      (λ other. omega (arith, of_own job s seqs.0 ∙ is_at-other seq s other, once (s + 1) jobs seqs.1 (omega (arith, from, other)) (omega (arith, within))))

  -- The accepted jobs of a lane, if it accepted one of this number (seq), and if it did not.
  counted : (counts : List ℕ) (l : LaneRecord)
      → AreSeqs l.number 0 (accepted l.entries)
      → get_or counts l.number 0 ≡ length (accepted l.entries)
      → seq < get_or counts lane 0
      → total (is_job lane seq) (accepted l.entries) ≡ is_at lane l.number
  counted counts l seqs count within =
      dite (ℕ_discrete l.number lane)
      (λ same.
      let here : AreSeqs lane 0 (accepted l.entries) = subst (λ (k : ℕ). AreSeqs k 0 (accepted l.entries)) same seqs in
      once 0 (accepted l.entries) here (omega arith) (omega (arith, within, ap (λ (k : ℕ). get_or counts k 0) same, count)) ∙ sym (ap (is_at lane) same ∙ is_at-same lane))
      (λ other. other_lane l.number other 0 (accepted l.entries) seqs ∙ sym (is_at-other lane l.number other))

  uncounted : (counts : List ℕ) (l : LaneRecord)
      → AreSeqs l.number 0 (accepted l.entries)
      → get_or counts l.number 0 ≡ length (accepted l.entries)
      → get_or counts lane 0 ≤ seq
      → total (is_job lane seq) (accepted l.entries) ≡ 0
  uncounted counts l seqs count past =
      dite (ℕ_discrete l.number lane)
      (λ same.
      let here : AreSeqs lane 0 (accepted l.entries) = subst (λ (k : ℕ). AreSeqs k 0 (accepted l.entries)) same seqs in
      earlier 0 (accepted l.entries) here (omega (arith, past, ap (λ (k : ℕ). get_or counts k 0) same, count)))
      (λ other. other_lane l.number other 0 (accepted l.entries) seqs)

  all_counted : (counts : List ℕ) (lanes : List LaneRecord)
      → AllByRecursion (λ l. AreSeqs l.number 0 (accepted l.entries)) lanes
      → AllByRecursion (λ l. get_or counts l.number 0 ≡ length (accepted l.entries)) lanes
      → seq < get_or counts lane 0
      → AllByRecursion (λ l. total (is_job lane seq) (accepted l.entries) ≡ is_at lane l.number)
      lanes
  all_counted counts [] seqs count within = tt
  all_counted counts (l ∷ lanes) seqs count within = (counted counts l seqs.0 count.0 within, all_counted counts lanes seqs.1 count.1 within)

  all_uncounted : (counts : List ℕ) (lanes : List LaneRecord)
      → AllByRecursion (λ l. AreSeqs l.number 0 (accepted l.entries)) lanes
      → AllByRecursion (λ l. get_or counts l.number 0 ≡ length (accepted l.entries)) lanes
      → get_or counts lane 0 ≤ seq
      → AllByRecursion (λ l. total (is_job lane seq) (accepted l.entries) ≡ 0) lanes
  all_uncounted counts [] seqs count past = tt
  all_uncounted counts (l ∷ lanes) seqs count past = (uncounted counts l seqs.0 count.0 past, all_uncounted counts lanes seqs.1 count.1 past)

  -- The replies to the job weigh as much as the accepted jobs.
  replied : (lanes : List LaneRecord) (o : Outcome)
      → Balance lanes o
      → replies_to lane seq o ≡ total (λ l. total (is_job lane seq) (accepted l.entries)) lanes
  replied lanes o balance =
      let one : (rs : List ReplyData) → weight_of (is_job lane seq) rs ≡ total (is_to lane seq) rs = λ rs. total-map (is_job lane seq) answered rs in
      omega (arith, balance (is_job lane seq), one o.rest, sum_of o.by_worker)
    where
      sum_of : (rss : List (List ReplyData))
          → total (weight_of (is_job lane seq)) rss ≡ total (total (is_to lane seq)) rss
      sum_of [] = refl
      sum_of (rs ∷ rss) = omega (arith, total-map (is_job lane seq) answered rs, sum_of rss)

  pub answered_once : (count : ℕ) (lanes : List LaneRecord) (o : Outcome)
      → Balance lanes o
      → Seqs lanes
      → length o.accepted ≡ count
      → ((k : ℕ) → k < count → times k (map (λ l. l.number) lanes) ≡ 1)
      → Counts lanes o
      → seq < get_or o.accepted lane 0
      → replies_to lane seq o ≡ 1
  answered_once count lanes o balance seqs size numbers counts within =
      let below : lane < count = ⊎_elim (λ (is : lane < count). is) (λ (past : count ≤ lane). absurd (omega (arith, within, get_or_past o.accepted lane 0 (omega (arith, past, size))))) (cases_lt lane count) in
      replied lanes o balance
      ∙ (total-each (λ l. total (is_job lane seq) (accepted l.entries)) (λ l. is_at lane l.number) lanes (all_counted o.accepted lanes seqs counts within)
      ∙ (sym (total-map (is_at lane) (λ (l : LaneRecord). l.number) lanes) ∙ numbers lane below))

  pub no_other : (lanes : List LaneRecord) (o : Outcome)
      → Balance lanes o
      → Seqs lanes
      → Counts lanes o
      → get_or o.accepted lane 0 ≤ seq
      → replies_to lane seq o ≡ 0
  no_other lanes o balance seqs counts past =
      replied lanes o balance
      ∙ total-none (λ l. total (is_job lane seq) (accepted l.entries)) lanes (all_uncounted o.accepted lanes seqs counts past)
