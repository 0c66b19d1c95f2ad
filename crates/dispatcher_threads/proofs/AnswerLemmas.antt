-- If each lane has accepted its list, the replies answer all of these jobs, each once.
use Rattle.std.proofs.Common.{◌≡◌, ℕ, zero, suc, ◌+◌, ◌<◌, ◌≤◌, cond, eqb, eq-eqb, ne_eqb, ⊎_elim, List, [], ◌∷◌, ◌++◌, map, length, get_or, refl, sym, ap, ◌∙◌, arith}
use Rattle.std.specs.List.{AllByRecursion, flat_map}
use Rattle.std.proofs.lemmas.Bool.{cases_lt}
use Rattle.std.proofs.lemmas.List.{map-append, get_or_past}
use Rattle.std.proofs.lemmas.List.Elements.{All-from_recursion}
use mathlib.Core.Logic.{dite}
use native.Mathlib.Decide.{ℕ_discrete}
use Rattle.ghost_history.specs.Sums.{total, below, is_at, times}
use Rattle.ghost_history.proofs.SumLemmas.{total-append, total-same, below-same, below-zero, below-one_term, below-total, is_at-same, is_at-other}
use Rattle.cube_shape.specs.declared.region.Region.{Region}
use Rattle.job_types.specs.Job.{JobData}
use Rattle.job_types.specs.Reply.{ReplyData}
use Rattle.job_types.specs.declared.reply.JobId.{JobId}
use Rattle.job_queue.specs.declared.record.QueuedJob.{QueuedJob}
use Rattle.job_queue.specs.declared.record.LaneRecord.{LaneRecord}
use Rattle.job_queue.specs.Record.{job_id, queued, accepted, job_of, accepted_jobs, AreSeqs}
use Rattle.dispatcher.specs.Reply.{answered, IsRight}
use Rattle.dispatcher.specs.Finished.{Outcome, weight_of, FinishedRun}
use Rattle.dispatcher.specs.Answers.{with_ids_from, lanes_with_ids, jobs_with_ids, all_replies, AnswersAll}
use Rattle.dispatcher.proofs.SameJobLemmas.{same_job}
use Rattle.dispatcher.proofs.PermutationLemmas.{balanced}

-- ---- sums over a list that has each number below a bound once

module _ (g : ℕ → ℕ) (n : ℕ) where
  term : ℕ → ℕ → ℕ
  term k x = cond (eqb x k) (g k) 0

  no_term : (k : ℕ) (xs : List ℕ) → times k xs ≡ 0 → total (term k) xs ≡ 0
  unfolding term
  no_term k [] none = refl
  no_term k (x ∷ xs) none = dite (ℕ_discrete x k)
      (λ e. absurd (omega (arith, none, ap (is_at k) e ∙ is_at-same k)))
      (λ other. let here : cond (eqb x k) (g k) 0 ≡ 0 = ap (λ b. cond b (g k) 0) (ne_eqb x k other) in omega (arith, here, no_term k xs (omega (arith, none))))

  one_term : (k : ℕ) (xs : List ℕ) → times k xs ≡ 1 → total (term k) xs ≡ g k
  unfolding term
  one_term k [] one = absurd (omega (arith, one))
  one_term k (x ∷ xs) one = dite (ℕ_discrete x k)
      (λ e. let here : cond (eqb x k) (g k) 0 ≡ g k = ap (λ b. cond b (g k) 0) (eq-eqb x k e) in omega (arith, here, no_term k xs (omega (arith, one, ap (is_at k) e ∙ is_at-same k))))
      (λ other. let here : cond (eqb x k) (g k) 0 ≡ 0 = ap (λ b. cond b (g k) 0) (ne_eqb x k other) in omega (arith, here, one_term k xs (omega (arith, one, is_at-other k x other))))

  below_term : ((k : ℕ) → n ≤ k → g k ≡ 0) → (x : ℕ) → below (λ k. term k x) n ≡ g x
  unfolding term
  below_term past x = ⊎_elim
      (λ (early : x < n). below-one_term (λ k. term k x) x n early (λ j other. ap (λ b. cond b (g j) 0) (ne_eqb x j (λ e. other (sym e)))) ∙ ap (λ b. cond b (g x) 0) (eq-eqb x x refl))
      (λ (late : n ≤ x). below-same (λ k. term k x) (λ _. 0) n (λ k within. ap (λ b. cond b (g k) 0) (ne_eqb x k (λ e. absurd (omega (arith, e, within, late))))) ∙ (below-zero n ∙ sym (past x late)))
      (cases_lt x n)

  once_each : ((k : ℕ) → n ≤ k → g k ≡ 0)
      → (xs : List ℕ)
      → ((k : ℕ) → k < n → times k xs ≡ 1)
      → total g xs ≡ below g n
  once_each past xs once =
      sym (total-same (λ x. below (λ k. term k x) n) g (below_term past) xs)
      ∙ (sym (below-total term xs n) ∙ below-same (λ k. total (term k) xs) g n (λ k within. one_term k xs (once k within)))

-- The first term, split off.
below_first : (f : ℕ → ℕ) (n : ℕ) → below f (suc n) ≡ f 0 + below (λ k. f (suc k)) n
below_first f zero = omega arith
below_first f (suc n) = omega (arith, below_first f n)

-- ---- what the lanes have accepted

numbered : (lane seq : ℕ) (qs : List QueuedJob)
    → AreSeqs lane seq qs
    → qs ≡ with_ids_from lane seq (map job_of qs)
numbered lane seq [] seqs = refl
numbered lane seq (q ∷ qs) seqs =
    ap (λ (id : JobId). queued id q.job ∷ qs) seqs.0
    ∙ ap (λ (rest : List QueuedJob). queued (job_id lane seq) q.job ∷ rest) (numbered lane (seq + 1) qs seqs.1)

-- The lane has accepted its whole list.
abbrev pub IsFed : List (List JobData) → LaneRecord → Type 0
IsFed jobs l = accepted_jobs l ≡ get_or jobs l.number []

module _ (weight : QueuedJob → ℕ) where
  -- The weight of a lane's jobs.
  lane_weight : List (List JobData) → ℕ → ℕ
  lane_weight jobs k = total weight (with_ids_from k 0 (get_or jobs k []))

  lanes_weigh : (jobs : List (List JobData)) (lanes : List LaneRecord)
      → AllByRecursion (λ l. AreSeqs l.number 0 (accepted l.entries)) lanes
      → AllByRecursion (IsFed jobs) lanes
      → total (λ l. total weight (accepted l.entries)) lanes
      ≡ total (lane_weight jobs) (map (λ l. l.number) lanes)
  unfolding lane_weight
  lanes_weigh jobs [] seqs fed = refl
  lanes_weigh jobs (l ∷ lanes) seqs fed =
      let own : accepted l.entries ≡ with_ids_from l.number 0 (get_or jobs l.number []) = numbered l.number 0 (accepted l.entries) seqs.0 ∙ ap (with_ids_from l.number 0) fed.0 in
      omega (arith, ap (total weight) own, lanes_weigh jobs lanes seqs.1 fed.1)

  jobs_weigh : (first : ℕ) (jobs : List (List JobData))
      → total weight (lanes_with_ids first jobs)
      ≡ below (λ k. total weight (with_ids_from (first + k) 0 (get_or jobs k []))) (length jobs)
  jobs_weigh first [] = refl
  jobs_weigh first (list ∷ jobs) =
      let f : ℕ → ℕ = λ k. total weight (with_ids_from (first + k) 0 (get_or (list ∷ jobs) k [])) in
      let here : f 0 ≡ total weight (with_ids_from first 0 list) = ap (λ (k : ℕ). total weight (with_ids_from k 0 list)) (omega arith) in
      let later : below (λ k. f (suc k)) (length jobs) ≡ below (λ k. total weight (with_ids_from (first + 1 + k) 0 (get_or jobs k []))) (length jobs) =
      below-same _ _ (length jobs) (λ k within. ap (λ (i : ℕ). total weight (with_ids_from i 0 (get_or jobs k []))) (omega arith)) in
      omega (arith, total-append weight (with_ids_from first 0 list) (lanes_with_ids (first + 1) jobs), jobs_weigh (first + 1) jobs, below_first f (length jobs), here, later)

  replies_weigh : (by_worker : List (List ReplyData))
      → total weight (map answered (flat_map (λ replies. replies) by_worker))
      ≡ total (weight_of weight) by_worker
  replies_weigh [] = refl
  replies_weigh (replies ∷ by_worker) =
      let others : List ReplyData = flat_map (λ rs. rs) by_worker in
      omega (arith, ap (total weight) (map-append answered replies others), total-append weight (map answered replies) (map answered others), replies_weigh by_worker)

  all_weigh : (n : ℕ) (jobs : List (List JobData)) (lanes : List LaneRecord)
      (grants : List (List Region)) (note : ℕ) (o : Outcome)
      → FinishedRun n lanes grants note o
      → AllByRecursion (IsFed jobs) lanes
      → ((k : ℕ) → k < length jobs → times k (map (λ l. l.number) lanes) ≡ 1)
      → total weight (jobs_with_ids jobs)
      ≡ total weight (map answered (all_replies o.by_worker o.rest))
  unfolding lane_weight
  all_weigh n jobs lanes grants note o finished fed numbers =
      let flat : List ReplyData = flat_map (λ replies. replies) o.by_worker in
      let none_past : (k : ℕ) → length jobs ≤ k → lane_weight jobs k ≡ 0 = λ k past. ap (λ (js : List JobData). total weight (with_ids_from k 0 js)) (get_or_past jobs k [] past) in
      let at_zero : below (λ k. total weight (with_ids_from (0 + k) 0 (get_or jobs k []))) (length jobs) ≡ below (lane_weight jobs) (length jobs) =
      below-same _ _ (length jobs) (λ k within. ap (λ (i : ℕ). total weight (with_ids_from i 0 (get_or jobs k []))) (omega arith)) in
      omega (
        arith,
        jobs_weigh 0 jobs,
        at_zero,
        once_each (lane_weight jobs) (length jobs) none_past (map (λ l. l.number) lanes) numbers,
        lanes_weigh jobs lanes finished.seqs fed,
        finished.balance weight,
        replies_weigh o.by_worker,
        ap (total weight) (map-append answered flat o.rest),
        total-append weight (map answered flat) (map answered o.rest),
      )

-- ---- the replies

each_append : {A : Type 0} (P : A → Type 0) (xs ys : List A)
    → AllByRecursion P xs
    → AllByRecursion P ys
    → AllByRecursion P (xs ++ ys)
each_append P [] ys first second = second
each_append P (x ∷ xs) ys first second = (first.0, each_append P xs ys first.1 second)

each_flat : {A : Type 0} (P : A → Type 0) (xss : List (List A))
    → AllByRecursion (AllByRecursion P) xss
    → AllByRecursion P (flat_map (λ xs. xs) xss)
each_flat P [] all = tt
each_flat P (xs ∷ xss) all = each_append P xs (flat_map (λ ys. ys) xss) all.0 (each_flat P xss all.1)

-- Each job has one right reply, and there is no other.
pub answers_all : (n : ℕ) (jobs : List (List JobData)) (lanes : List LaneRecord)
    (grants : List (List Region)) (note : ℕ) (o : Outcome)
    → FinishedRun n lanes grants note o
    → AllByRecursion (IsFed jobs) lanes
    → ((k : ℕ) → k < length jobs → times k (map (λ l. l.number) lanes) ≡ 1)
    → AnswersAll n jobs o.by_worker o.rest
answers_all n jobs lanes grants note o finished fed numbers =
    let flat : List ReplyData = flat_map (λ replies. replies) o.by_worker in
    record {
      answers = balanced same_job (jobs_with_ids jobs) (map answered (all_replies o.by_worker o.rest)) (λ weight. all_weigh weight n jobs lanes grants note o finished fed numbers);
      right = All-from_recursion (IsRight n) (all_replies o.by_worker o.rest) (each_append (IsRight n) flat o.rest (each_flat (IsRight n) o.by_worker finished.right) finished.rest_right);
    }
