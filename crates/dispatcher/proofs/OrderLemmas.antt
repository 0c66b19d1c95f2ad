-- The replies sorted by id are the answers to the jobs lane by lane.
use Rattle.std.proofs.Common.{◌≡◌, ℕ, suc, ◌+◌, ◌<◌, ◌≤◌, inl, inr, ◌⊎◌, ⊎_elim, false, List, [], ◌∷◌, ◌++◌, map, slice_index_or, refl, sym, ap, subst, ◌∙◌, arith}
use Rattle.std.specs.List.{AllByRecursion}
use Rattle.std.specs.List.Sorted.{IsPermutation}
use Rattle.std.specs.Cmp.{nat_cmp_is}
use Rattle.std.specs.Ordering.{is_lt, nat_cmp, ordering_then}
use Rattle.std.specs.declared.cmp.Ordering.{Ordering}
use Rattle.std.specs.declared.cmp.Ordering.TheVariants.{Less, Equal}
use Rattle.std.proofs.lemmas.Bool.{cases_lt, true≢false}
use Rattle.std.proofs.lemmas.List.Sorted.{All-permutation, IsPermutation-map}
use Rattle.ghost_history.proofs.ViewLemmas.{all_weaker}
use Rattle.job_types.specs.Job.{JobData}
use Rattle.job_types.specs.Reply.{ReplyData}
use Rattle.job_types.specs.declared.reply.JobId.{JobId}
use Rattle.job_queue.specs.declared.record.QueuedJob.{QueuedJob}
use Rattle.job_queue.specs.Record.{job_id, queued}
use Rattle.dispatcher.specs.Reply.{answered, IsRight}
use Rattle.dispatcher.specs.Answers.{with_ids_from, lanes_with_ids, jobs_with_ids, all_replies, AnswersAll}
use Rattle.dispatcher.specs.Order.{by_id, AreSorted, AreInOrder}
use Rattle.dispatcher.proofs.SameJobLemmas.{same_job}
use Rattle.dispatcher.proofs.PermutationLemmas.{Rises, NeverFalls, in_order, total-IsPermutation}

-- Job `a` comes before job `b`.
abbrev IsBefore : JobId → JobId → Type 0
IsBefore a b = (a.lane < b.lane) ⊎ ((a.lane ≡ b.lane) × (a.seq < b.seq))

-- ---- the jobs lane by lane rise

abbrev IsFrom : ℕ → ℕ → QueuedJob → Type 0
IsFrom lane seq q = (q.id.lane ≡ lane) × (seq ≤ q.id.seq)

lane_from : (lane seq first : ℕ) (jobs : List JobData)
    → first ≤ seq
    → AllByRecursion (IsFrom lane first) (with_ids_from lane seq jobs)
lane_from lane seq first [] le = tt
lane_from lane seq first (job ∷ jobs) le = ((refl, le), lane_from lane (seq + 1) first jobs (omega (arith, le)))

lanes_from : (lane first : ℕ) (lists : List (List JobData))
    → first ≤ lane
    → AllByRecursion (λ q. first ≤ q.id.lane) (lanes_with_ids lane lists)
lanes_from lane first [] le = tt
lanes_from lane first (jobs ∷ lists) le = joined (lanes_from (lane + 1) first lists (omega (arith, le))) (with_ids_from lane 0 jobs) (lane_from lane 0 0 jobs (omega arith))
  where
    joined : AllByRecursion (λ q. first ≤ q.id.lane) (lanes_with_ids (lane + 1) lists)
        → (qs : List QueuedJob)
        → AllByRecursion (IsFrom lane 0) qs
        → AllByRecursion (λ q. first ≤ q.id.lane) (qs ++ lanes_with_ids (lane + 1) lists)
    joined later [] own = later
    joined later (q ∷ qs) own = (omega (arith, le, own.0.0), joined later qs own.1)

abbrev Before : QueuedJob → QueuedJob → Type 0
Before a b = IsBefore a.id b.id

lane_rises : (lane seq : ℕ) (jobs : List JobData) (rest : List QueuedJob)
    → AllByRecursion (λ q. lane < q.id.lane) rest
    → Rises same_job Before rest
    → Rises same_job Before (with_ids_from lane seq jobs ++ rest)
lane_rises lane seq [] rest later risen = risen
lane_rises lane seq (job ∷ jobs) rest later risen = (joined (with_ids_from lane (seq + 1) jobs) (lane_from lane (seq + 1) (seq + 1) jobs (omega arith)), lane_rises lane (seq + 1) jobs rest later risen)
  where
    joined : (qs : List QueuedJob)
        → AllByRecursion (IsFrom lane (seq + 1)) qs
        → AllByRecursion (Before (queued (job_id lane seq) job)) (qs ++ rest)
    joined [] own = all_weaker (λ (q : QueuedJob). lane < q.id.lane) (Before (queued (job_id lane seq) job)) (λ q past. inl past) rest later
    joined (q ∷ qs) own = (inr (sym own.0.0, omega (arith, own.0.1)), joined qs own.1)

lanes_rise : (lane : ℕ) (lists : List (List JobData))
    → Rises same_job Before (lanes_with_ids lane lists)
lanes_rise lane [] = tt
lanes_rise lane (jobs ∷ lists) = lane_rises lane 0 jobs (lanes_with_ids (lane + 1) lists)
    (all_weaker (λ (q : QueuedJob). lane + 1 ≤ q.id.lane) (λ q. lane < q.id.lane) (λ q past. omega (arith, past)) _ (lanes_from (lane + 1) (lane + 1) lists (omega arith)))
    (lanes_rise (lane + 1) lists)

-- ---- sorted replies never fall

abbrev NotAfter : JobId → JobId → Type 0
NotAfter a b = (a.lane < b.lane) ⊎ ((a.lane ≡ b.lane) × (a.seq ≤ b.seq))

not_after_trans : (a b c : JobId) → NotAfter a b → NotAfter b c → NotAfter a c
not_after_trans a b c first second = ⊎_elim
    (λ (l : a.lane < b.lane). ⊎_elim (λ (m : b.lane < c.lane). inl (omega (arith, l, m))) (λ (m : (b.lane ≡ c.lane) × (b.seq ≤ c.seq)). inl (omega (arith, l, m.0))) second)
    (λ (l : (a.lane ≡ b.lane) × (a.seq ≤ b.seq)). ⊎_elim (λ (m : b.lane < c.lane). inl (omega (arith, l.0, m))) (λ (m : (b.lane ≡ c.lane) × (b.seq ≤ c.seq)). inr (l.0 ∙ m.0, omega (arith, l.1, m.1))) second)
    first

not_before : (a b : JobId) → NotAfter a b → ¬ IsBefore b a
not_before a b first = λ before. ⊎_elim
    (λ (l : a.lane < b.lane). ⊎_elim (λ (m : b.lane < a.lane). absurd (omega (arith, l, m))) (λ (m : (b.lane ≡ a.lane) × (b.seq < a.seq)). absurd (omega (arith, l, m.0))) before)
    (λ (l : (a.lane ≡ b.lane) × (a.seq ≤ b.seq)). ⊎_elim (λ (m : b.lane < a.lane). absurd (omega (arith, l.0, m))) (λ (m : (b.lane ≡ a.lane) × (b.seq < a.seq)). absurd (omega (arith, l.1, m.1))) before)
    first

-- What a sort says of two neighbours.
neighbours : (a b : ReplyData) → is_lt (by_id b a) ≡ false → NotAfter a.id b.id
neighbours a b test = ⊎_elim
    (λ (back : b.id.lane < a.id.lane). absurd (true≢false (ap (λ (o : Ordering). is_lt (ordering_then o (nat_cmp b.id.seq a.id.seq))) (nat_cmp_is b.id.lane a.id.lane Less back) ∙ test)))
    (λ (le : a.id.lane ≤ b.id.lane). ⊎_elim
    (λ (below : a.id.lane < b.id.lane). inl below)
    (λ (ge : b.id.lane ≤ a.id.lane).
    let same : a.id.lane ≡ b.id.lane = omega (arith, le, ge) in
    let tie : ordering_then Equal (nat_cmp b.id.seq a.id.seq) ≡ by_id b a = ap (λ (o : Ordering). ordering_then o (nat_cmp b.id.seq a.id.seq)) (nat_cmp_is b.id.lane a.id.lane Equal (sym same)) in
    ⊎_elim
    (λ (back : b.id.seq < a.id.seq). absurd (true≢false (ap is_lt (nat_cmp_is b.id.seq a.id.seq Less back ∙ tie) ∙ test)))
    (λ (seq : a.id.seq ≤ b.id.seq). inr (same, seq))
    (cases_lt b.id.seq a.id.seq))
    (cases_lt a.id.lane b.id.lane))
    (cases_lt b.id.lane a.id.lane)

tail_sorted : (x : ReplyData) (xs : List ReplyData) → AreSorted (x ∷ xs) → AreSorted xs
tail_sorted x xs sorted = λ k d le lt. subst (λ (i : ℕ). is_lt (by_id (slice_index_or (x ∷ xs) i d) (slice_index_or xs k d)) ≡ false) (next k) (sorted (suc k) d (omega arith) (omega (arith, lt)))
  where
    next : (k : ℕ) → suc k + 1 ≡ suc (k + 1)
    next k = omega arith

all_after : (x : ReplyData) (xs : List ReplyData)
    → AreSorted (x ∷ xs)
    → AllByRecursion (λ y. NotAfter x.id y.id) xs
all_after x [] sorted = tt
all_after x (y ∷ ys) sorted =
    let first : NotAfter x.id y.id = neighbours x y (sorted 0 x (omega arith) (omega arith)) in
    (first, all_weaker (λ (z : ReplyData). NotAfter y.id z.id) (λ z. NotAfter x.id z.id) (λ z second. not_after_trans x.id y.id z.id first second) ys (all_after y ys (tail_sorted x (y ∷ ys) sorted)))

never_falls : (replies : List ReplyData)
    → AreSorted replies
    → NeverFalls same_job Before (map answered replies)
never_falls [] sorted = tt
never_falls (x ∷ xs) sorted = (none_before xs (all_after x xs sorted), never_falls xs (tail_sorted x xs sorted))
  where
    none_before : (ys : List ReplyData)
        → AllByRecursion (λ y. NotAfter x.id y.id) ys
        → AllByRecursion (λ q. ¬ Before q (answered x)) (map answered ys)
    none_before [] after = tt
    none_before (y ∷ ys) after = (not_before x.id y.id after.0, none_before ys after.1)

-- ---- sorted replies that answer all jobs

pub sorted_answers : (n : ℕ) (jobs : List (List JobData)) (by_worker : List (List ReplyData))
    (rest replies : List ReplyData)
    → IsPermutation (all_replies by_worker rest) replies
    → AreSorted replies
    → AnswersAll n jobs by_worker rest
    → AreInOrder n jobs replies
sorted_answers n jobs by_worker rest replies same sorted all =
    let moved = IsPermutation-map answered (all_replies by_worker rest) replies same in
    record {
      answers = in_order same_job Before (jobs_with_ids jobs) (map answered replies)
          (λ weight. total-IsPermutation weight _ _ all.answers ∙ total-IsPermutation weight _ _ moved)
          (lanes_rise 0 jobs) (never_falls replies sorted);
      right = All-permutation (IsRight n) (all_replies by_worker rest) replies same all.right;
    }
