-- From the lists of lanes to the jobs of a file: all are there, each under its id.
use Rattle.std.proofs.Common.{◌≡◌, ◌≢◌, ℕ, zero, suc, ◌+◌, ◌<◌, ◌≤◌, ◌==◌, inl, inr, List, [], ◌∷◌, ◌++◌, All, length, slice_index_or, if◌then◌else◌, refl, sym, ap, subst, ◌∙◌, arith}
use Rattle.std.specs.List.Sorted.{IsPermutation}
use Rattle.std.proofs.lemmas.Bool.{cases_eq}
use Rattle.std.proofs.lemmas.Bool.Decides.{nat_tests}
use Rattle.std.proofs.lemmas.List.Sorted.{IsPermutation-append_right, IsPermutation-cons, IsPermutation-middle, IsPermutation-refl, IsPermutation-sym, IsPermutation-trans}
use Rattle.std.proofs.lemmas.List.Sums.{sum_by_push}
use Rattle.job_types.specs.Job.{JobData}
use Rattle.job_queue.specs.declared.record.QueuedJob.{QueuedJob}
use Rattle.jobs_csv.specs.Lanes.{in_lane}
use Rattle.dispatcher.specs.Answers.{jobs_with_ids, lanes_with_ids, with_ids_from}
use Rattle.cli_commands.specs.JobIds.{lane_count, with_id_after, with_ids, with_ids_after}
use Rattle.cli_commands.specs.OpenLanes.{AreOpenLanes}
use Rattle.cli_commands.proofs.LaneLemmas.{lane_front, other_front}

-- ---- the lists of lanes, joined

-- the lists of n lanes, from the first one on
abbrev concat_lanes : (ℕ → List QueuedJob) → ℕ → ℕ → List QueuedJob
concat_lanes named first zero = []
concat_lanes named first (suc n) = named first ++ concat_lanes named (first + 1) n

-- lists that are the same from the first lane on
concat_lanes_same : (f g : ℕ → List QueuedJob) (first n : ℕ)
    → ((lane : ℕ) → first ≤ lane → f lane ≡ g lane)
    → concat_lanes f first n ≡ concat_lanes g first n
concat_lanes_same f g first zero same = refl
concat_lanes_same f g first (suc n) same = ap (λ (front : List QueuedJob). front ++ concat_lanes f (first + 1) n) (same first (omega arith)) ∙ ap (λ (rest : List QueuedJob). g first ++ rest) (concat_lanes_same f g (first + 1) n (λ lane le. same lane (omega (arith, le))))

concat_lanes_none : (f : ℕ → List QueuedJob) (first n : ℕ)
    → ((lane : ℕ) → f lane ≡ [])
    → concat_lanes f first n ≡ []
concat_lanes_none f first zero none = refl
concat_lanes_none f first (suc n) none = ap (λ (front : List QueuedJob). front ++ concat_lanes f (first + 1) n) (none first) ∙ concat_lanes_none f (first + 1) n none

-- one lane has one job more, in front
one_in_front : (f g : ℕ → List QueuedJob) (x : QueuedJob) (k first n : ℕ)
    → first ≤ k
    → k < first + n
    → g k ≡ x ∷ f k
    → ((lane : ℕ) → lane ≢ k → g lane ≡ f lane)
    → IsPermutation (x ∷ concat_lanes f first n) (concat_lanes g first n)
one_in_front f g x k first zero le lt here others = absurd (omega (arith, le, lt))
one_in_front f g x k first (suc n) le lt here others = elim (cases_eq first k) [
  | inl same ↦
      let later : concat_lanes f (first + 1) n ≡ concat_lanes g (first + 1) n = concat_lanes_same f g (first + 1) n (λ lane past. sym (others lane (λ at. absurd (omega (arith, past, at, same))))) in
      let front : g first ≡ x ∷ f first = rw same here in
      subst (IsPermutation (x ∷ (f first ++ concat_lanes f (first + 1) n))) (ap (λ (rest : List QueuedJob). x ∷ (f first ++ rest)) later ∙ ap (λ (l : List QueuedJob). l ++ concat_lanes g (first + 1) n) (sym front)) (IsPermutation-refl _)
  | inr other ↦
      let rest = one_in_front f g x k (first + 1) n (omega (arith, le, other)) (omega (arith, lt)) here others in
      let moved : IsPermutation (x ∷ (f first ++ concat_lanes f (first + 1) n)) (f first ++ x ∷ concat_lanes f (first + 1) n) = IsPermutation-sym _ _ (IsPermutation-middle (f first) x (concat_lanes f (first + 1) n)) in
      let behind : IsPermutation (f first ++ x ∷ concat_lanes f (first + 1) n) (f first ++ concat_lanes g (first + 1) n) = IsPermutation-append_right (f first) _ _ rest in
      subst (λ (front : List QueuedJob). IsPermutation (x ∷ (f first ++ concat_lanes f (first + 1) n)) (front ++ concat_lanes g (first + 1) n)) (sym (others first other)) (IsPermutation-trans _ _ _ moved behind)
]

-- ---- all jobs are there

-- the jobs of a lane with their ids, when these came before all
lane_with_ids : List JobData → List JobData → ℕ → List QueuedJob
lane_with_ids before jobs lane = with_ids_from lane (lane_count lane before) (in_lane lane jobs)

count_push : (lane : ℕ) (jobs : List JobData) (job : JobData)
    → lane_count lane (jobs ++ job ∷ [])
    ≡ lane_count lane jobs + (if job.lane == lane then 1 else 0)
count_push lane jobs job = sum_by_push (λ other. if other.lane == lane then 1 else 0) jobs job

with_ids_here : (before jobs : List JobData) (job : JobData)
    → lane_with_ids before (job ∷ jobs) job.lane
    ≡ with_id_after before job ∷ lane_with_ids (before ++ job ∷ []) jobs job.lane
unfolding lane_with_ids
with_ids_here before jobs job =
    let count : lane_count job.lane (before ++ job ∷ []) ≡ lane_count job.lane before + 1 = grind (arith, nat_tests, count_push job.lane before job) in
    ap (with_ids_from job.lane (lane_count job.lane before)) (lane_front job.lane job jobs refl)
    ∙ ap (λ (seq : ℕ). with_id_after before job ∷ with_ids_from job.lane seq (in_lane job.lane jobs)) (sym count)

with_ids_else : (before jobs : List JobData) (job : JobData) (lane : ℕ)
    → lane ≢ job.lane
    → lane_with_ids before (job ∷ jobs) lane ≡ lane_with_ids (before ++ job ∷ []) jobs lane
unfolding lane_with_ids
with_ids_else before jobs job lane other =
    let count : lane_count lane (before ++ job ∷ []) ≡ lane_count lane before = grind (arith, nat_tests, count_push lane before job) in
    ap (with_ids_from lane (lane_count lane before)) (other_front lane job jobs other)
    ∙ ap (λ (seq : ℕ). with_ids_from lane seq (in_lane lane jobs)) (sym count)

all_there : (lanes : ℕ) (before jobs : List JobData)
    → All (λ job. job.lane < lanes) jobs
    → IsPermutation (with_ids_after before jobs) (concat_lanes (lane_with_ids before jobs) 0 lanes)
unfolding with_ids_after lane_with_ids
all_there lanes before [] below = subst (IsPermutation []) (sym (concat_lanes_none (lane_with_ids before []) 0 lanes (λ lane. refl))) (IsPermutation-refl [])
all_there lanes before (job ∷ jobs) below =
    let front = before ++ job ∷ [] in
    let first : job.lane < lanes = below 0 job (omega arith) in
    IsPermutation-trans _ _ _
    (IsPermutation-cons (with_id_after before job) _ _ (all_there lanes front jobs (λ k d lt. below (suc k) d (omega (arith, lt)))))
    (one_in_front (lane_with_ids front jobs) (lane_with_ids before (job ∷ jobs)) (with_id_after before job) job.lane 0 lanes (omega arith) (omega (arith, first)) (with_ids_here before jobs job) (λ lane other. with_ids_else before jobs job lane other))

-- ---- the lists of the open lanes

as_concat_lanes : (jobs_of : ℕ → List JobData) (lists : List (List JobData)) (first : ℕ)
    → ((k lane : ℕ) → k < length lists → lane ≡ first + k → slice_index_or lists k []
    ≡ jobs_of lane)
    → lanes_with_ids first lists ≡ concat_lanes (λ lane. with_ids_from lane 0 (jobs_of lane)) first
    (length lists)
as_concat_lanes jobs_of [] first each = refl
as_concat_lanes jobs_of (list ∷ lists) first each =
    ap (λ (jobs : List JobData). with_ids_from first 0 jobs ++ lanes_with_ids (first + 1) lists) (each 0 first (omega arith) (omega arith))
    ∙ ap (λ (rest : List QueuedJob). with_ids_from first 0 (jobs_of first) ++ rest) (as_concat_lanes jobs_of lists (first + 1) (λ k lane lt at. each (suc k) lane (omega (arith, lt)) (omega (arith, at))))

-- the jobs of the open lanes are those of the file, each under its id
pub all_jobs : (lists : List (List JobData)) (jobs : List JobData)
    → AreOpenLanes lists jobs
    → IsPermutation (with_ids jobs) (jobs_with_ids lists)
unfolding lane_with_ids
all_jobs lists jobs k =
    subst (IsPermutation (with_ids jobs)) (sym (as_concat_lanes (λ lane. in_lane lane jobs) lists 0 (λ place lane lt at. k.each place lt ∙ ap (λ (l : ℕ). in_lane l jobs) (omega (arith, at))))) (all_there (length lists) [] jobs k.count.all)
