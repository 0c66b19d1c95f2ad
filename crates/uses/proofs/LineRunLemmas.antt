-- What the end of a queue with two lanes and two passes says of the jobs that were passed in.
use Rattle.std.proofs.Common.{sym, ◌≡◌, ℕ, ◌+◌, ◌<◌, ◌⊎◌, ⊎_elim, inl, inr, List, [], ◌∷◌, ◌++◌, map, ap, arith}
use Rattle.std.specs.List.{All}
use Rattle.std.proofs.lemmas.List.Elements.{All-head, All-tail, All-same}
use mathlib.Core.Logic.{dite}
use native.Mathlib.Decide.{ℕ_discrete}
use Rattle.ghost_history.specs.Sums.{total, is_at, times}
use Rattle.ghost_history.proofs.SumLemmas.{total-append, total-map, is_at-other}
use Rattle.job_types.specs.Job.{JobData}
use Rattle.job_queue.specs.declared.record.QueuedJob.{QueuedJob}
use Rattle.job_queue.specs.declared.record.LaneRecord.{LaneRecord}
use Rattle.job_queue.specs.declared.record.PassRecord.{PassRecord}
use Rattle.job_queue.specs.Record.{accepted, job_of, accepted_jobs}
use Rattle.job_queue.specs.Run.{WholeRun}

-- ---- lists of two

pub first_of_two : {A : Type 0} (P : A → Type 0) (xs : List A) (a b : A)
    → xs ≡ a ∷ b ∷ []
    → All P xs
    → P a
first_of_two P xs a b is all = All-head P a (b ∷ []) (All-same P (a ∷ b ∷ []) xs (sym is) all)

pub second_of_two : {A : Type 0} (P : A → Type 0) (xs : List A) (a b : A)
    → xs ≡ a ∷ b ∷ []
    → All P xs
    → P b
second_of_two P xs a b is all = All-head P b [] (All-tail P a (b ∷ []) (All-same P (a ∷ b ∷ []) xs (sym is) all))

-- ---- a whole run

found_at : (k x : ℕ) → is_at k x ≡ 1 → x ≡ k
found_at k x found = dite (ℕ_discrete x k) (λ e. e) (λ ne. absurd (omega (arith, is_at-other k x ne)))

-- Two numbers that are 0 and 1, in some order.
two_numbers : (m n : ℕ)
    → is_at 0 m + is_at 0 n ≡ 1
    → is_at 1 m + is_at 1 n ≡ 1
    → ((m ≡ 0) × (n ≡ 1)) ⊎ ((m ≡ 1) × (n ≡ 0))
two_numbers m n zero_once one_once =
    dite (ℕ_discrete m 0)
    (λ e. let none : is_at 1 m ≡ 0 = is_at-other 1 m (λ one. omega arith) in inl (e, found_at 1 n (omega arith)))
    (λ ne. let none = is_at-other 0 m ne in let last : n ≡ 0 = found_at 0 n (omega arith) in let not_one : is_at 1 n ≡ 0 = is_at-other 1 n (λ one. omega arith) in inr (found_at 1 m (omega arith), last))

pub each_once : (weight : JobData → ℕ) (r s : LaneRecord) (p q : PassRecord) (rest : List QueuedJob)
    (note : ℕ) (jobs : ℕ → List JobData) (r_left s_left : List JobData)
    → WholeRun (r ∷ s ∷ []) (p ∷ q ∷ []) rest note
    → ((k : ℕ) → k < 2 → times k (r.number ∷ s.number ∷ []) ≡ 1)
    → accepted_jobs r ++ r_left ≡ jobs r.number
    → accepted_jobs s ++ s_left ≡ jobs s.number
    → total weight (jobs 0 ++ jobs 1) ≡ total weight (map job_of (p.taken ++ q.taken ++ rest))
    + total weight (r_left ++ s_left)
each_once weight r s p q rest note jobs r_left s_left run numbers r_fed s_fed =
    let w : QueuedJob → ℕ = λ x. weight x.job in
    let all : total weight (jobs r.number) + total weight (jobs s.number) ≡ total weight (jobs 0) + total weight (jobs 1) =
    ⊎_elim (λ (e : (r.number ≡ 0) × (s.number ≡ 1)). omega (arith, ap (λ (k : ℕ). total weight (jobs k)) e.0, ap (λ (k : ℕ). total weight (jobs k)) e.1))
    (λ (e : (r.number ≡ 1) × (s.number ≡ 0)). omega (arith, ap (λ (k : ℕ). total weight (jobs k)) e.0, ap (λ (k : ℕ). total weight (jobs k)) e.1))
    (two_numbers r.number s.number (omega (arith, numbers 0 (omega arith))) (omega (arith, numbers 1 (omega arith)))) in
    omega (
      arith,
      run.balance w,
      all,
      total-append weight (jobs 0) (jobs 1),
      total-append weight r_left s_left,
      ap (total weight) r_fed,
      ap (total weight) s_fed,
      total-append weight (accepted_jobs r) r_left,
      total-append weight (accepted_jobs s) s_left,
      total-map weight job_of (accepted r.entries),
      total-map weight job_of (accepted s.entries),
      total-map weight job_of (p.taken ++ q.taken ++ rest),
      total-append w (p.taken ++ q.taken) rest,
      total-append w p.taken q.taken,
    )
