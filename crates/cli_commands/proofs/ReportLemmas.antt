-- The weight of the slips of a finished dispatcher, by the jobs that its replies answer. Also the
-- rows, one by one.
use Rattle.std.proofs.Common.{◌≡◌, ℕ, ◌+◌, ◌-◌, ◌^◌, ◌==◌, true, cond, ◌++◌, List, [], ◌∷◌, map, length, refl, sym, ap, ◌∙◌, arith}
use Rattle.std.specs.List.{All, flat_map, range_with_len}
use Rattle.std.specs.List.Sorted.{IsPermutation}
use Rattle.std.proofs.lemmas.List.{append_assoc}
use Rattle.std.proofs.lemmas.List.Concat.{flat_map-cons}
use Rattle.std.proofs.lemmas.List.Elements.{All-head, All-tail}
use Rattle.std.proofs.lemmas.List.FromFn.{map-range_with_len_more}
use Rattle.ghost_history.specs.Sums.{total}
use Rattle.ghost_history.proofs.SumLemmas.{total-append, total-map}
use Rattle.job_types.specs.Reply.{ReplyData}
use Rattle.job_queue.specs.declared.record.QueuedJob.{QueuedJob}
use Rattle.dispatcher.specs.Reply.{answered, IsRight}
use Rattle.dispatcher.specs.Answers.{all_replies}
use Rattle.dispatcher.proofs.PermutationLemmas.{total-IsPermutation}
use Rattle.jobs_csv.specs.declared.report_rows.ReportRow.{ReportRow}
use Rattle.jobs_csv.specs.declared.report_rows.ReportRow.TheVariants as row
use Rattle.cube_ledger.specs.declared.slip.Slip.{Slip}
use Rattle.cube_ledger.specs.Ledger.{HasAllSlips, is_any, is_of_dim, is_of_lane, processors_of, slip_of, totals_of}
use Rattle.cli_commands.specs.ReportRows.{dim_asked, dim_row, free_row, idle_that, jobs_that, lane_row, processors_that, rows_of, total_row}
use Rattle.cli_commands.specs.Inner.ReportRows.{dim_row_in, lane_row_in, total_row_in}

-- one row more
pub row_more : {X : Type 0} (f : ℕ → X) (xs ys : List X) (n : ℕ)
    → ys ≡ xs ++ map f (range_with_len 0 n)
    → ys ++ f n ∷ [] ≡ xs ++ map f (range_with_len 0 (n + 1))
row_more f xs ys n same =
    ap (λ (front : List _). front ++ f n ∷ []) same
    ∙ append_assoc xs (map f (range_with_len 0 n)) (f n ∷ [])
    ∙ ap (λ (rest : List _). xs ++ rest) (sym (map-range_with_len_more f 0 n n (omega arith)))

total-flat : {A : Type 0} (f : A → ℕ) (xss : List (List A))
    → total f (flat_map (λ xs. xs) xss) ≡ total (total f) xss
total-flat f [] = refl
total-flat f (xs ∷ xss) = ap (total f) (flat_map-cons (λ ys. ys) xs xss) ∙ total-append f xs (flat_map (λ ys. ys) xss) ∙ ap (λ (rest : ℕ). total f xs + rest) (total-flat f xss)

-- a weight of slips, and a weight of jobs that agrees with it if the reply is right
module _ (n : ℕ) (weight : Slip → ℕ) (job_weight : QueuedJob → ℕ)
    (same : (r : ReplyData) → IsRight n r → weight (slip_of r) ≡ job_weight (answered r)) where
  of_replies : (replies : List ReplyData)
      → All (IsRight n) replies
      → total (λ r. weight (slip_of r)) replies ≡ total (λ r. job_weight (answered r)) replies
  of_replies [] right = refl
  of_replies (r ∷ replies) right = omega (arith, same r (All-head (IsRight n) r replies right), of_replies replies (All-tail (IsRight n) r replies right))

  pub slips_weigh : (jobs : List QueuedJob) (by_worker : List (List ReplyData))
      (rest : List ReplyData) (slips : List Slip)
      → HasAllSlips by_worker rest slips
      → IsPermutation jobs (map answered (all_replies by_worker rest))
      → All (IsRight n) (all_replies by_worker rest)
      → total weight slips ≡ total job_weight jobs
  slips_weigh jobs by_worker rest slips all permuted right =
      let each : ReplyData → ℕ = λ r. weight (slip_of r) in
      let split : total each (all_replies by_worker rest) ≡ total each (flat_map (λ rs. rs) by_worker) + total each rest = total-append each (flat_map (λ rs. rs) by_worker) rest in
      let slips_are : total weight slips ≡ total (total each) by_worker + total each rest = all weight in
      let workers : total each (flat_map (λ rs. rs) by_worker) ≡ total (total each) by_worker = total-flat each by_worker in
      let jobs_are : total job_weight (map answered (all_replies by_worker rest)) ≡ total (λ r. job_weight (answered r)) (all_replies by_worker rest) = total-map job_weight answered (all_replies by_worker rest) in
      let alike : total job_weight jobs ≡ total job_weight (map answered (all_replies by_worker rest)) = total-IsPermutation job_weight jobs _ permuted in
      omega (arith, slips_are, workers, split, of_replies (all_replies by_worker rest) right, jobs_are, alike)

-- the dimension of a right reply's block is the one that its job asked for
dim_is : (n : ℕ) (r : ReplyData) → IsRight n r → r.region.dim ≡ dim_asked (answered r)
dim_is n r right = right.dimension

module _ (n : ℕ) (jobs : List QueuedJob) (by_worker : List (List ReplyData)) (rest : List ReplyData)
    (slips : List Slip) (all : HasAllSlips by_worker rest slips)
    (permuted : IsPermutation jobs (map answered (all_replies by_worker rest)))
    (right : All (IsRight n) (all_replies by_worker rest)) where
  lane_jobs : (lane : ℕ)
      → (totals_of (is_of_lane lane) slips).jobs ≡ jobs_that (λ q. q.id.lane == lane) jobs
  lane_jobs lane = slips_weigh n (λ s. cond (is_of_lane lane s) 1 0) (λ q. cond (q.id.lane == lane) 1 0) (λ r k. refl) jobs by_worker rest slips all permuted right

  lane_processors : (lane : ℕ)
      → (totals_of (is_of_lane lane) slips).processors
      ≡ processors_that (λ q. q.id.lane == lane) jobs
  lane_processors lane = slips_weigh n (λ s. cond (is_of_lane lane s) (processors_of s) 0) (λ q. cond (q.id.lane == lane) (2 ^ dim_asked q) 0) (λ r k. ap (λ (d : ℕ). cond (r.id.lane == lane) (2 ^ d) 0) (dim_is n r k)) jobs by_worker rest slips all permuted right

  lane_idle : (lane : ℕ)
      → (totals_of (is_of_lane lane) slips).idle ≡ idle_that (λ q. q.id.lane == lane) jobs
  lane_idle lane = slips_weigh n (λ s. cond (is_of_lane lane s) s.idle 0) (λ q. cond (q.id.lane == lane) (2 ^ dim_asked q - length q.job.items) 0) (λ r k. ap (λ (d : ℕ). cond (r.id.lane == lane) (2 ^ d - length r.job.items) 0) (dim_is n r k)) jobs by_worker rest slips all permuted right

  dim_jobs : (dim : ℕ)
      → (totals_of (is_of_dim dim) slips).jobs ≡ jobs_that (λ q. dim_asked q == dim) jobs
  dim_jobs dim = slips_weigh n (λ s. cond (is_of_dim dim s) 1 0) (λ q. cond (dim_asked q == dim) 1 0) (λ r k. ap (λ (d : ℕ). cond (d == dim) 1 0) (dim_is n r k)) jobs by_worker rest slips all permuted right

  dim_processors : (dim : ℕ)
      → (totals_of (is_of_dim dim) slips).processors
      ≡ processors_that (λ q. dim_asked q == dim) jobs
  dim_processors dim = slips_weigh n (λ s. cond (is_of_dim dim s) (processors_of s) 0) (λ q. cond (dim_asked q == dim) (2 ^ dim_asked q) 0) (λ r k. ap (λ (d : ℕ). cond (d == dim) (2 ^ d) 0) (dim_is n r k)) jobs by_worker rest slips all permuted right

  dim_idle : (dim : ℕ)
      → (totals_of (is_of_dim dim) slips).idle ≡ idle_that (λ q. dim_asked q == dim) jobs
  dim_idle dim = slips_weigh n (λ s. cond (is_of_dim dim s) s.idle 0) (λ q. cond (dim_asked q == dim) (2 ^ dim_asked q - length q.job.items) 0) (λ r k. ap (λ (d : ℕ). cond (d == dim) (2 ^ d - length r.job.items) 0) (dim_is n r k)) jobs by_worker rest slips all permuted right

  total_jobs : (totals_of is_any slips).jobs ≡ jobs_that (λ q. true) jobs
  total_jobs = slips_weigh n (λ s. cond (is_any s) 1 0) (λ q. cond true 1 0) (λ r k. refl) jobs by_worker rest slips all permuted right

  total_processors : (totals_of is_any slips).processors ≡ processors_that (λ q. true) jobs
  total_processors = slips_weigh n (λ s. cond (is_any s) (processors_of s) 0) (λ q. cond true (2 ^ dim_asked q) 0) (λ r k. ap (λ (d : ℕ). 2 ^ d) (dim_is n r k)) jobs by_worker rest slips all permuted right

  total_idle : (totals_of is_any slips).idle ≡ idle_that (λ q. true) jobs
  total_idle = slips_weigh n (λ s. cond (is_any s) s.idle 0) (λ q. cond true (2 ^ dim_asked q - length q.job.items) 0) (λ r k. ap (λ (d : ℕ). 2 ^ d - length r.job.items) (dim_is n r k)) jobs by_worker rest slips all permuted right

  lane_rows : (lanes : List ℕ) → map (lane_row_in slips) lanes ≡ map (lane_row jobs) lanes
  lane_rows [] = refl
  lane_rows (lane ∷ lanes) =
      ap (λ (k : ℕ). row.Lane lane k (totals_of (is_of_lane lane) slips).processors (totals_of (is_of_lane lane) slips).idle ∷ map (lane_row_in slips) lanes) (lane_jobs lane)
      ∙ ap (λ (p : ℕ). row.Lane lane (jobs_that (λ q. q.id.lane == lane) jobs) p (totals_of (is_of_lane lane) slips).idle ∷ map (lane_row_in slips) lanes) (lane_processors lane)
      ∙ ap (λ (i : ℕ). row.Lane lane (jobs_that (λ q. q.id.lane == lane) jobs) (processors_that (λ q. q.id.lane == lane) jobs) i ∷ map (lane_row_in slips) lanes) (lane_idle lane)
      ∙ ap (λ (rows : List ReportRow). lane_row jobs lane ∷ rows) (lane_rows lanes)

  dim_rows : (dims : List ℕ) → map (dim_row_in slips) dims ≡ map (dim_row jobs) dims
  dim_rows [] = refl
  dim_rows (dim ∷ dims) =
      ap (λ (k : ℕ). row.Dim dim k (totals_of (is_of_dim dim) slips).processors (totals_of (is_of_dim dim) slips).idle ∷ map (dim_row_in slips) dims) (dim_jobs dim)
      ∙ ap (λ (p : ℕ). row.Dim dim (jobs_that (λ q. dim_asked q == dim) jobs) p (totals_of (is_of_dim dim) slips).idle ∷ map (dim_row_in slips) dims) (dim_processors dim)
      ∙ ap (λ (i : ℕ). row.Dim dim (jobs_that (λ q. dim_asked q == dim) jobs) (processors_that (λ q. dim_asked q == dim) jobs) i ∷ map (dim_row_in slips) dims) (dim_idle dim)
      ∙ ap (λ (rows : List ReportRow). dim_row jobs dim ∷ rows) (dim_rows dims)

  total_row_is : total_row_in slips ≡ total_row jobs
  total_row_is =
      ap (λ (k : ℕ). row.Total k (totals_of is_any slips).processors (totals_of is_any slips).idle) total_jobs
      ∙ ap (λ (p : ℕ). row.Total (jobs_that (λ q. true) jobs) p (totals_of is_any slips).idle) total_processors
      ∙ ap (λ (i : ℕ). row.Total (jobs_that (λ q. true) jobs) (processors_that (λ q. true) jobs) i) total_idle

  -- all rows, as they were added
  pub rows_are : (lanes : ℕ) (a b c d : List ReportRow)
      → a ≡ map (lane_row_in slips) (range_with_len 0 lanes)
      → b ≡ a ++ map (dim_row_in slips) (range_with_len 0 (n + 1))
      → c ≡ b ++ map (free_row n) (range_with_len 0 (n + 1))
      → d ≡ c ++ total_row_in slips ∷ []
      → d ≡ rows_of n lanes jobs
  rows_are lanes a b c d first second third fourth =
      fourth
      ∙ ap (λ (front : List ReportRow). front ++ total_row_in slips ∷ []) (third ∙ ap (λ (front : List ReportRow). front ++ map (free_row n) (range_with_len 0 (n + 1))) (second ∙ ap (λ (front : List ReportRow). front ++ map (dim_row_in slips) (range_with_len 0 (n + 1))) (first ∙ lane_rows (range_with_len 0 lanes))))
      ∙ ap (λ (dims : List ReportRow). ((map (lane_row jobs) (range_with_len 0 lanes) ++ dims) ++ map (free_row n) (range_with_len 0 (n + 1))) ++ total_row_in slips ∷ []) (dim_rows (range_with_len 0 (n + 1)))
      ∙ ap (λ (last : ReportRow). ((map (lane_row jobs) (range_with_len 0 lanes) ++ map (dim_row jobs) (range_with_len 0 (n + 1))) ++ map (free_row n) (range_with_len 0 (n + 1))) ++ last ∷ []) total_row_is
