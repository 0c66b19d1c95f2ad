-- The lanes of jobs, and which of them are open.
use Rattle.std.proofs.Common.{◌≡◌, ◌≢◌, ◌⊎◌, ℕ, suc, ◌-◌, ◌<◌, ◌≤◌, ◌==◌, inl, inr, Bool, true, false, List, [], ◌∷◌, All, Global, length, map, take, slice_index_or, if◌then◌else◌, refl, sym, ap, subst, ◌∙◌, arith}
use Rattle.std.proofs.lemmas.Bool.{cases_eq, cases_lt}
use Rattle.std.proofs.lemmas.Bool.Decides.{nat_tests}
use Rattle.std.proofs.lemmas.List.{get_or-map, get_or-take, length-map, length-take-le}
use Rattle.std.proofs.lemmas.List.Elements.{All-cons}
use Rattle.std.specs.declared.collections.VecDeque.{VecDeque}
use Rattle.job_types.specs.Job.{JobData}
use Rattle.cube_shape.specs.declared.limits.TheConstants.{MAX_LANES}
use Rattle.job_queue.specs.Line.{IsFor}
use Rattle.jobs_csv.specs.Lanes.{AreLanes, in_lane}
use Rattle.cli_commands.specs.OpenLanes.{IsLaneCount}
use Rattle.cli_commands.specs.OpenLanes.{AreOpenLanes}

-- ---- one job more in front

-- it is in its own lane
pub lane_front : (lane : ℕ) (job : JobData) (jobs : List JobData)
    → job.lane ≡ lane
    → in_lane lane (job ∷ jobs) ≡ job ∷ in_lane lane jobs
lane_front lane job jobs same =
    let here : (job.lane == lane) ≡ true = grind (arith, nat_tests) in
    ap (λ (b : Bool). if b then job ∷ in_lane lane jobs else in_lane lane jobs) here

-- and in no other
pub other_front : (lane : ℕ) (job : JobData) (jobs : List JobData)
    → lane ≢ job.lane
    → in_lane lane (job ∷ jobs) ≡ in_lane lane jobs
other_front lane job jobs other =
    let apart : (job.lane == lane) ≡ false = grind (arith, nat_tests) in
    ap (λ (b : Bool). if b then job ∷ in_lane lane jobs else in_lane lane jobs) apart

-- ---- lanes with no job

cons_is_empty : (job : JobData) (jobs : List JobData) → job ∷ jobs ≡ [] → ⊥
cons_is_empty job jobs e = let bad : suc (length jobs) ≡ 0 = ap length e in absurd (omega (arith, bad))

-- a lane past those of all jobs has no job
pub past_all : (fewer lane : ℕ) (jobs : List JobData)
    → fewer ≤ lane
    → All (λ job. job.lane < fewer) jobs
    → in_lane lane jobs ≡ []
past_all fewer lane [] le below = refl
past_all fewer lane (job ∷ jobs) le below =
    let first : job.lane < fewer = below 0 job (omega arith) in
    other_front lane job jobs (λ same. absurd (omega (arith, first, le, same))) ∙ past_all fewer lane jobs le (λ k d lt. below (suc k) d (omega (arith, lt)))

-- if the lanes from a count on have no job, all jobs are in lanes below it
below_count : (count : ℕ) (jobs : List JobData)
    → ((lane : ℕ) → count ≤ lane → lane < MAX_LANES → in_lane lane jobs ≡ [])
    → All (λ job. job.lane < MAX_LANES) jobs
    → All (λ job. job.lane < count) jobs
below_count count [] none below = λ k d lt. absurd (omega (arith, lt))
below_count count (job ∷ jobs) none below =
    All-cons (λ (j : JobData). j.lane < count) job jobs first (below_count count jobs later (λ k d lt. below (suc k) d (omega (arith, lt))))
  where
    first : job.lane < count
    first = elim (cases_lt job.lane count) [
      | inl lt ↦ lt
      | inr le ↦ absurd (cons_is_empty job (in_lane job.lane jobs) (sym (lane_front job.lane job jobs refl) ∙ none job.lane le (below 0 job (omega arith))))
    ]

    later : (lane : ℕ) → count ≤ lane → lane < MAX_LANES → in_lane lane jobs ≡ []
    later lane le lt = sym (other_front lane job jobs (λ same. absurd (omega (arith, first, le, same)))) ∙ none lane le lt

-- ---- the open lanes

module _ (lanes : List (VecDeque JobData Global)) (count : ℕ) (jobs : List JobData)
    (none : VecDeque JobData Global) (are : AreLanes lanes jobs) where
  lists : List (List JobData)
  lists = map (λ lane. lane.items) (take count lanes)

  -- there are as many lists as the count
  listed : count ≤ length lanes → length lists ≡ count
  unfolding lists
  listed le = length-map (take count lanes) (λ (lane : VecDeque JobData Global). lane.items) ∙ length-take-le count lanes le

  same_lane : count ≤ length lanes
      → (lane : ℕ)
      → lane < count
      → slice_index_or lists lane [] ≡ in_lane lane jobs
  unfolding lists
  same_lane le lane lt =
      let within : lane < length (take count lanes) = omega (arith, lt, length-take-le count lanes le) in
      get_or-map (λ (l : VecDeque JobData Global). l.items) (take count lanes) lane none [] within
      ∙ ap (λ (l : VecDeque JobData Global). l.items) (get_or-take count lanes lane none lt)
      ∙ are.each lane none (omega (arith, lt, le, are.count))

  lane_count_is : 1 ≤ count
      → count ≤ length lanes
      → ((lane : ℕ) (d : VecDeque JobData Global) → count ≤ lane → lane < length lanes
      → (slice_index_or lanes lane d).items ≡ [])
      → (count ≡ 1) ⊎ ((d : VecDeque JobData Global)
      → (slice_index_or lanes (count - 1) d).items ≢ [])
      → IsLaneCount jobs count
  lane_count_is some le past last = record {
    some = some;
    all = below_count count jobs (λ lane from lt. sym (are.each lane none lt) ∙ past lane none from (omega (arith, lt, are.count))) are.below;
    least = least;
  }
    where
      least : (fewer : ℕ) → 1 ≤ fewer → All (λ job. job.lane < fewer) jobs → count ≤ fewer
      least fewer one below = elim last [
        | inl single ↦ omega (arith, single, one)
        | inr has ↦ elim (cases_lt fewer count) [
          | inl lt ↦ absurd (has none (are.each (count - 1) none (omega (arith, some, le, are.count)) ∙ past_all fewer (count - 1) jobs (omega (arith, lt)) below))
          | inr ge ↦ ge
        ]
      ]

  -- the lists of the first lanes are the open ones
  opened_by : 1 ≤ count
      → count ≤ length lanes
      → ((lane : ℕ) (d : VecDeque JobData Global) → count ≤ lane → lane < length lanes
      → (slice_index_or lanes lane d).items ≡ [])
      → (count ≡ 1) ⊎ ((d : VecDeque JobData Global)
      → (slice_index_or lanes (count - 1) d).items ≢ [])
      → AreOpenLanes lists jobs
  opened_by some le past last = record {
    count = subst (IsLaneCount jobs) (sym (listed le)) (lane_count_is some le past last);
    each = λ lane lt. same_lane le lane (subst (λ (all : ℕ). lane < all) (listed le) lt);
  }

pub opened : (lanes : List (VecDeque JobData Global)) (count : ℕ) (jobs : List JobData)
    → AreLanes lanes jobs
    → 1 ≤ count
    → count ≤ length lanes
    → ((lane : ℕ) (d : VecDeque JobData Global) → count ≤ lane → lane < length lanes
    → (slice_index_or lanes lane d).items ≡ [])
    → (count ≡ 1) ⊎ ((d : VecDeque JobData Global)
    → (slice_index_or lanes (count - 1) d).items ≢ [])
    → AreOpenLanes (map (λ lane. lane.items) (take count lanes)) jobs
unfolding lists
opened [] count jobs are some le past last = absurd (omega (arith, some, le))
opened (first ∷ rest) count jobs are some le past last = opened_by (first ∷ rest) count jobs first are some le past last

-- the same, of lanes that are seen through a reference
pub opened_at : (seen lanes : List (VecDeque JobData Global)) (count : ℕ) (jobs : List JobData)
    → seen ≡ lanes
    → AreLanes lanes jobs
    → 1 ≤ count
    → count ≤ length seen
    → ((lane : ℕ) (d : VecDeque JobData Global) → count ≤ lane → lane < length seen
    → (slice_index_or seen lane d).items ≡ [])
    → (count ≡ 1) ⊎ ((d : VecDeque JobData Global) → (slice_index_or seen (count - 1) d).items ≢ [])
    → AreOpenLanes (map (λ lane. lane.items) (take count lanes)) jobs
opened_at seen lanes count jobs same are some le past last =
    subst (λ (ls : List (VecDeque JobData Global)). AreOpenLanes (map (λ lane. lane.items) (take count ls)) jobs) same (opened seen count jobs (subst (λ (ls : List (VecDeque JobData Global)). AreLanes ls jobs) (sym same) are) some le past last)

-- ---- what the open lanes hold

-- there are no more of them than there may be
pub few_lanes : (lanes : List (VecDeque JobData Global)) (lists : List (List JobData))
    (jobs : List JobData)
    → AreLanes lanes jobs
    → AreOpenLanes lists jobs
    → length lists ≤ MAX_LANES
few_lanes lanes lists jobs are opens = opens.count.least MAX_LANES (omega arith) are.below

-- the jobs of a lane are for that lane
for_lane : (n lane : ℕ) (jobs : List JobData)
    → All (λ job. job.machine ≡ n) jobs
    → All (IsFor n lane) (in_lane lane jobs)
for_lane n lane [] all = λ k d within. absurd (omega (arith, within))
for_lane n lane (job ∷ jobs) all =
    let later : All (IsFor n lane) (in_lane lane jobs) = for_lane n lane jobs (λ k d lt. all (suc k) d (omega (arith, lt))) in
    elim (cases_eq lane job.lane) [
      | inl same ↦ subst (All (IsFor n lane)) (sym (lane_front lane job jobs (sym same))) (All-cons (IsFor n lane) job (in_lane lane jobs) (all 0 job (omega arith), sym same) later)
      | inr other ↦ subst (All (IsFor n lane)) (sym (other_front lane job jobs other)) later
    ]

pub made_for : (n : ℕ) (lists : List (List JobData)) (jobs : List JobData)
    → AreOpenLanes lists jobs
    → All (λ job. job.machine ≡ n) jobs
    → (lane : ℕ)
    → lane < length lists
    → All (IsFor n lane) (slice_index_or lists lane [])
made_for n held jobs opens all lane lt = subst (All (IsFor n lane)) (sym (opens.each lane lt)) (for_lane n lane jobs all)
