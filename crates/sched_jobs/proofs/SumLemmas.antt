-- Sums over jobs and over slots.
use Rattle.std.proofs.Common.{◌≡◌, ◌≢◌, ℕ, zero, suc, ◌+◌, ◌*◌, ◌^◌, ◌<◌, ◌≤◌, inl, inr, Bool, true, false, List, length, replicate, refl, sym, ◌∙◌, ap, subst, arith}
use Rattle.std.specs.Prelude.{nat_lt, if◌then◌else◌}
use Rattle.std.proofs.lemmas.Bool.{cases_eq, cases_lt}
use Rattle.std.proofs.lemmas.List.{get_or_past}
use Rattle.alloc_bits.specs.Count.{IsCount}
use Rattle.sched_jobs.specs.declared.nodes.TheConstants.{MAX_SLOTS}
use Rattle.sched_jobs.specs.declared.nodes.QueueNode.{QueueNode as NodeData}
use Rattle.sched_jobs.specs.Nodes.{key_of}
use Rattle.sched_law.specs.declared.job.TheConstants.{NEVER}
use Rattle.sched_law.specs.declared.job.Place.{Place}
use Rattle.sched_law.specs.declared.job.Place.TheVariants.{Absent, Waiting, Running}
use Rattle.sched_law.specs.declared.job.SchedWait.{SchedWait}
use Rattle.sched_law.specs.declared.job.SchedRun.{SchedRun}
use Rattle.sched_law.specs.State.{set}
use Rattle.sched_law.proofs.SetLemmas.{absent_runs, runs_waits, set_else, set_here}
use Rattle.sched_jobs.specs.declared.slots.Slot.{Slot}
use Rattle.sched_jobs.specs.Slots.{IsPresent, place_by, place_in, slot_in, unused}
use Rattle.sched_jobs.specs.Shows.{ShowsSlots}
use Rattle.sched_jobs.specs.Sums.{IsSum, ShowsRunning, one_known, one_runs, one_timed, sum_below, used_by}
use Rattle.sched_jobs.specs.Inner.Put.{HasPut}
use Rattle.sched_jobs.proofs.SlotLemmas.{inside_table, place_else, place_here}
use Rattle.sched_jobs.proofs.FreeLemmas.{all_unused}

module _ (weight : Place → ℕ) where
  -- where a sum is not 0, a part is not
  pub sum_some : (f : ℕ → Place) (n : ℕ) → 0 < sum_below weight f n → (i : ℕ) × (0 < weight (f i))
  sum_some f zero some = absurd (omega (arith, some))
  sum_some f (suc n) some = elim (cases_lt 0 (weight (f n))) [
    | inl here ↦ (n, here)
    | inr none ↦ sum_some f n (omega (arith, some, none))
  ]

  -- places that weigh the same
  pub sum_alike : (f g : ℕ → Place) (n : ℕ) → ((i : ℕ) → i < n → weight (f i) ≡ weight (g i)) → sum_below weight f n ≡ sum_below weight g n
  sum_alike f g zero same = refl
  sum_alike f g (suc n) same =
      let here = same n (omega arith) in
      let rest = sum_alike f g n (λ i less. same i (omega (arith, less))) in
      omega (arith, here, rest)

  -- one place changes
  pub sum_change : (f g : ℕ → Place) (a n : ℕ) → a < n → ((i : ℕ) → i ≢ a → weight (g i) ≡ weight (f i))
      → sum_below weight g n + weight (f a) ≡ sum_below weight f n + weight (g a)
  sum_change f g a zero less same = absurd (omega (arith, less))
  sum_change f g a (suc n) less same = elim (cases_eq n a) [
    | inl one ↦
        let rest = sum_alike g f n (λ i below. same i (λ at. omega (arith, below, at, one))) in
        let mine : weight (f n) ≡ weight (f a) = ap (λ (i : ℕ). weight (f i)) one in
        let now : weight (g n) ≡ weight (g a) = ap (λ (i : ℕ). weight (g i)) one in
        omega (arith, rest, mine, now)
    | inr other ↦
        let here = same n other in
        let rest = sum_change f g a n (omega (arith, less, other)) same in
        omega (arith, here, rest)
  ]

  -- a sum has each part
  pub sum_part : (f : ℕ → Place) (a n : ℕ) → a < n → weight (f a) ≤ sum_below weight f n
  sum_part f a zero less = absurd (omega (arith, less))
  sum_part f a (suc n) less = elim (cases_eq n a) [
    | inl one ↦ let mine : weight (f n) ≡ weight (f a) = ap (λ (i : ℕ). weight (f i)) one in omega (arith, mine)
    | inr other ↦ let rest = sum_part f a n (omega (arith, less, other)) in omega (arith, rest)
  ]

  pub sum_none : (f : ℕ → Place) (n : ℕ) → ((i : ℕ) → weight (f i) ≡ 0) → sum_below weight f n ≡ 0
  sum_none f zero none = refl
  sum_none f (suc n) none = let here = none n in let rest = sum_none f n none in omega (arith, here, rest)

  -- each place weighs at most 2^32
  pub sum_few : (f : ℕ → Place) (n : ℕ) → ((i : ℕ) → weight (f i) ≤ 2 ^ 32) → sum_below weight f n ≤ n * 2 ^ 32
  sum_few f zero few = omega arith
  sum_few f (suc n) few = let here = few n in let rest = sum_few f n few in omega (arith, here, rest)

  module _ (place : ℕ → Place) (next : ℕ) (slots new : List Slot) (total after at generation : ℕ) (p : Place) (k : IsSum weight place next slots total)
      (put : HasPut slots new at generation p) (inside : at < length slots) (right : after + weight (place_in slots at) ≡ total + weight p) where
    new_slots : after ≡ sum_below weight (place_in new) (length new)
    new_slots =
        let now : weight (place_in new at) ≡ weight p = ap weight (place_here slots new at generation p put at refl) in
        let change = sum_change (place_in slots) (place_in new) at (length slots) inside (λ i other. ap weight (place_else slots new at generation p put i other)) in
        let was = k.of_slots in
        let is : after ≡ sum_below weight (place_in new) (length slots) = omega (arith, now, change, was, right) in
        is ∙ ap (sum_below weight (place_in new)) (sym put.len)

    -- a job has another place
    pub sum_moved : (a : ℕ) → a < next → place a ≡ place_in slots at → IsSum weight (set place a p) next new after
    sum_moved a less here =
        let now : weight (set place a p a) ≡ weight p = ap weight (set_here place a p) in
        let old : weight (place a) ≡ weight (place_in slots at) = ap weight here in
        let change = sum_change place (set place a p) a next less (λ i other. ap weight (set_else place a p i other)) in
        let was = k.of_jobs in
        record { of_jobs = omega (arith, now, old, change, was, right); of_slots = new_slots }

    -- there is a new job
    pub sum_added : weight p ≡ 0 → after ≡ total → IsSum weight (set place next p) (next + 1) new after
    sum_added none same_total =
        let now : weight (set place next p next) ≡ 0 = ap weight (set_here place next p) ∙ none in
        let rest = sum_alike (set place next p) place next (λ i less. ap weight (set_else place next p i (λ at_next. omega (arith, less, at_next)))) in
        let was = k.of_jobs in
        let all : after ≡ sum_below weight (set place next p) (suc next) = omega (arith, now, rest, was, same_total) in
        let one_more : suc next ≡ next + 1 = omega arith in
        record { of_jobs = all ∙ ap (sum_below weight (set place next p)) one_more; of_slots = new_slots }

-- a running job counts as one
pub runs_counted : (place : ℕ → Place) (n : ℕ) → IsCount (λ i. (run : SchedRun) × (place i ≡ Running run)) n (sum_below one_runs place n)
runs_counted place zero = refl
runs_counted place (suc n) = at (place n) refl (runs_counted place n)
  where
    none_more : sum_below one_runs place n ≡ 0 + sum_below one_runs place n
    none_more = omega arith

    at : (p : Place) → place n ≡ p → IsCount (λ i. (run : SchedRun) × (place i ≡ Running run)) n (sum_below one_runs place n)
        → IsCount (λ i. (run : SchedRun) × (place i ≡ Running run)) (suc n) (one_runs p + sum_below one_runs place n)
    at Absent is rest = inr ((λ has. absent_runs (sym is ∙ has.1)), subst (IsCount (λ i. (run : SchedRun) × (place i ≡ Running run)) n) none_more rest)
    at (Waiting wait) is rest = inr ((λ has. runs_waits (sym has.1 ∙ is)), subst (IsCount (λ i. (run : SchedRun) × (place i ≡ Running run)) n) none_more rest)
    at (Running run) is rest = inl ((run, is), (sum_below one_runs place n, omega arith, rest))

-- at most one job is counted at a place
known_small : (b : Bool) → (if b then 1 else 0) ≤ 2 ^ 32
known_small true = omega arith
known_small false = omega arith

pub known_few : (end : ℕ) → one_known end ≤ 2 ^ 32
known_few end = known_small (nat_lt end NEVER)

timed_small : (p : Place) → one_timed p ≤ 2 ^ 32
timed_small Absent = omega arith
timed_small (Waiting wait) = omega arith
timed_small (Running run) = known_few run.end

-- a job that is counted runs until a known end
known_is : (end : ℕ) → 0 < one_known end → end < NEVER
known_is end some = elim (cases_lt end NEVER) [
  | inl less ↦ less
  | inr never ↦ let none : one_known end ≡ 0 = grind (arith, never) in absurd (omega (arith, none, some))
]

pub timed_runs : (p : Place) → 0 < one_timed p → (run : SchedRun) × (p ≡ Running run) × (run.end < NEVER)
timed_runs Absent some = absurd (omega (arith, some))
timed_runs (Waiting wait) some = absurd (omega (arith, some))
timed_runs (Running run) some = (run, refl, known_is run.end some)

-- and is counted
pub timed_one : (run : SchedRun) → run.end < NEVER → 0 < one_timed (Running run)
timed_one run known = let one : one_known run.end ≡ 1 = grind (arith, known) in omega (arith, one)

-- ---- the table

module _ (place : ℕ → Place) (next : ℕ) (slots : List Slot) (running asked timed : ℕ) (k : ShowsRunning place next slots running asked timed) where
  one_small : (p : Place) → one_runs p ≤ 2 ^ 32
  one_small Absent = omega arith
  one_small (Waiting wait) = omega arith
  one_small (Running run) = omega arith

  pub running_few : length slots ≤ MAX_SLOTS → running ≤ MAX_SLOTS * 2 ^ 32
  running_few limit =
      let bound = sum_few one_runs (place_in slots) (length slots) (λ u. one_small (place_in slots u)) in
      let is = k.counted.of_slots in
      omega (arith, limit, bound, is)

  pub asked_few : length slots ≤ MAX_SLOTS → asked ≤ MAX_SLOTS * 2 ^ 32
  asked_few limit =
      let bound = sum_few used_by (place_in slots) (length slots) k.few in
      let is = k.summed.of_slots in
      omega (arith, limit, bound, is)

  pub timed_few : length slots ≤ MAX_SLOTS → timed ≤ MAX_SLOTS * 2 ^ 32
  timed_few limit =
      let bound = sum_few one_timed (place_in slots) (length slots) (λ u. timed_small (place_in slots u)) in
      let is = k.ends.of_slots in
      omega (arith, limit, bound, is)

  module _ (at : ℕ) (run : SchedRun) (inside : at < length slots) (runs : place_in slots at ≡ Running run) where
    pub running_some : 1 ≤ running
    running_some =
        let part = sum_part one_runs (place_in slots) at (length slots) inside in
        let one : one_runs (place_in slots at) ≡ 1 = ap one_runs runs in
        let is = k.counted.of_slots in
        omega (arith, part, one, is)

    pub asked_some : run.job.processors ≤ asked
    asked_some =
        let part = sum_part used_by (place_in slots) at (length slots) inside in
        let mine : used_by (place_in slots at) ≡ run.job.processors = ap used_by runs in
        let is = k.summed.of_slots in
        omega (arith, part, mine, is)

    pub timed_some : one_known run.end ≤ timed
    timed_some =
        let part = sum_part one_timed (place_in slots) at (length slots) inside in
        let mine : one_timed (place_in slots at) ≡ one_known run.end = ap one_timed runs in
        let is = k.ends.of_slots in
        omega (arith, part, mine, is)

  module _ (new : List Slot) (running2 asked2 timed2 at generation : ℕ) (p : Place) (put : HasPut slots new at generation p) (small : used_by p ≤ 2 ^ 32) where
    few_now : (u : ℕ) → used_by (place_in new u) ≤ 2 ^ 32
    few_now u = elim (cases_eq u at) [
      | inl one ↦ subst (λ (x : Place). used_by x ≤ 2 ^ 32) (sym (place_here slots new at generation p put u one)) small
      | inr other ↦ subst (λ (x : Place). used_by x ≤ 2 ^ 32) (sym (place_else slots new at generation p put u other)) (k.few u)
    ]

    -- a job of a slot has another place
    pub running_moved : (first : ℕ) (nodes : List NodeData) → ShowsSlots place next first slots nodes → IsPresent (place_in slots at)
        → running2 + one_runs (place_in slots at) ≡ running + one_runs p → asked2 + used_by (place_in slots at) ≡ asked + used_by p
        → timed2 + one_timed (place_in slots at) ≡ timed + one_timed p
        → ShowsRunning (set place (key_of nodes at) p) next new running2 asked2 timed2
    running_moved first nodes shown present runs uses known =
        let inside = inside_table slots at present in
        record {
          counted = sum_moved one_runs place next slots new running running2 at generation p k.counted put inside runs (key_of nodes at) (shown.before at present) (shown.holds at present);
          summed = sum_moved used_by place next slots new asked asked2 at generation p k.summed put inside uses (key_of nodes at) (shown.before at present) (shown.holds at present);
          ends = sum_moved one_timed place next slots new timed timed2 at generation p k.ends put inside known (key_of nodes at) (shown.before at present) (shown.holds at present);
          few = few_now;
        }

-- the counter of known ends says whether there is one
module _ (place : ℕ → Place) (next first : ℕ) (slots : List Slot) (nodes : List NodeData) (running asked timed : ℕ) (shown : ShowsSlots place next first slots nodes)
    (k : ShowsRunning place next slots running asked timed) where
  pub known_ends : 0 < timed → (j : ℕ) × (run : SchedRun) × (place j ≡ Running run) × (run.end < NEVER)
  known_ends some =
      let is = k.ends.of_jobs in
      let found = sum_some one_timed place next (omega (arith, some, is)) in
      let runs = timed_runs (place found.0) found.1 in
      (found.0, runs.0, runs.1, runs.2)

  pub known_none : timed ≡ 0 → (j : ℕ) (run : SchedRun) → place j ≡ Running run → run.end < NEVER → ⊥
  known_none none j run is known =
      let slot = shown.slot j (subst IsPresent (sym is) tt) in
      let less : j < next = subst (λ (n : ℕ). n < next) slot.2 (shown.before slot.0 slot.1) in
      let part = sum_part one_timed place j next less in
      let one : one_timed (place j) ≡ one_timed (Running run) = ap one_timed is in
      let some = timed_one run known in
      let sum = k.ends.of_jobs in
      omega (arith, part, one, some, sum, none)

-- a new job waits
pub running_added : (place : ℕ → Place) (next : ℕ) (slots new : List Slot) (running asked timed at generation : ℕ) (wait : SchedWait) → ShowsRunning place next slots running asked timed
    → HasPut slots new at generation (Waiting wait) → at < length slots → place_in slots at ≡ Absent
    → ShowsRunning (set place next (Waiting wait)) (next + 1) new running asked timed
running_added place next slots new running asked timed at generation wait k put inside absent =
    let one : one_runs (place_in slots at) ≡ 0 = ap one_runs absent in
    let used : used_by (place_in slots at) ≡ 0 = ap used_by absent in
    let known : one_timed (place_in slots at) ≡ 0 = ap one_timed absent in
    record {
      counted = sum_added one_runs place next slots new running running at generation (Waiting wait) k.counted put inside (omega (arith, one)) refl refl;
      summed = sum_added used_by place next slots new asked asked at generation (Waiting wait) k.summed put inside (omega (arith, used)) refl refl;
      ends = sum_added one_timed place next slots new timed timed at generation (Waiting wait) k.ends put inside (omega (arith, known)) refl refl;
      few = few_now place next slots running asked timed k new running asked timed at generation (Waiting wait) put (omega arith);
    }

-- no job runs at first
pub initial_running : (slots : List Slot) (n : ℕ) → slots ≡ replicate n unused → length slots ≡ n → ShowsRunning (λ j. Absent) 0 slots 0 0 0
initial_running slots n is len = record {
  counted = record { of_jobs = refl; of_slots = sym (sum_none one_runs (place_in slots) (length slots) (λ u. ap one_runs (absent u))) };
  summed = record { of_jobs = refl; of_slots = sym (sum_none used_by (place_in slots) (length slots) (λ u. ap used_by (absent u))) };
  ends = record { of_jobs = refl; of_slots = sym (sum_none one_timed (place_in slots) (length slots) (λ u. ap one_timed (absent u))) };
  few = λ u. (let none : used_by (place_in slots u) ≡ 0 = ap used_by (absent u) in omega (arith, none));
}
  where
    absent : (u : ℕ) → place_in slots u ≡ Absent
    absent u = ap (λ (s : Slot). place_by s s.phase) (elim (cases_lt u (length slots)) [
      | inl within ↦ ap (λ (xs : List Slot). slot_in xs u) is ∙ all_unused n u (omega (arith, within, len))
      | inr past ↦ get_or_past slots u unused past
    ])
