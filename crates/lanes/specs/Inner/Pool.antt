-- The rule of the table in two parts: that of the lanes, and a world of threads that sleep and
-- wake.
use Rattle.std.specs.Prelude.{Bool, true, false, ◌≡◌, ◌≢◌, ℕ, ◌+◌, ◌-◌, ◌%◌, ◌⊎◌, List, [], ◌∷◌, ◌++◌, map}
use Rattle.atomic_table.specs.Table.{State, Me, Step}
use Rattle.ghost_history.specs.Lists.{first_of, rest_of, numbered_from}
use Rattle.ghost_history.specs.Views.{Tied}
use Rattle.wake_pool.specs.declared.phase.WakePhase.{WakePhase as Phase}
use Rattle.wake_pool.specs.declared.phase.WakePhase.TheVariants.{Idle, Waking, Found, Looking, Resting, Returning}
use Rattle.wake_pool.specs.Schedule.{waking, looking, resting}
use Rattle.wake_pool.specs.Inner.Invariant.{IsSound}
use Rattle.wake_pool.specs.Words as pool
use Rattle.wake_calls.specs.declared.deed.WakeDeed.{WakeDeed}
use Rattle.wake_calls.specs.declared.rule.ThreadRecord.{ThreadRecord}
use Rattle.wake_calls.specs.Pool.{in_phase}
use Rattle.lanes.specs.declared.sizes.TheConstants.{CLOSED, TAIL, HEAD}
use Rattle.lanes.specs.declared.sizes.Plan.{Plan}
use Rattle.lanes.specs.declared.view.View.{View}
use Rattle.lanes.specs.declared.view.Both.{Both}
use Rattle.lanes.specs.Layout.{lane_of}
use Rattle.lanes.specs.Record.{take_of}
use Rattle.lanes.specs.Inner.View.{first_view, without_lane, lane_alone, without_worker, worker_alone, joined, spent_view}
use Rattle.lanes.specs.Inner.Rule.{reads, Keeps}
use Rattle.lanes.specs.Inner.Step.{Sat, Play, worker_in, accepts_at, reads_tail_at, takes_at}

abbrev pub BothSat : Type 0
BothSat = Me (Unit {0}) Both

-- A state of the table.
abbrev pub BothSt : Type 0
BothSt = State (Unit {0}) Both

-- what a seat knows of the lanes
abbrev pub known_in : Both → View
known_in v = v.known

abbrev pub known_sat : BothSat → Sat
known_sat m = (m.0.known, m.1)

-- What a state says of the lanes.
abbrev pub known_state : BothSt → State (Unit {0}) View
known_state s = record { words = s.words; homes = s.homes; views = map known_in s.views }

-- and its threads
abbrev pub threads_in : Both → List ThreadRecord
threads_in v = v.sleepers ++ v.others

-- The number of a thread.
abbrev pub thread_number : ThreadRecord → ℕ
thread_number r = r.number

abbrev pub both : View → List ThreadRecord → List ThreadRecord → List WakeDeed → Both
both known sleepers others deeds =
    record { known = known; sleepers = sleepers; others = others; deeds = deeds }

-- the threads have gone on to this phase
abbrev pub goes : Phase → Both → Both
goes q v = both v.known (map (in_phase q) v.sleepers) (map (in_phase q) v.others) v.deeds

-- one deed more
abbrev pub noted : WakeDeed → Both → Both
noted d v = both v.known v.sleepers v.others (d ∷ v.deeds)

-- Workers come first, with their own numbers, then producers with those of their lanes, and the
-- closer.
abbrev pub thread_count : Plan → ℕ
thread_count plan = plan.sizes.workers + (plan.sizes.lanes + 1)

abbrev pub producer_of : Plan → ℕ → ℕ
producer_of plan lane = plan.sizes.workers + lane

-- The record of the thread with this number, in this phase.
abbrev pub thread_at : Plan → Phase → ℕ → ThreadRecord
thread_at plan phase n =
    record { number = n; phase = phase; workers = plan.sleepers; lanes = plan.sizes.lanes }

-- the jobs in a lane that are accepted and not taken
abbrev pub jobs_in : Plan → List ℕ → ℕ → ℕ
jobs_in plan ws l = reads plan ws l TAIL % CLOSED - reads plan ws l HEAD

-- The rule of the table.
pub record KeepsBoth (plan : Plan) (s : State (Unit {0}) Both) : Type 0 where
  pub lanes : Keeps plan (known_state s)
  pub base_is : plan.base ≡ pool.base plan.sleepers
  pub phases : ℕ → Phase
  pub tied : Tied threads_in thread_number (thread_count plan) (λ n. thread_at plan (phases n) n) s.views
  pub sound : IsSound (pool.world_of plan.sleepers plan.sizes.lanes s.words (jobs_in plan s.words) phases)

-- ---- views are dealt out, and joined again

abbrev pub first_both : Plan → Both
first_both plan = both (first_view plan) (numbered_from (thread_at plan Idle) 0 plan.sizes.workers)
    (numbered_from (thread_at plan Idle) plan.sizes.workers (plan.sizes.lanes + 1)) []

abbrev pub without_lane_both : Both → Both
without_lane_both v = both (without_lane v.known) v.sleepers (rest_of v.others) v.deeds

abbrev pub lane_alone_both : Both → Both
lane_alone_both v = both (lane_alone v.known) [] (first_of v.others) []

abbrev pub without_worker_both : Both → Both
without_worker_both v = both (without_worker v.known) (rest_of v.sleepers) v.others v.deeds

abbrev pub worker_alone_both : Both → Both
worker_alone_both v = both (worker_alone v.known) (first_of v.sleepers) [] []

abbrev pub joined_both : Both → Both → Both
joined_both v w = both (joined v.known w.known) (threads_in v ++ threads_in w) [] (v.deeds ++ w.deeds)

abbrev pub spent_both : Both
spent_both = both spent_view [] [] []

-- ---- what steps say

abbrev pub BothPlay : Type 1
BothPlay = Step (Unit {0}) → BothSat → ℕ → BothSat → Type 0

abbrev pub IsStill : BothSat → BothSat → Type 0
IsStill m n =
    (n.0.sleepers ≡ m.0.sleepers) × (n.0.others ≡ m.0.others) × (n.0.deeds ≡ m.0.deeds)

-- a step on a lane that leaves the thread in its phase
abbrev pub stills : Play → BothPlay
stills tell st m found n = tell st (known_sat m) found (known_sat n) × IsStill m n

abbrev pub workers_of : List ThreadRecord → ℕ
workers_of [] = 0
workers_of (r ∷ rs) = r.workers

-- the phase of a producer that has put a job
abbrev pub put_phase : BothSat → Phase
put_phase m = waking (pool.word_count (workers_of (threads_in m.0))) 0

-- If a producer has put a job, it has to look whether a worker sleeps.
abbrev pub Puts : BothSat → ℕ → ℕ → Both → Type 0
Puts m c found v =
    (found ≡ c → v ≡ goes (put_phase m) (both v.known m.0.sleepers m.0.others m.0.deeds))
    × (found ≢ c → (v.sleepers ≡ m.0.sleepers) × (v.others ≡ m.0.others) × (v.deeds ≡ m.0.deeds))

abbrev pub accepts_both : BothPlay
accepts_both st m found n = accepts_at st (known_sat m) found (known_sat n) × Puts m st.first found n.0

-- ---- the threads of handles

-- a producer is idle, or has still to look whether one sleeps
abbrev pub MayPut : Phase → Type 0
MayPut p = (p ≡ Idle) ⊎ ((b : ℕ) × (p ≡ Waking b))

pub record IsProducer (plan : Plan) (number : ℕ) (m : BothSat) : Type 0 where
  pub phase : Phase
  pub may_put : MayPut phase
  pub no_sleeper : m.0.sleepers ≡ []
  pub thread : m.0.others ≡ thread_at plan phase (producer_of plan number) ∷ []

-- the phase of the first thread
abbrev pub phase_in : List ThreadRecord → Phase
phase_in [] = Idle
phase_in (r ∷ rs) = r.phase

-- a worker's thread is in this phase
pub record IsSleeper (plan : Plan) (number : ℕ) (phase : Phase) (m : BothSat) : Type 0 where
  pub thread : m.0.sleepers ≡ thread_at plan phase number ∷ []
  pub no_other : m.0.others ≡ []

-- the phase of a worker after a look at a lane, by whether the lane was empty
abbrev pub looked : Plan → Phase → Bool → Phase
looked plan (Resting l) true = resting plan.sizes.lanes (l + 1)
looked plan (Resting l) false = Returning
looked plan (Looking l) true = looking plan.sizes.lanes (l + 1)
looked plan (Looking l) false = waking (pool.word_count plan.sleepers) 0
looked plan p empty = p

-- it looks at this lane
abbrev pub LooksAt : Phase → ℕ → Type 0
LooksAt p l = (p ≡ Resting l) ⊎ (p ≡ Looking l)

-- the worker goes on, by whether the count that it found is that of the jobs taken
abbrev pub GoesOnFrom : BothSat → ℕ → ℕ → Both → Type 0
GoesOnFrom m head found v =
    let plan = (worker_in m.0.known.workers).plan in
    let p = phase_in m.0.sleepers in
    (found % CLOSED ≡ head → v ≡ goes (looked plan p true) (both v.known m.0.sleepers m.0.others m.0.deeds))
    × (found % CLOSED ≢ head → v ≡ goes (looked plan p false) (both v.known m.0.sleepers m.0.others m.0.deeds))

abbrev pub looks_on_both : BothPlay
looks_on_both st m found n =
    reads_tail_at st (known_sat m) found (known_sat n)
    × (let w = worker_in m.0.known.workers in GoesOnFrom m (take_of (lane_of w.plan st.word) w).head found n.0)

-- A searcher has found a job, or another has taken it.
abbrev pub FindsFrom : BothSat → ℕ → ℕ → Both → Type 0
FindsFrom m c found v =
    (found ≡ c → v ≡ goes Found (both v.known m.0.sleepers m.0.others m.0.deeds))
    × (found ≢ c → (v.sleepers ≡ m.0.sleepers) × (v.others ≡ m.0.others) × (v.deeds ≡ m.0.deeds))

abbrev pub finds_both : BothPlay
finds_both st m found n = takes_at st (known_sat m) found (known_sat n) × FindsFrom m st.first found n.0

-- the threads of the members that are not dealt out
pub record AreIdle (plan : Plan) (lane worker : ℕ) (m : BothSat) : Type 0 where
  pub sleepers : m.0.sleepers ≡ numbered_from (thread_at plan Idle) worker (plan.sizes.workers - worker)
  pub others : m.0.others ≡ numbered_from (thread_at plan Idle) (producer_of plan lane) ((plan.sizes.lanes + 1) - lane)
