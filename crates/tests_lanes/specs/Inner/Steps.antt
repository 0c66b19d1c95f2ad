-- What the steps on lanes say: of the step, the seat before, the number found and the seat after.
use Rattle.std.specs.Prelude.{◌≡◌, ◌≢◌, ℕ, ◌+◌, map}
use Rattle.atomic_table.specs.Table.{Me, Step}
use Rattle.wake_pool.specs.declared.phase.WakePhase.{WakePhase as Phase}
use Rattle.wake_pool.specs.declared.phase.WakePhase.TheVariants.{Found, Looking, Resting, Returning}
use Rattle.wake_pool.specs.Schedule.{waking, looking, resting}
use Rattle.wake_pool.specs.Words.{word_count}
use Rattle.wake_calls.specs.declared.deed.WakeDeed.{WakeDeed}
use Rattle.wake_calls.specs.declared.rule.ThreadRecord.{ThreadRecord}
use Rattle.wake_calls.specs.Pool.{in_phase}
use Rattle.wake_calls.specs.Inner.Steps.{goes_by}
use Rattle.tests_lanes.specs.declared.rule.BoardView.{BoardView as View}
use Rattle.tests_lanes.specs.Inner.Rule.{threads_in, view}

abbrev pub Sat : Type 0
Sat = Me (Unit {0}) View

abbrev pub Telling : Type 1
Telling = Step (Unit {0}) → Sat → ℕ → Sat → Type 0

-- The view once its threads have gone on to this phase.
abbrev pub goes : Phase → View → View
goes q v = view (map (in_phase q) v.threads)

-- A view of a board has no deeds.
abbrev pub noted : WakeDeed → View → View
noted d v = v

abbrev pub goes_to : (ThreadRecord → Phase) → Sat → Sat
goes_to q m = goes_by threads_in goes q m

abbrev pub lane_in : Phase → ℕ
lane_in (Looking l) = l
lane_in (Resting l) = l
lane_in _ = 0

abbrev pub puts_at : Telling
puts_at st m found n =
    (found ≡ st.first → n ≡ goes_to (λ r. waking (word_count r.workers) 0) m)
    × (found ≢ st.first → n ≡ m)

abbrev pub takes_at : Telling
takes_at st m found n = n ≡ m

abbrev pub finds_at : Telling
finds_at st m found n = (found ≡ st.first → n ≡ goes_to (λ _. Found) m) × (found ≢ st.first → n ≡ m)

abbrev pub looks_at : Telling
looks_at st m found n =
    (found ≡ 0 → n ≡ goes_to (λ r. resting r.lanes (lane_in r.phase + 1)) m)
    × (found ≢ 0 → n ≡ goes_to (λ _. Returning) m)

abbrev pub looks_again_at : Telling
looks_again_at st m found n =
    (found ≡ 0 → n ≡ goes_to (λ r. looking r.lanes (lane_in r.phase + 1)) m)
    × (found ≢ 0 → n ≡ goes_to (λ r. waking (word_count r.workers) 0) m)
