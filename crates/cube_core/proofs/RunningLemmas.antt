-- What a crate may cite whose threads make the events of this crate on shared words. It is about
-- schedules, the law after them, single events, and the number of events.
use Rattle.std.proofs.Common.{◌≡◌, ◌≢◌, ℕ, suc, ◌+◌, ◌*◌, ◌/◌, ◌^◌, ◌<◌, ◌≤◌, inl, inr, Bool, true, false, cond, eqb, ltb, List, [], ◌∷◌, ◌++◌, length, Some, None, refl, sym, ◌∙◌, ap, subst, arith}
use Rattle.std.proofs.lemmas.Bool.{cases_eq, cases_lt, eqb-false}
use Rattle.std.proofs.lemmas.List.{get_or_past, length-replicate}
use Rattle.cube_shape.specs.Node.{IsInCube, child_of, IsNodeOf}
use Rattle.cube_shape.specs.declared.node.Side.TheVariants.{Right}
use Rattle.cube_shape.proofs.PathLemmas.{log_unique}
use Rattle.status_word.specs.Word.{IsSet}
use Rattle.cube_core.specs.declared.phase.Seen.{Seen}
use Rattle.cube_core.specs.declared.phase.Seen.TheVariants as seen
use Rattle.cube_core.specs.declared.phase.Phase.{Phase}
use Rattle.cube_core.specs.declared.phase.Phase.TheVariants.{Idle, Looking, Looked, Climbing, Swept, Holding, Leaving, Backing, Arriving, Unmarked, Marked, Retired}
use Rattle.cube_core.specs.declared.act.Act.{Act}
use Rattle.cube_core.specs.declared.act.Act.TheVariants.{Take, Release, Step, Retire}
use Rattle.cube_core.specs.declared.act.Refused.{Refused}
use Rattle.cube_core.specs.declared.act.Refused.TheVariants.{NotIdle, NotHolding, NoStation, Resting}
use Rattle.cube_core.specs.Event.{Transition, transition, child_event, clear_event, cleared_as_seen, phase_after_raise, phase_after_zero, is_free, is_occupied, seen_at}
use Rattle.cube_core.specs.Schedule.{Record, State, AreOneEvent, phase_of, word_of, initial, apply, apply_all, phase_refusal, unless_refused, step_refusal, station_of}
use Rattle.cube_core.specs.Held.{region_at}
use Rattle.cube_core.specs.Count.{depth, unseen, events_due}
use Rattle.cube_core.specs.Law.{IsTreeLawful}
use Rattle.cube_core.proofs.LevelLemmas.{depth-parent, dim_at-level, region_at-named}
use Rattle.cube_core.proofs.OneEventLemmas.{step_is_event}
use Rattle.cube_core.proofs.ScheduleLemmas.{initial_stands, apply_all_stands, every_schedule}
use Rattle.cube_core.proofs.WorldLemmas.{apply_dim, apply_stations}

-- ---- schedules

-- a schedule, and a later one after it
pub apply_all-append : (later earlier : List Act) (w : State)
    → apply_all (later ++ earlier) w ≡ apply_all later (apply_all earlier w)
apply_all-append [] earlier w = refl
apply_all-append (act ∷ later) earlier w = ap (apply act) (apply_all-append later earlier w)

-- a schedule changes neither the machine nor the number of stations
pub apply_all_dim : (acts : List Act) (w : State) → (apply_all acts w).dim ≡ w.dim
apply_all_dim [] w = refl
apply_all_dim (act ∷ acts) w = apply_dim act (apply_all acts w) ∙ apply_all_dim acts w

pub apply_all_stations : (acts : List Act) (w : State)
    → length (apply_all acts w).records ≡ length w.records
apply_all_stations [] w = refl
apply_all_stations (act ∷ acts) w = apply_stations act (apply_all acts w) ∙ apply_all_stations acts w

pub initial_stations : (n stations : ℕ) (acts : List Act)
    → length (apply_all acts (initial n stations)).records ≡ stations
initial_stations n stations acts = apply_all_stations acts (initial n stations) ∙ length-replicate stations _

-- there is a word for each node, and the roll
pub word_count : (n stations : ℕ) (acts : List Act)
    → length (apply_all acts (initial n stations)).words ≡ 2 ^ (n + 1)
word_count n stations acts =
    (apply_all_stands acts (initial n stations) (initial_stands n stations)).word_count ∙ ap (λ m. 2 ^ (m + 1)) (apply_all_dim acts (initial n stations))

-- the law after each of them
pub lawful_after : (n stations : ℕ) (acts : List Act)
    → IsTreeLawful (apply_all acts (initial n stations))
lawful_after = every_schedule

-- ---- stations that have retired

retired_refusal : (n : ℕ) (act : Act) → (why : Refused) × (phase_refusal n act Retired ≡ Some why)
retired_refusal n (Take s v) = (NotIdle, refl)
retired_refusal n (Release s) = (NotHolding, refl)
retired_refusal n (Step s) = (Resting, refl)
retired_refusal n (Retire s) = (NotIdle, refl)

-- an act of a station that has retired is refused
retired_refused : (act : Act) (w : State) → phase_of w (station_of act) ≡ Retired → apply act w ≡ w
retired_refused act w gone = turn (ltb (station_of act) (length w.records))
  where
    reason : (why : Refused) × (phase_refusal w.dim act (phase_of w (station_of act)) ≡ Some why)
    reason = let found = retired_refusal w.dim act in (found.0, ap (phase_refusal w.dim act) gone ∙ found.1)

    turn : (t : Bool)
        → unless_refused (cond t (phase_refusal w.dim act (phase_of w (station_of act)))
        (Some NoStation)) act w ≡ w
    turn true = ap (λ r. unless_refused r act w) reason.1
    turn false = refl

-- a station that has retired remains retired
retired_next : (n stations s : ℕ) (act : Act) (acts : List Act)
    → phase_of (apply_all acts (initial n stations)) s ≡ Retired
    → phase_of (apply_all (act ∷ acts) (initial n stations)) s ≡ Retired
retired_next n stations s act acts before = elim (cases_eq s (station_of act)) [
  | inl same ↦ ap (λ w. phase_of w s) (retired_refused act (apply_all acts (initial n stations)) (subst (λ t. phase_of (apply_all acts (initial n stations)) t ≡ Retired) same before)) ∙ before
  | inr other ↦ ap (λ (r : Record). r.phase) ((every_schedule n stations acts).counted.others act s other) ∙ before
]

pub retired_stays : (n stations s : ℕ) (later earlier : List Act)
    → phase_of (apply_all earlier (initial n stations)) s ≡ Retired
    → phase_of (apply_all (later ++ earlier) (initial n stations)) s ≡ Retired
retired_stays n stations s [] earlier gone = gone
retired_stays n stations s (act ∷ later) earlier gone = retired_next n stations s act (later ++ earlier) (retired_stays n stations s later earlier gone)

-- if the roll has the bit of each station, all have retired
pub roll_whole : (n stations : ℕ) (acts : List Act)
    → ((s : ℕ) → s < stations → IsSet (word_of (apply_all acts (initial n stations)) 0) s)
    → (s : ℕ)
    → phase_of (apply_all acts (initial n stations)) s ≡ Retired
roll_whole n stations acts whole s = elim (cases_lt s stations) [
  | inl there ↦ ((every_schedule n stations acts).roll s (subst (λ count. s < count) (sym (initial_stations n stations acts)) there)).0 (whole s there)
  | inr past ↦ ap (λ (r : Record). r.phase) (get_or_past (apply_all acts (initial n stations)).records s (record { phase = Retired; trail = [] }) (subst (λ count. count ≤ s) (sym (initial_stations n stations acts)) past))
]

-- and from then on the word of each node is 0
pub closed_words : (n stations : ℕ) (later earlier : List Act)
    → ((s : ℕ) → s < stations → IsSet (word_of (apply_all earlier (initial n stations)) 0) s)
    → (v : ℕ)
    → 0 < v
    → word_of (apply_all (later ++ earlier) (initial n stations)) v ≡ 0
closed_words n stations later earlier whole =
    (every_schedule n stations (later ++ earlier)).retired (λ s. retired_stays n stations s later earlier (roll_whole n stations earlier whole s))

-- ---- single events of a station whose phase is p

-- an event in a phase that is given by an equation
event_at : (n s : ℕ) (acts : List Act) (r : Record) (p : Phase)
    → r.phase ≡ p
    → AreOneEvent n acts s r (transition s r.phase)
    → AreOneEvent n acts s r (transition s p)
event_at n s acts r p is event = subst (λ q. AreOneEvent n acts s r (transition s q)) is event

pub step_at : (n s : ℕ) (r : Record) (p : Phase)
    → r.phase ≡ p
    → step_refusal p ≡ None
    → AreOneEvent n (Step s ∷ []) s r (transition s p)
step_at n s r p is moves = event_at n s (Step s ∷ []) r p is (step_is_event n s r (ap step_refusal is ∙ moves))

-- a call and the event after it, and a retirement, are one event (take_is_event, release_is_event
-- and retire_is_event of OneEventLemmas)

-- ---- what a station that is marked does next

pub looks_right : (s a w : ℕ) (left : Seen)
    → left ≢ seen.NotYet
    → transition s (Marked a w left seen.NotYet)
    ≡ child_event s (child_of a Right) (λ found. Marked a w left found)
looks_right s a w seen.NotYet unseen = absurd (unseen refl)
looks_right s a w seen.Free unseen = refl
looks_right s a w seen.Used unseen = refl

pub clears : (s a w : ℕ) (left right : Seen)
    → left ≢ seen.NotYet
    → right ≢ seen.NotYet
    → transition s (Marked a w left right) ≡ clear_event s a w (cleared_as_seen w left right)
clears s a w seen.NotYet right unseen last = absurd (unseen refl)
clears s a w seen.Free seen.NotYet unseen last = absurd (last refl)
clears s a w seen.Free seen.Free unseen last = refl
clears s a w seen.Free seen.Used unseen last = refl
clears s a w seen.Used seen.NotYet unseen last = absurd (last refl)
clears s a w seen.Used seen.Free unseen last = refl
clears s a w seen.Used seen.Used unseen last = refl

-- ---- the count of events, whatever words are found

-- the nodes of a phase are nodes of the machine
abbrev pub IsPlaced : ℕ → Phase → Type 0
IsPlaced n Idle = Unit {0}
IsPlaced n (Looking h) = IsInCube n h
IsPlaced n (Looked h w) = IsInCube n h
IsPlaced n (Climbing h a) = IsInCube n h × IsInCube n a
IsPlaced n (Swept h a) = IsInCube n h × IsInCube n a
IsPlaced n (Holding h) = IsInCube n h
IsPlaced n (Leaving h) = IsInCube n h
IsPlaced n (Backing h a) = IsInCube n h
IsPlaced n (Arriving a) = IsInCube n a
IsPlaced n (Unmarked a) = IsInCube n a
IsPlaced n (Marked a w left right) = IsInCube n a
IsPlaced n Retired = Unit {0}

-- the nodes of phase q are nodes of the machine, and at most this many events are left to make
pub record LeavesDue (n most : ℕ) (q : Phase) : Type 0 where
  pub placed : IsPlaced n q
  pub due : events_due n q ≤ most

due_if : (n most : ℕ) (t : Bool) (p q : Phase)
    → (t ≡ true → LeavesDue n most p)
    → (t ≡ false → LeavesDue n most q)
    → LeavesDue n most (cond t p q)
due_if n most true p q first second = first refl
due_if n most false p q first second = second refl

-- the parent of a node other than the root
parent_placed : (n a : ℕ) → IsInCube n a → a ≢ 1 → IsInCube n (a / 2)
parent_placed n a in_cube inner = (omega (arith, in_cube.0), omega (arith, in_cube.1))

idle_due : (n most : ℕ) → LeavesDue n most Idle
idle_due n most = record { placed = tt; due = omega arith }

raise_due : (n h a : ℕ)
    → IsInCube n h
    → IsInCube n a
    → LeavesDue n (1 + 5 * depth n h + 2 * depth n a) (phase_after_raise h a)
raise_due n h a in_cube at = due_if n _ (eqb a 1) (Holding h) (Climbing h (a / 2)) (λ root. record { placed = in_cube; due = omega arith }) climbing
  where
    climbing : eqb a 1 ≡ false
        → LeavesDue n (1 + 5 * depth n h + 2 * depth n a) (Climbing h (a / 2))
    climbing inner =
        let up = depth-parent n a at (eqb-false a 1 inner) in
        record { placed = (in_cube, parent_placed n a at (eqb-false a 1 inner)); due = omega arith }

zero_due : (n a : ℕ) → IsInCube n a → LeavesDue n (5 * depth n a) (phase_after_zero a)
zero_due n a at = due_if n _ (eqb a 1) Idle (Arriving (a / 2)) (λ root. idle_due n _) arriving
  where
    arriving : eqb a 1 ≡ false → LeavesDue n (5 * depth n a) (Arriving (a / 2))
    arriving inner =
        let up = depth-parent n a at (eqb-false a 1 inner) in
        record { placed = parent_placed n a at (eqb-false a 1 inner); due = omega arith }

-- a bound that is not as close
due_more : {n small most : ℕ} {q : Phase} → small ≤ most → LeavesDue n small q → LeavesDue n most q
due_more le k = let due = k.due in record { placed = k.placed; due = omega arith }

-- an event of a station in a phase, with the word found. What it adds to the trail and what is then
-- still due are no more than what was due
pub record IsPaid (n : ℕ) (d : Transition) (p : Phase) (found : ℕ) : Type 0 where
  pub placed : IsPlaced n (d.next found)
  pub falls : length (d.events found) + events_due n (d.next found) ≤ events_due n p

-- one event
paid_by : {n : ℕ} {d : Transition} {p : Phase} {found : ℕ}
    → length (d.events found) ≡ 1
    → (most : ℕ)
    → suc most ≡ events_due n p
    → LeavesDue n most (d.next found)
    → IsPaid n d p found
paid_by one most is k = let due = k.due in record { placed = k.placed; falls = omega arith }

-- a child was looked at
seen_once : (found : ℕ) → unseen (seen_at found) ≡ 0
seen_once found = turn (is_free found)
  where
    turn : (t : Bool) → unseen (cond t seen.Free seen.Used) ≡ 0
    turn true = refl
    turn false = refl

clear_paid : (n s a w found : ℕ) (left right : Seen)
    → IsInCube n a
    → IsPaid n (clear_event s a w (cleared_as_seen w left right)) (Marked a w left right) found
clear_paid n s a w found left right at = paid_by refl (unseen left + unseen right + 5 * depth n a) (omega arith)
    (due_if n _ (eqb found w) (cond (is_free (cleared_as_seen w left right)) (phase_after_zero a) Idle) Idle
    (λ _. due_if n _ (is_free (cleared_as_seen w left right)) (phase_after_zero a) Idle (λ _. due_more (omega arith) (zero_due n a at)) (λ _. idle_due n _))
    (λ _. idle_due n _))

marked_paid : (n s a w found : ℕ) (left right : Seen)
    → IsInCube n a
    → IsPaid n (transition s (Marked a w left right)) (Marked a w left right) found
marked_paid n s a w found seen.NotYet right at = let none = seen_once found in record { placed = at; falls = omega arith }
marked_paid n s a w found seen.Free seen.NotYet at = let none = seen_once found in record { placed = at; falls = omega arith }
marked_paid n s a w found seen.Used seen.NotYet at = let none = seen_once found in record { placed = at; falls = omega arith }
marked_paid n s a w found seen.Free seen.Free at = clear_paid n s a w found seen.Free seen.Free at
marked_paid n s a w found seen.Free seen.Used at = clear_paid n s a w found seen.Free seen.Used at
marked_paid n s a w found seen.Used seen.Free at = clear_paid n s a w found seen.Used seen.Free at
marked_paid n s a w found seen.Used seen.Used at = clear_paid n s a w found seen.Used seen.Used at

pub paid : (n s found : ℕ) (p : Phase) → IsPlaced n p → IsPaid n (transition s p) p found
paid n s found Idle at = record { placed = tt; falls = omega arith }
paid n s found (Looking h) at = paid_by refl (2 + 7 * depth n h) (omega arith) (due_if n _ (is_free found) (Looked h found) Idle (λ _. record { placed = at; due = omega arith }) (λ _. idle_due n _))
paid n s found (Looked h w) at = paid_by refl (1 + 7 * depth n h) (omega arith) (due_if n _ (eqb found w) (phase_after_raise h h) Idle (λ _. due_more (omega arith) (raise_due n h h at at)) (λ _. idle_due n _))
paid n s found (Climbing h a) at = record { placed = at; falls = omega arith }
paid n s found (Swept h a) at = paid_by refl (1 + 5 * depth n h + 2 * depth n a) (omega arith) (due_if n _ (is_occupied found) (Backing h a) (phase_after_raise h a) (λ _. record { placed = at.0; due = omega arith }) (λ _. raise_due n h a at.0 at.1))
paid n s found (Holding h) at = record { placed = at; falls = omega arith }
paid n s found (Leaving h) at = paid_by refl (5 * depth n h) (omega arith) (zero_due n h at)
paid n s found (Backing h a) at = paid_by refl (5 * depth n h) (omega arith) (zero_due n h at)
paid n s found (Arriving a) at = record { placed = at; falls = omega arith }
paid n s found (Unmarked a) at = paid_by refl (3 + 5 * depth n a) (omega arith) (due_if n _ (is_occupied found) Idle (Marked a _ seen.NotYet seen.NotYet) (λ _. idle_due n _) (λ _. record { placed = at; due = omega arith }))
paid n s found (Marked a w left right) at = marked_paid n s a w found left right at
paid n s found Retired at = record { placed = tt; falls = omega arith }

-- the level of a node
pub depth_is : (n v j : ℕ) → IsInCube n v → 2 ^ j ≤ v → v < 2 * 2 ^ j → depth n v ≡ j
depth_is n v j in_cube low high =
    let level = dim_at-level n v in_cube in log_unique v (depth n v) j level.1 level.2 low high

-- the region that a node names
pub region_named : (n v : ℕ) → IsInCube n v → IsNodeOf n v (region_at n v)
region_named = region_at-named
