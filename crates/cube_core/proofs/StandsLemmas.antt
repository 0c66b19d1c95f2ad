-- The invariant after every schedule: each act keeps it, and is a step of the machine of regions.
use Rattle.std.proofs.Common.{◌≡◌, ◌≢◌, ℕ, ◌+◌, ◌*◌, ◌^◌, ◌<◌, ◌≤◌, ◌⊎◌, inl, inr, Bool, true, false, cond, ◌&&◌, ltb, List, [], ◌∷◌, length, get_or, replicate, Option, Some, None, refl, sym, ◌∙◌, ap, subst, arith}
use Rattle.std.proofs.lemmas.Bool.{cases_lt, cases_eq, ltb-true}
use Rattle.std.proofs.lemmas.Nat.{pow_pos}
use Rattle.std.proofs.lemmas.List.{get_or-set_same, get_or-set_other, length-set, length-replicate, get_or-replicate, get_or_past}
use Rattle.cube_shape.specs.Node.{IsInCube}
use Rattle.cube_core.specs.declared.phase.Seen.{Seen}
use Rattle.cube_core.specs.declared.phase.Seen.TheVariants as seen
use Rattle.cube_core.specs.declared.phase.Phase.{Phase}
use Rattle.cube_core.specs.declared.phase.Phase.TheVariants.{Idle, Looking, Looked, Climbing, Swept, Holding, Leaving, Backing, Arriving, Unmarked, Marked, Retired}
use Rattle.cube_core.specs.declared.act.Act.{Act}
use Rattle.cube_core.specs.declared.act.Act.TheVariants.{Take, Release, Step, Retire}
use Rattle.cube_core.specs.declared.act.Refused.{Refused}
use Rattle.cube_core.specs.Phase.{owned, node_held}
use Rattle.cube_core.specs.InnerPhase.{asked}
use Rattle.cube_core.specs.Event.{Transition, transition, retirement}
use Rattle.cube_core.specs.Schedule.{Record, State, record_of, phase_of, word_of, initial, apply_begin, apply_event, phase_refusal, refusal, station_of, apply_accepted, unless_refused, apply, apply_all, HasOnlySteps}
use Rattle.cube_core.specs.Held.{IsMachineStep, region_held, held_of}
use Rattle.cube_core.proofs.ChangeLemmas.{Fit, IsInner, Change}
use Rattle.cube_core.proofs.MoveLemmas.{Move, IsRisen, begins_take, begins_release, retires, claims, raises, zeroes, zeroes_back, clears, step_move, double}
use Rattle.cube_core.proofs.InvariantLemmas.{Invariant, invariant_kept, invariant_initial}
use Rattle.cube_core.proofs.HeldLemmas.{HeldMoves, machine_step}

-- there is a word for each node and the roll, and the invariant holds
pub record Stands (w : State) : Type 0 where
  pub word_count : length w.words ≡ 2 ^ (w.dim + 1)
  pub holds : Invariant w.dim (length w.records) (word_of w) (phase_of w)

-- ---- the change that a call or an event makes

absent : Record
absent = record { phase = Retired; trail = [] }

apply_begin_change : (s : ℕ) (phase : Phase) (w : State)
    → s < length w.records
    → Change (word_of w) (phase_of w) 0 (word_of w 0) s phase (word_of w)
    (phase_of (apply_begin s phase w))
unfolding absent
apply_begin_change s phase w there = record {
  word_here = refl;
  word_else = λ _ _. refl;
  phase_here = ap (λ (r : Record). r.phase) (get_or-set_same w.records s (record (record_of w s) { phase = phase }) absent there);
  phase_else = λ t other. ap (λ (r : Record). r.phase) (get_or-set_other w.records s t (record (record_of w s) { phase = phase }) absent other);
}

apply_event_change : (d : Transition) (s : ℕ) (w : State)
    → d.node < length w.words
    → s < length w.records
    → Change (word_of w) (phase_of w) d.node (d.writes (word_of w d.node)) s
    (d.next (word_of w d.node)) (word_of (apply_event d s w)) (phase_of (apply_event d s w))
unfolding absent
apply_event_change d s w node_there there = record {
  word_here = get_or-set_same w.words d.node _ 0 node_there;
  word_else = λ a other. get_or-set_other w.words d.node a _ 0 other;
  phase_here = ap (λ (r : Record). r.phase) (get_or-set_same w.records s _ absent there);
  phase_else = λ t other. ap (λ (r : Record). r.phase) (get_or-set_other w.records s t _ absent other);
}

-- an event's node has a word
pub below_inner : (n a : ℕ) → IsInner n a → 2 * a + 1 < 2 ^ (n + 1)
below_inner n a inner = let whole : 2 ^ (n + 1) ≡ 2 * 2 ^ n = double n in omega (arith, inner.1)

marked_there : (n u a w : ℕ) (left right : Seen)
    → IsInner n a
    → (transition u (Marked a w left right)).node < 2 ^ (n + 1)
marked_there n u a w left right inner = turn left right
  where
    below : 2 * a + 1 < 2 ^ (n + 1)
    below = below_inner n a inner

    at : (c : ℕ) → c ≤ 2 * a + 1 → c < 2 ^ (n + 1)
    at c le = omega (arith, below)

    turn : (l r : Seen) → (transition u (Marked a w l r)).node < 2 ^ (n + 1)
    turn seen.NotYet r = at (2 * a) (omega arith)
    turn seen.Free seen.NotYet = at (2 * a + 1) (omega arith)
    turn seen.Used seen.NotYet = at (2 * a + 1) (omega arith)
    turn seen.Free seen.Free = at a (omega arith)
    turn seen.Free seen.Used = at a (omega arith)
    turn seen.Used seen.Free = at a (omega arith)
    turn seen.Used seen.Used = at a (omega arith)

inner_there : (n a : ℕ) → IsInner n a → a < 2 ^ (n + 1)
inner_there n a inner = let below : 2 * a + 1 < 2 ^ (n + 1) = below_inner n a inner in omega arith

pub node_there : (n u : ℕ) (p : Phase) → Fit n p → (transition u p).node < 2 ^ (n + 1)
node_there n u Idle fit = pow_pos (n + 1)
node_there n u (Looking h) fit = fit.1
node_there n u (Looked h w) fit = fit.0.1
node_there n u (Climbing h a) fit = let in_cube = fit.0.1 in omega (arith, fit.1)
node_there n u (Swept h a) fit = let in_cube = fit.0.1 in omega (arith, fit.1)
node_there n u (Holding h) fit = pow_pos (n + 1)
node_there n u (Leaving h) fit = fit.1
node_there n u (Backing h a) fit = fit.1
node_there n u (Arriving a) fit = inner_there n a fit
node_there n u (Unmarked a) fit = inner_there n a fit
node_there n u (Marked a w left right) fit = marked_there n u a w left right fit
node_there n u Retired fit = pow_pos (n + 1)

-- after an ancestor was passed, the station holds the node that it asked for, or nothing yet
holds_asked : {n h a : ℕ} {q : Phase}
    → IsRisen n h a q
    → (◌≡◌ {A = ℕ} 0 0 × (node_held q ≡ h)) ⊎ ((node_held q ≡ 0) ⊎ (node_held q ≡ 0))
holds_asked risen = elim risen.takes [ inl climbs ↦ inr (inl climbs.1) | inr holds ↦ inl (refl, holds.1) ]

-- after a move a station holds nothing, what it held, or the node asked
held_moves : {n u : ℕ} {W : ℕ → ℕ} {p : Phase} {v y : ℕ} {q : Phase}
    → Move n u W p v y q
    → HeldMoves p q
held_moves (begins_release h _) = inr (inr refl)
held_moves (claims h w q _ _ _ risen) = holds_asked risen
held_moves (raises h a q _ _ _ _ risen) = holds_asked risen
held_moves (zeroes h q _ leaving) = inr (inl leaving.holds_none)
held_moves (zeroes_back h a q _ leaving) = inr (inl leaving.holds_none)
held_moves (clears a w left right q _ _ _ _ leaving) = inr (inl leaving.holds_none)
held_moves _ = inr (inl refl)

-- ---- an act that is not refused

-- its station exists, and its phase allows it
pub accepted : (act : Act) (w : State)
    → refusal act w ≡ None
    → (station_of act < length w.records)
    × (phase_refusal w.dim act (phase_of w (station_of act)) ≡ None)
accepted act w = turn _ (ltb (station_of act) (length w.records)) refl
  where
    turn : (why : Refused) (t : Bool)
        → ltb (station_of act) (length w.records) ≡ t
        → cond t (phase_refusal w.dim act (phase_of w (station_of act))) (Some why) ≡ None
        → (station_of act < length w.records)
        × (phase_refusal w.dim act (phase_of w (station_of act)) ≡ None)
    turn why true is none = (ltb-true (station_of act) (length w.records) is, none)
    turn why false is none = absurd (cc)

take_idle : (n s v : ℕ) (p : Phase)
    → phase_refusal n (Take s v) p ≡ None
    → (p ≡ Idle) × IsInCube n v
take_idle n s v Idle none = turn _ (ltb 0 v) (ltb v (2 ^ (n + 1))) refl refl none
  where
    turn : (why : Refused) (b t : Bool)
        → ltb 0 v ≡ b
        → ltb v (2 ^ (n + 1)) ≡ t
        → cond (b && t) None (Some why) ≡ None
        → (Idle ≡ Idle) × IsInCube n v
    turn why true true low high is = (refl, (ltb-true 0 v low, ltb-true v (2 ^ (n + 1)) high))
    turn why true false low high is = absurd (cc)
    turn why false true low high is = absurd (cc)
    turn why false false low high is = absurd (cc)
take_idle n s v (Looking h) none = absurd (cc)
take_idle n s v (Looked h w) none = absurd (cc)
take_idle n s v (Climbing h a) none = absurd (cc)
take_idle n s v (Swept h a) none = absurd (cc)
take_idle n s v (Holding h) none = absurd (cc)
take_idle n s v (Leaving h) none = absurd (cc)
take_idle n s v (Backing h a) none = absurd (cc)
take_idle n s v (Arriving a) none = absurd (cc)
take_idle n s v (Unmarked a) none = absurd (cc)
take_idle n s v (Marked a w left right) none = absurd (cc)
take_idle n s v Retired none = absurd (cc)

pub release_holds : (n s : ℕ) (p : Phase)
    → phase_refusal n (Release s) p ≡ None
    → p ≡ Holding (owned p)
release_holds n s Idle none = absurd (cc)
release_holds n s (Looking h) none = absurd (cc)
release_holds n s (Looked h w) none = absurd (cc)
release_holds n s (Climbing h a) none = absurd (cc)
release_holds n s (Swept h a) none = absurd (cc)
release_holds n s (Holding h) none = refl
release_holds n s (Leaving h) none = absurd (cc)
release_holds n s (Backing h a) none = absurd (cc)
release_holds n s (Arriving a) none = absurd (cc)
release_holds n s (Unmarked a) none = absurd (cc)
release_holds n s (Marked a w left right) none = absurd (cc)
release_holds n s Retired none = absurd (cc)

retire_idle : (n s : ℕ) (p : Phase) → phase_refusal n (Retire s) p ≡ None → p ≡ Idle
retire_idle n s Idle none = refl
retire_idle n s (Looking h) none = absurd (cc)
retire_idle n s (Looked h w) none = absurd (cc)
retire_idle n s (Climbing h a) none = absurd (cc)
retire_idle n s (Swept h a) none = absurd (cc)
retire_idle n s (Holding h) none = absurd (cc)
retire_idle n s (Leaving h) none = absurd (cc)
retire_idle n s (Backing h a) none = absurd (cc)
retire_idle n s (Arriving a) none = absurd (cc)
retire_idle n s (Unmarked a) none = absurd (cc)
retire_idle n s (Marked a w left right) none = absurd (cc)
retire_idle n s Retired none = absurd (cc)

-- what an act leads to: the invariant holds there, and the act was a step of the machine of pairs
pub record LeadsTo (w : State) (u : ℕ) (new : State) : Type 0 where
  pub dim : new.dim ≡ w.dim
  pub stations : length new.records ≡ length w.records
  pub stands : Stands new
  pub step : IsMachineStep w.dim u (asked (phase_of w u)) (held_of w) (held_of new)

-- a move keeps the invariant
move_leads : (w new : State) (u : ℕ) (p : Phase) (v y : ℕ) (q : Phase)
    → Stands w
    → new.dim ≡ w.dim
    → length new.words ≡ length w.words
    → length new.records ≡ length w.records
    → Move w.dim u (word_of w) p v y q
    → phase_of w u ≡ p
    → Change (word_of w) (phase_of w) v y u q (word_of new) (phase_of new)
    → LeadsTo w u new
move_leads w new u p v y q k dim words stations move is change =
    let kept : Invariant w.dim (length w.records) (word_of new) (phase_of new) = invariant_kept move is change k.holds in record {
      dim = dim;
      stations = stations;
      stands = record { word_count = words ∙ k.word_count ∙ ap (λ n. 2 ^ (n + 1)) (sym dim); holds = subst (λ n. Invariant n (length new.records) (word_of new) (phase_of new)) (sym dim) (subst (λ count. Invariant w.dim count (word_of new) (phase_of new)) (sym stations) kept) };
      step = subst (λ n. IsMachineStep w.dim u (asked (phase_of w u)) (held_of w) (λ s. region_held n (node_held (phase_of new s)))) (sym dim) (machine_step change kept.agrees (subst (λ r. HeldMoves r q) (sym is) (held_moves move)));
    }

apply_accepted_leads : (act : Act) (w : State)
    → Stands w
    → (station_of act < length w.records)
    → phase_refusal w.dim act (phase_of w (station_of act)) ≡ None
    → LeadsTo w (station_of act) (apply_accepted act w)
apply_accepted_leads (Take s v) w k there none =
    let idle = take_idle w.dim s v (phase_of w s) none in
    move_leads w _ s Idle 0 (word_of w 0) (Looking v) k refl refl (length-set w.records s _) (begins_take v idle.1) idle.0 (apply_begin_change s (Looking v) w there)
apply_accepted_leads (Release s) w k there none =
    let holds = release_holds w.dim s (phase_of w s) none in
    move_leads w _ s (Holding (owned (phase_of w s))) 0 (word_of w 0) (Leaving (owned (phase_of w s))) k refl refl (length-set w.records s _) (begins_release (owned (phase_of w s)) (subst (Fit w.dim) holds (k.holds.agrees.fit s))) holds (apply_begin_change s (Leaving (owned (phase_of w s))) w there)
apply_accepted_leads (Step s) w k there none =
    let in_range = subst (λ m. (transition s (phase_of w s)).node < m) (sym k.word_count) (node_there w.dim s (phase_of w s) (k.holds.agrees.fit s)) in
    move_leads w _ s (phase_of w s) _ _ _ k refl (length-set w.words (transition s (phase_of w s)).node _) (length-set w.records s _) (step_move w.dim s (word_of w) (phase_of w s) (k.holds.agrees.fit s) none) refl (apply_event_change (transition s (phase_of w s)) s w in_range there)
apply_accepted_leads (Retire s) w k there none =
    let idle = retire_idle w.dim s (phase_of w s) none in
    let in_range = subst (λ m. 0 < m) (sym k.word_count) (pow_pos (w.dim + 1)) in
    move_leads w _ s Idle _ _ _ k refl (length-set w.words 0 _) (length-set w.records s _) retires idle (apply_event_change (retirement s) s w in_range there)

-- a refused act changes nothing
pub apply_leads : (act : Act) (w : State) → Stands w → LeadsTo w (station_of act) (apply act w)
apply_leads act w k = turn (refusal act w) refl
  where
    turn : (r : Option Refused)
        → refusal act w ≡ r
        → LeadsTo w (station_of act) (unless_refused r act w)
    turn None is = let yes_there = accepted act w is in apply_accepted_leads act w k yes_there.0 yes_there.1
    turn (Some why) is = record { dim = refl; stations = refl; stands = k; step = inr (inr (λ _. refl)) }

-- ---- every schedule

-- copies of one thing, wherever they are read
copies : {A : Type 0} (count i : ℕ) (a d : A)
    → (get_or (replicate count a) i d ≡ a) ⊎ (get_or (replicate count a) i d ≡ d)
copies count i a d = elim (cases_lt i count) [
  | inl inside ↦ inl (get_or-replicate count i a d inside)
  | inr outside ↦ inr (get_or_past (replicate count a) i d (omega (arith, length-replicate count a)))
]

-- in the opened world all words are 0, and all stations idle or absent
pub initial_stands : (n stations : ℕ) → Stands (initial n stations)
initial_stands n stations = record { word_count = length-replicate (2 ^ (n + 1)) 0; holds = holds }
  where
    word : (v : ℕ) → word_of (initial n stations) v ≡ 0
    word v = elim (copies (2 ^ (n + 1)) v 0 0) [ inl is ↦ is | inr is ↦ is ]

    -- what an idle station and one that does not exist have in common
    station : (F : Phase → Type 0)
        → F Idle
        → F Retired
        → (s : ℕ)
        → F (phase_of (initial n stations) s)
    station F idle retired s = elim (copies stations s (record { phase = Idle; trail = [] }) (record { phase = Retired; trail = [] })) [
      | inl is ↦ subst F (sym (ap (λ (r : Record). r.phase) is)) idle
      | inr is ↦ subst F (sym (ap (λ (r : Record). r.phase) is)) retired
    ]

    there : (s : ℕ)
        → s < length (initial n stations).records
        → phase_of (initial n stations) s ≡ Idle
    there s below = ap (λ (r : Record). r.phase) (get_or-replicate stations s (record { phase = Idle; trail = [] }) (record { phase = Retired; trail = [] }) (subst (λ count. s < count) (length-replicate stations (record { phase = Idle; trail = [] })) below))

    holds : Invariant n (length (initial n stations).records) (word_of (initial n stations))
        (phase_of (initial n stations))
    holds = invariant_initial n (length (initial n stations).records) (word_of (initial n stations)) (phase_of (initial n stations)) word (station (λ p. (p ≡ Idle) ⊎ (p ≡ Retired)) (inl refl) (inr refl)) there

pub apply_all_stands : (acts : List Act) (w : State) → Stands w → Stands (apply_all acts w)
apply_all_stands [] w k = k
apply_all_stands (act ∷ earlier) w k = (apply_leads act (apply_all earlier w) (apply_all_stands earlier w k)).stands

-- what an act that is not refused makes of the world
pub apply-accepted : (act : Act) (w : State)
    → refusal act w ≡ None
    → apply act w ≡ apply_accepted act w
apply-accepted act w none = ap (λ r. unless_refused r act w) none

pub apply_begin_phase : (s : ℕ) (q : Phase) (w : State)
    → s < length w.records
    → phase_of (apply_begin s q w) s ≡ q
apply_begin_phase s q w there = (apply_begin_change s q w there).phase_here

-- ---- schedules and their acts

pub apply_all_dim : (acts : List Act) (w : State) → Stands w → (apply_all acts w).dim ≡ w.dim
apply_all_dim [] w k = refl
apply_all_dim (act ∷ earlier) w k = (apply_leads act (apply_all earlier w) (apply_all_stands earlier w k)).dim ∙ apply_all_dim earlier w k

-- no act changes another station's record
pub others_record : (act : Act) (w : State) (t : ℕ)
    → t ≢ station_of act
    → record_of (apply act w) t ≡ record_of w t
unfolding absent
others_record act w t other = turn (refusal act w)
  where
    apply_accepted_record : (a : Act)
        → t ≢ station_of a
        → record_of (apply_accepted a w) t ≡ record_of w t
    apply_accepted_record (Take s v) differ = get_or-set_other w.records s t _ absent differ
    apply_accepted_record (Release s) differ = get_or-set_other w.records s t _ absent differ
    apply_accepted_record (Step s) differ = get_or-set_other w.records s t _ absent differ
    apply_accepted_record (Retire s) differ = get_or-set_other w.records s t _ absent differ

    turn : (r : Option Refused) → record_of (unless_refused r act w) t ≡ record_of w t
    turn None = apply_accepted_record act other
    turn (Some why) = refl

-- what each accepted step of a station keeps of its record
abbrev pub IsKept : (Record → Type 0) → ℕ → ℕ → Type 0
IsKept G n s = (w : State) → Stands w → w.dim ≡ n → refusal (Step s) w ≡ None → G (record_of w s) → G (record_of (apply (Step s) w) s)

-- an act keeps it, unless it is an act of this station and no step
one_step : (G : Record → Type 0) (n s : ℕ) (act : Act) (w : State)
    → IsKept G n s
    → Stands w
    → w.dim ≡ n
    → (station_of act ≡ s → act ≡ Step s)
    → G (record_of w s)
    → G (record_of (apply act w) s)
one_step G n s act w keeps k dim own now = elim (cases_eq s (station_of act)) [
  | inl same ↦ subst (λ a. G (record_of (apply a w) s)) (sym (own (sym same))) (turn (refusal (Step s) w) refl)
  | inr other ↦ subst G (sym (others_record act w s other)) now
]
  where
    turn : (r : Option Refused)
        → refusal (Step s) w ≡ r
        → G (record_of (unless_refused r (Step s) w) s)
    turn None none = subst (λ u. G (record_of u s)) (apply-accepted (Step s) w none) (keeps w k dim none now)
    turn (Some why) _ = now

-- and so do all acts in which the station's own are steps
pub only_steps : (G : Record → Type 0) (n s : ℕ)
    → IsKept G n s
    → (later : List Act) (w : State)
    → Stands w
    → w.dim ≡ n
    → HasOnlySteps s later
    → G (record_of w s)
    → G (record_of (apply_all later w) s)
only_steps G n s keeps [] w k dim steps now = now
only_steps G n s keeps (act ∷ earlier) w k dim (own, steps) now =
    one_step G n s act (apply_all earlier w) keeps (apply_all_stands earlier w k) (apply_all_dim earlier w k ∙ dim) own (only_steps G n s keeps earlier w k dim steps now)
