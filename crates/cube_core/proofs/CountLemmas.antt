-- The number of events: one for each accepted step, and never more than was due. Also the node that
-- a take named.
use Rattle.std.proofs.Common.{◌≡◌, ℕ, suc, ◌+◌, ◌-◌, ◌*◌, ◌<◌, ◌≤◌, inl, inr, List, [], ◌∷◌, ◌++◌, length, Option, Some, None, refl, sym, ◌∙◌, ap, subst, arith}
use Rattle.std.proofs.lemmas.Bool.{cases_eq}
use Rattle.std.proofs.lemmas.List.{get_or-set_same}
use Rattle.cube_shape.specs.declared.region.Region.{Region}
use Rattle.cube_shape.specs.Node.{IsNodeOf}
use Rattle.cube_shape.proofs.PathLemmas.{log_unique}
use Rattle.cube_shape.proofs.RegionLemmas.{IsNodeOf-level, IsNodeOf-in_cube}
use Rattle.cube_core.specs.declared.event.Event.{Event}
use Rattle.cube_core.specs.declared.phase.Phase.{Phase}
use Rattle.cube_core.specs.declared.phase.Phase.TheVariants.{Looking, Holding, Leaving, Retired}
use Rattle.cube_core.specs.declared.act.Act.{Act}
use Rattle.cube_core.specs.declared.act.Act.TheVariants.{Take, Release, Step}
use Rattle.cube_core.specs.declared.act.Refused.{Refused}
use Rattle.cube_core.specs.Phase.{owned, node_held, step_refusal}
use Rattle.cube_core.specs.InnerPhase.{asked}
use Rattle.cube_core.specs.Event.{transition}
use Rattle.cube_core.specs.Schedule.{Record, State, record_of, phase_of, trail_of, word_of, apply_begin, refusal, station_of, apply_accepted, unless_refused, apply, apply_all, HasOnlySteps}
use Rattle.cube_core.specs.Held.{held_of}
use Rattle.cube_core.specs.Count.{depth, events_due, IsCounted}
use Rattle.cube_core.proofs.LevelLemmas.{dim_at-level}
use Rattle.cube_core.proofs.MoveLemmas.{IsTaking, step_event, step_move, due_falls, taking_kept}
use Rattle.cube_core.proofs.HeldLemmas.{held_named}
use Rattle.cube_core.proofs.StandsLemmas.{Stands, accepted, apply-accepted, apply_all_dim, apply_all_stands, apply_begin_phase, apply_leads, only_steps, others_record, release_holds}

-- ---- what is due

phase_here : (act : Act) (w : State) (q : Phase)
    → refusal act w ≡ None
    → phase_of (apply_accepted act w) (station_of act) ≡ q
    → events_due w.dim (phase_of (apply act w) (station_of act)) ≡ events_due w.dim q
phase_here act w q none is = ap (λ u. events_due w.dim (phase_of u (station_of act))) (apply-accepted act w none) ∙ ap (events_due w.dim) is

-- what is due after the beginning of a release depends on the node that is held
release_due : (n : ℕ) (p : Phase)
    → p ≡ Holding (owned p)
    → events_due n (Leaving (owned p)) ≡ 1 + 5 * depth n (node_held p)
release_due n p holds = ap (λ h. 1 + 5 * depth n h) (sym (ap node_held holds))

-- what is due once a take has begun, and once a release has
pub take_due : (s v : ℕ) (w : State)
    → refusal (Take s v) w ≡ None
    → events_due w.dim (phase_of (apply (Take s v) w) s) ≡ 3 + 7 * depth w.dim v
take_due s v w none = phase_here (Take s v) w (Looking v) none (apply_begin_phase s (Looking v) w (accepted (Take s v) w none).0)

pub release_is_due : (s : ℕ) (w : State)
    → refusal (Release s) w ≡ None
    → events_due w.dim (phase_of (apply (Release s) w) s)
    ≡ 1 + 5 * depth w.dim (node_held (phase_of w s))
release_is_due s w none =
    phase_here (Release s) w (Leaving (owned (phase_of w s))) none (apply_begin_phase s (Leaving (owned (phase_of w s))) w (accepted (Release s) w none).0)
    ∙ release_due w.dim (phase_of w s) (release_holds w.dim s (phase_of w s) (accepted (Release s) w none).1)

-- ---- the events of a station

-- the station's record after an accepted step: one event more, its own, and the next phase
pub record IsStepped (w : State) (s : ℕ) : Type 0 where
  pub there : s < length w.records
  pub moves : step_refusal (phase_of w s) ≡ None
  pub record_is : record_of (apply (Step s) w) s
      ≡ record {
        phase = (transition s (phase_of w s)).next
            (word_of w (transition s (phase_of w s)).node);
        trail = (transition s (phase_of w s)).events
            (word_of w (transition s (phase_of w s)).node) ++ trail_of w s;
      }

pub stepped : (w : State) (s : ℕ) → refusal (Step s) w ≡ None → IsStepped w s
stepped w s none =
    let here = accepted (Step s) w none in
    record { there = here.0; moves = here.1; record_is = ap (λ u. record_of u s) (apply-accepted (Step s) w none) ∙ get_or-set_same w.records s _ (record { phase = Retired; trail = [] }) here.0 }

pub one_event : (w : State) (s : ℕ)
    → refusal (Step s) w ≡ None
    → (event : Event) × (event.station ≡ s) × (trail_of (apply (Step s) w) s ≡ event ∷ trail_of w s)
one_event w s none =
    let step = stepped w s none in
    let made = step_event s (word_of w (transition s (phase_of w s)).node) (phase_of w s) step.moves in
    (made.0, made.1, ap (λ (r : Record). r.trail) step.record_is ∙ ap (λ es. es ++ trail_of w s) made.2)

pub falls : (w : State) (s : ℕ)
    → Stands w
    → refusal (Step s) w ≡ None
    → events_due w.dim (phase_of (apply (Step s) w) s) < events_due w.dim (phase_of w s)
falls w s k none =
    let step = stepped w s none in
    subst (λ (r : Record). events_due w.dim r.phase < events_due w.dim (phase_of w s)) (sym step.record_is)
    (due_falls (step_move w.dim s (word_of w) (phase_of w s) (k.holds.agrees.fit s) step.moves) step.moves)

-- the number of events that a station has made, and the most that it still has to make
abbrev made_by : ℕ → Record → ℕ
made_by n r = length r.trail + events_due n r.phase

-- no accepted step raises that of its station
step_pays : (w : State) (s : ℕ)
    → Stands w
    → refusal (Step s) w ≡ None
    → made_by w.dim (record_of (apply (Step s) w) s) ≤ made_by w.dim (record_of w s)
step_pays w s k none =
    let less = falls w s k none in
    let longer : length (trail_of (apply (Step s) w) s) ≡ suc (length (trail_of w s)) = ap length (one_event w s none).2 in
    omega (arith, less, longer)

-- what a station has made, and the most that it still has to make
abbrev made_and_due : State → ℕ → ℕ
made_and_due w s = length (trail_of w s) + events_due w.dim (phase_of w s)

-- nor any step that of any station
never_rises : (w : State)
    → Stands w
    → (s t : ℕ)
    → made_and_due (apply (Step s) w) t ≤ made_and_due w t
never_rises w k s t = subst (λ n. length (trail_of (apply (Step s) w) t) + events_due n (phase_of (apply (Step s) w) t) ≤ made_and_due w t) (sym (apply_leads (Step s) w k).dim) (elim (cases_eq t s) [
  | inl same ↦ subst (λ u. made_by w.dim (record_of (apply (Step s) w) u) ≤ made_by w.dim (record_of w u)) (sym same) (turn (refusal (Step s) w) refl)
  | inr other ↦ subst (λ r. made_by w.dim r ≤ made_by w.dim (record_of w t)) (sym (others_record (Step s) w t other)) (omega arith)
])
  where
    turn : (r : Option Refused)
        → refusal (Step s) w ≡ r
        → made_by w.dim (record_of (unless_refused r (Step s) w) s) ≤ made_by w.dim (record_of w s)
    turn None none = subst (λ u. made_by w.dim (record_of u s) ≤ made_by w.dim (record_of w s)) (apply-accepted (Step s) w none) (step_pays w s k none)
    turn (Some why) _ = omega arith

-- so all that a station makes by steps alone is what was due
steps_bounded : (w : State) (s : ℕ) (later : List Act)
    → Stands w
    → HasOnlySteps s later
    → length (trail_of (apply_all later w) s) ≤ made_by w.dim (record_of w s)
steps_bounded w s later k steps =
    let all : made_by w.dim (record_of (apply_all later w) s) ≤ made_by w.dim (record_of w s) = only_steps (λ r. made_by w.dim r ≤ made_by w.dim (record_of w s)) w.dim s pays later w k refl steps (omega arith) in
    omega (arith, all)
  where
    pays : (u : State)
        → Stands u
        → u.dim ≡ w.dim
        → refusal (Step s) u ≡ None
        → made_by w.dim (record_of u s) ≤ made_by w.dim (record_of w s)
        → made_by w.dim (record_of (apply (Step s) u) s) ≤ made_by w.dim (record_of w s)
    pays u stands dim none before =
        let less : made_by w.dim (record_of (apply (Step s) u) s) ≤ made_by w.dim (record_of u s) = subst (λ n. made_by n (record_of (apply (Step s) u) s) ≤ made_by n (record_of u s)) dim (step_pays u s stands none) in
        omega (arith, less, before)

-- an act that begins something adds no event
begin_record : (act : Act) (s : ℕ) (q : Phase) (w : State)
    → s < length w.records
    → refusal act w ≡ None
    → apply_accepted act w ≡ apply_begin s q w
    → record_of (apply act w) s ≡ record { phase = q; trail = trail_of w s }
begin_record act s q w there none is =
    ap (λ u. record_of u s) (apply-accepted act w none ∙ is) ∙ get_or-set_same w.records s _ (record { phase = Retired; trail = [] }) there

-- after which the station makes no more events by steps than are then due
begin_bounded : (act : Act) (s : ℕ) (q : Phase) (w : State) (later : List Act)
    → Stands w
    → s < length w.records
    → refusal act w ≡ None
    → apply_accepted act w ≡ apply_begin s q w
    → HasOnlySteps s later
    → length (trail_of (apply_all later (apply act w)) s)
    ≤ length (trail_of w s) + events_due w.dim q
begin_bounded act s q w later k there none is steps =
    let leads = apply_leads act w k in
    let bound : length (trail_of (apply_all later (apply act w)) s) ≤ made_by (apply act w).dim (record_of (apply act w) s) = steps_bounded (apply act w) s later leads.stands steps in
    let at_dim : length (trail_of (apply_all later (apply act w)) s) ≤ made_by w.dim (record_of (apply act w) s) = subst (λ n. length (trail_of (apply_all later (apply act w)) s) ≤ made_by n (record_of (apply act w) s)) leads.dim bound in
    subst (λ r. length (trail_of (apply_all later (apply act w)) s) ≤ made_by w.dim r) (begin_record act s q w there none is) at_dim

-- a node is as deep as the dimension of its region is below that of the machine
node_depth : (n v : ℕ) (r : Region) → IsNodeOf n v r → depth n v ≡ n - r.dim
node_depth n v r named =
    let in_cube = IsNodeOf-in_cube n v r named in
    let level = dim_at-level n v in_cube in
    let of_r = IsNodeOf-level n v r named in
    log_unique v (depth n v) (n - r.dim) level.1 level.2 of_r.0 of_r.1

pub Stands-counted : (w : State) → Stands w → IsCounted w
Stands-counted w k = record {
  levels = node_depth w.dim;
  falls = λ s none. falls w s k none;
  one_event = one_event w;
  never_rises = λ s t. subst (λ n. length (trail_of (apply (Step s) w) t) + events_due n (phase_of (apply (Step s) w) t) ≤ made_and_due w t) (apply_leads (Step s) w k).dim (never_rises w k s t);
  others = λ act t other. others_record act w t other;
  take_events = λ s v later none steps. begin_bounded (Take s v) s (Looking v) w later k (accepted (Take s v) w none).0 none refl steps;
  release_events = λ s later none steps. subst (λ d. length (trail_of (apply_all later (apply (Release s) w)) s) ≤ length (trail_of w s) + d) (release_due w.dim (phase_of w s) (release_holds w.dim s (phase_of w s) (accepted (Release s) w none).1))
      (begin_bounded (Release s) s (Leaving (owned (phase_of w s))) w later k (accepted (Release s) w none).0 none refl steps);
}

-- ---- the node that a take named

-- a station holds the region of the node that its take named, or none
pub take_named : (w : State) (s v : ℕ) (later : List Act)
    → Stands w
    → refusal (Take s v) w ≡ None
    → HasOnlySteps s later
    → (r : Region)
    → held_of (apply_all later (apply (Take s v) w)) s ≡ Some r
    → IsNodeOf w.dim v r
take_named w s v later k none steps r held =
    let leads = apply_leads (Take s v) w k in
    let begun : phase_of (apply (Take s v) w) s ≡ Looking v = ap (λ u. phase_of u s) (apply-accepted (Take s v) w none) ∙ apply_begin_phase s (Looking v) w (accepted (Take s v) w none).0 in
    let taking : IsTaking v (phase_of end s) = only_steps (λ (x : Record). IsTaking v x.phase) w.dim s keeps later (apply (Take s v) w) leads.stands leads.dim steps (inl (ap asked begun, ap node_held begun)) in
    let named : IsNodeOf end.dim (node_held (phase_of end s)) r = held_named (apply_all_stands later (apply (Take s v) w) leads.stands).holds.agrees s r held in
    let dim : end.dim ≡ w.dim = apply_all_dim later (apply (Take s v) w) leads.stands ∙ leads.dim in
    by_phase (phase_of end s) (subst (λ n. IsNodeOf n (node_held (phase_of end s)) r) dim named) taking
  where
    end : State
    end = apply_all later (apply (Take s v) w)

    keeps : (u : State)
        → Stands u
        → u.dim ≡ w.dim
        → refusal (Step s) u ≡ None
        → IsTaking v (phase_of u s)
        → IsTaking v (phase_of (apply (Step s) u) s)
    keeps u stands dim moves taking =
        let step = stepped u s moves in
        subst (λ (x : Record). IsTaking v x.phase) (sym step.record_is) (taking_kept v (step_move u.dim s (word_of u) (phase_of u s) (stands.holds.agrees.fit s) step.moves) step.moves taking)

    -- what it holds is no node, or the one named; a node asked is not yet held
    by_phase : (p : Phase) → IsNodeOf w.dim (node_held p) r → IsTaking v p → IsNodeOf w.dim v r
    by_phase p named (inl (_, none)) = absurd (let positive = (IsNodeOf-in_cube w.dim (node_held p) r named).0 in omega (arith, none, positive))
    by_phase p named (inr (_, inl none)) = absurd (let positive = (IsNodeOf-in_cube w.dim (node_held p) r named).0 in omega (arith, none, positive))
    by_phase p named (inr (_, inr is)) = subst (λ a. IsNodeOf w.dim a r) is named
