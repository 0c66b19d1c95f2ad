-- Worlds of the program are states that some schedule leads to.
use Rattle.std.proofs.Common.{◌≡◌, ◌≢◌, ℕ, zero, suc, ◌+◌, ◌*◌, ◌^◌, ◌<◌, ◌≤◌, cond, ◌&&◌, ltb, List, [], ◌∷◌, ◌++◌, length, get_or, map, Option, Some, None, Result, Ok, Err, IfErr, OnErr, OnOk, reverse, take, replicate, refl, sym, ◌∙◌, ap, subst, arith}
use Rattle.std.proofs.lemmas.Bool.{lt-ltb}
use Rattle.cube_shape.specs.declared.limits.TheConstants.{MAX_DIM, MAX_STATIONS}
use Rattle.std.proofs.Math.ListN.{set}
use Rattle.std.proofs.Math.Pow.{pow_mono}
use Rattle.std.proofs.lemmas.List.{get_or_default, get_or-set_same, length-set, length-replicate, take_more, reverse-append}
use Rattle.cube_shape.specs.Node.{IsInCube}
use Rattle.cube_core.specs.declared.effect.Effect.{Effect}
use Rattle.cube_core.specs.InnerEffect.{IsEffect}
use Rattle.cube_core.specs.declared.phase.Phase.{Phase}
use Rattle.cube_core.specs.declared.phase.Phase.TheVariants.{Idle, Looking, Looked, Climbing, Swept, Holding, Leaving, Backing, Arriving, Unmarked, Marked, Retired}
use Rattle.cube_core.specs.declared.act.Act.{Act}
use Rattle.cube_core.specs.declared.act.Act.TheVariants.{Take, Release, Step, Retire}
use Rattle.cube_core.specs.declared.act.Refused.{Refused}
use Rattle.cube_core.specs.declared.act.Refused.TheVariants.{NotIdle, NoStation, NotInCube}
use Rattle.cube_core.specs.Phase.{owned, node_held}
use Rattle.cube_core.specs.Event.{Transition, transition, retirement}
use Rattle.cube_core.specs.Schedule.{Record, State, record_of, phase_of, word_of, initial, apply_begin, apply_event, step_refusal, phase_refusal, refusal, station_of, apply_accepted, unless_refused, apply, apply_all}
use Rattle.cube_core.specs.World.{without_trails, HasShapeOf}
use Rattle.cube_core.specs.InnerWorld.{record_without_trail, state_of, IsReached, IsWorld}
use Rattle.cube_core.specs.Count.{depth, events_due, IsCounted}
use Rattle.cube_core.specs.Law.{IsTreeLawful}
use Rattle.cube_core.proofs.ChangeLemmas.{Fit, IsInner}
use Rattle.cube_core.proofs.InvariantLemmas.{Invariant}
use Rattle.cube_core.proofs.ScheduleLemmas.{Stands, Stands-lawful, Stands-counted, take_due, release_is_due, apply-accepted, initial_stands, apply_all_stands, node_there}

-- ---- records whose trails are left out

forget_twice : (rs : List Record)
    → map (λ (r : Record). record_without_trail r.phase)
    (map (λ (r : Record). record_without_trail r.phase) rs)
    ≡ map (λ (r : Record). record_without_trail r.phase) rs
forget_twice [] = refl
forget_twice (r ∷ rs) = ap (λ l. record_without_trail r.phase ∷ l) (forget_twice rs)

forget_record_without_trail : (phases : List Phase)
    → map (λ (r : Record). record_without_trail r.phase) (map record_without_trail phases)
    ≡ map record_without_trail phases
forget_record_without_trail [] = refl
forget_record_without_trail (p ∷ phases) = ap (λ l. record_without_trail p ∷ l) (forget_record_without_trail phases)

-- of a record that is written only the phase counts
forget-set_record_without_trail : (phases : List Phase) (s : ℕ) (r : Record)
    → map (λ (t : Record). record_without_trail t.phase) (set (map record_without_trail phases) s r)
    ≡ map record_without_trail (set phases s r.phase)
forget-set_record_without_trail [] s r = refl
forget-set_record_without_trail (p ∷ phases) zero r = ap (λ l. record_without_trail r.phase ∷ l) (forget_record_without_trail phases)
forget-set_record_without_trail (p ∷ phases) (suc s) r = ap (λ l. record_without_trail p ∷ l) (forget-set_record_without_trail phases s r)

forget-set_forgotten : (rs : List Record) (s : ℕ) (q r : Record)
    → q.phase ≡ r.phase
    → map (λ (t : Record). record_without_trail t.phase)
    (set (map (λ (t : Record). record_without_trail t.phase) rs) s q)
    ≡ map (λ (t : Record). record_without_trail t.phase) (set rs s r)
forget-set_forgotten [] s q r same = refl
forget-set_forgotten (t ∷ rs) zero q r same = ap (λ p. record_without_trail p ∷ map (λ (t : Record). record_without_trail t.phase) (map (λ (t : Record). record_without_trail t.phase) rs)) same ∙ ap (λ l. record_without_trail r.phase ∷ l) (forget_twice rs)
forget-set_forgotten (t ∷ rs) (suc s) q r same = ap (λ l. record_without_trail t.phase ∷ l) (forget-set_forgotten rs s q r same)

phase_at : (rs : List Record) (s : ℕ)
    → (get_or (map (λ (r : Record). record_without_trail r.phase) rs) s
    (record { phase = Retired; trail = [] })).phase
    ≡ (get_or rs s (record { phase = Retired; trail = [] })).phase
phase_at [] s = refl
phase_at (r ∷ rs) zero = refl
phase_at (r ∷ rs) (suc s) = phase_at rs s

length_forgotten : (rs : List Record)
    → length (map (λ (r : Record). record_without_trail r.phase) rs) ≡ length rs
length_forgotten [] = refl
length_forgotten (r ∷ rs) = ap suc (length_forgotten rs)

-- the phase and the number of the stations of a state that is given by its phases
pub phase_of-state : (n : ℕ) (words : List ℕ) (phases : List Phase) (s : ℕ)
    → phase_of (state_of n words phases) s ≡ get_or phases s Retired
phase_of-state n words [] s = refl
phase_of-state n words (p ∷ phases) zero = refl
phase_of-state n words (p ∷ phases) (suc s) = phase_of-state n words phases s

pub stations_of-state : (phases : List Phase)
    → length (map record_without_trail phases) ≡ length phases
stations_of-state [] = refl
stations_of-state (p ∷ phases) = ap suc (stations_of-state phases)

-- ---- what the program writes is what the state becomes

pub without_trails-state : (n : ℕ) (words : List ℕ) (phases : List Phase)
    → without_trails (state_of n words phases) ≡ state_of n words phases
without_trails-state n words phases = ap (λ rs. record { dim = n; words = words; records = rs }) (forget_record_without_trail phases)

pub without_trails-apply_begin : (n : ℕ) (words : List ℕ) (phases : List Phase) (s : ℕ) (q : Phase)
    → without_trails (apply_begin s q (state_of n words phases)) ≡ state_of n words (set phases s q)
without_trails-apply_begin n words phases s q = ap (λ rs. record { dim = n; words = words; records = rs }) (forget-set_record_without_trail phases s _)

pub without_trails-apply_event : (n : ℕ) (words : List ℕ) (phases : List Phase) (s : ℕ)
    (d : Transition)
    → without_trails (apply_event d s (state_of n words phases))
    ≡ state_of n (set words d.node (d.writes (get_or words d.node 0)))
    (set phases s (d.next (get_or words d.node 0)))
without_trails-apply_event n words phases s d = ap (λ rs. record { dim = n; words = set words d.node (d.writes (get_or words d.node 0)); records = rs }) (forget-set_record_without_trail phases s _)

-- an act has the same effect on a state and on the state without its trails
without_trails_twice : (w : State) → without_trails (without_trails w) ≡ without_trails w
without_trails_twice w = ap (λ rs. record w { records = rs }) (forget_twice w.records)

apply_event-without_trails : (d : Transition) (s : ℕ) (w : State)
    → without_trails (apply_event d s (without_trails w)) ≡ without_trails (apply_event d s w)
apply_event-without_trails d s w = ap (λ rs. record { dim = w.dim; words = set w.words d.node (d.writes (word_of w d.node)); records = rs }) (forget-set_forgotten w.records s _ _ refl)

apply_accepted-without_trails : (act : Act) (w : State)
    → without_trails (apply_accepted act (without_trails w)) ≡ without_trails (apply_accepted act w)
apply_accepted-without_trails (Take s v) w = ap (λ rs. record w { records = rs }) (forget-set_forgotten w.records s _ _ refl)
apply_accepted-without_trails (Release s) w = ap (λ rs. record w { records = rs }) (forget-set_forgotten w.records s _ _ (ap (λ p. Leaving (owned p)) (phase_at w.records s)))
apply_accepted-without_trails (Step s) w = ap (λ p. without_trails (apply_event (transition s p) s (without_trails w))) (phase_at w.records s) ∙ apply_event-without_trails (transition s (phase_of w s)) s w
apply_accepted-without_trails (Retire s) w = apply_event-without_trails (retirement s) s w

refusal-without_trails : (act : Act) (w : State) → refusal act (without_trails w) ≡ refusal act w
refusal-without_trails act w = ap (λ count. cond (ltb (station_of act) count) (phase_refusal w.dim act (phase_of (without_trails w) (station_of act))) (Some NoStation)) (length_forgotten w.records) ∙ ap (λ p. cond (ltb (station_of act) (length w.records)) (phase_refusal w.dim act p) (Some NoStation)) (phase_at w.records (station_of act))

pub apply-without_trails : (act : Act) (w : State)
    → without_trails (apply act (without_trails w)) ≡ without_trails (apply act w)
apply-without_trails act w = ap (λ r. without_trails (unless_refused r act (without_trails w))) (refusal-without_trails act w) ∙ turn (refusal act w)
  where
    turn : (r : Option Refused)
        → without_trails (unless_refused r act (without_trails w))
        ≡ without_trails (unless_refused r act w)
    turn None = apply_accepted-without_trails act w
    turn (Some why) = without_trails_twice w

-- ---- a state that some schedule leads to

pub reached-initial : (n stations : ℕ) → IsReached (without_trails (initial n stations))
reached-initial n stations = (n, stations, [], refl)

pub reached-apply : (act : Act) (w : State) → IsReached w → IsReached (without_trails (apply act w))
reached-apply act w (n, stations, acts, is) = (n, stations, act ∷ acts, ap (λ v. without_trails (apply act v)) is ∙ apply-without_trails act (apply_all acts (initial n stations)))

Stands-without_trails : (w : State) → Stands w → Stands (without_trails w)
Stands-without_trails w k = record {
  word_count = k.word_count;
  holds = subst (λ count. Invariant w.dim count (word_of w) (phase_of (without_trails w))) (sym (length_forgotten w.records))
      (subst (λ (P : ℕ → Phase). Invariant w.dim (length w.records) (word_of w) P) (λ i s. sym (phase_at w.records s) i) k.holds);
}

-- and so the invariant holds there
pub reached-stands : (w : State) → IsReached w → Stands w
reached-stands w (n, stations, acts, is) = subst Stands (sym is) (Stands-without_trails (apply_all acts (initial n stations)) (apply_all_stands acts (initial n stations) (initial_stands n stations)))

pub reached-lawful : (w : State) → IsReached w → IsTreeLawful w
reached-lawful w reached = Stands-lawful w (reached-stands w reached)

-- ---- the calls of a world

pub apply_dim : (act : Act) (w : State) → (apply act w).dim ≡ w.dim
apply_dim act w = turn (refusal act w)
  where
    apply_accepted_dim : (a : Act) → (apply_accepted a w).dim ≡ w.dim
    apply_accepted_dim (Take s v) = refl
    apply_accepted_dim (Release s) = refl
    apply_accepted_dim (Step s) = refl
    apply_accepted_dim (Retire s) = refl

    turn : (r : Option Refused) → (unless_refused r act w).dim ≡ w.dim
    turn None = apply_accepted_dim act
    turn (Some why) = refl

pub apply_stations : (act : Act) (w : State) → length (apply act w).records ≡ length w.records
apply_stations act w = turn (refusal act w)
  where
    apply_accepted_stations : (a : Act) → length (apply_accepted a w).records ≡ length w.records
    apply_accepted_stations (Take s v) = length-set w.records s _
    apply_accepted_stations (Release s) = length-set w.records s _
    apply_accepted_stations (Step s) = length-set w.records s _
    apply_accepted_stations (Retire s) = length-set w.records s _

    turn : (r : Option Refused) → length (unless_refused r act w).records ≡ length w.records
    turn None = apply_accepted_stations act
    turn (Some why) = refl

pub IsWorld-apply : (act : Act) (w new : State)
    → IsWorld w
    → new ≡ without_trails (apply act w)
    → IsWorld new
IsWorld-apply act w new world is = subst IsWorld (sym is) (record {
  dim_in_limits = subst (λ n. n ≤ MAX_DIM) (sym (apply_dim act w)) world.dim_in_limits;
  stations_in_limits = subst (λ count. count ≤ MAX_STATIONS) (sym (length_forgotten (apply act w).records ∙ apply_stations act w)) world.stations_in_limits;
  reached = reached-apply act w world.reached;
})

-- what the program writes when it begins something
pub apply_begin_by : (act : Act) (s : ℕ) (q : Phase) (n : ℕ) (words : List ℕ) (phases : List Phase)
    (w : State)
    → state_of n words phases ≡ w
    → refusal act w ≡ None
    → apply_accepted act w ≡ apply_begin s q w
    → state_of n words (set phases s q) ≡ without_trails (apply act w)
apply_begin_by act s q n words phases w view none is =
    sym (without_trails-apply_begin n words phases s q) ∙ ap (λ v. without_trails (apply_begin s q v)) view ∙ ap without_trails (sym is ∙ sym (apply-accepted act w none))

pub made_initial : (n stations : ℕ)
    → n ≤ MAX_DIM
    → stations ≤ MAX_STATIONS
    → (words : List ℕ) (phases : List Phase)
    → words ≡ replicate (2 ^ (n + 1)) 0
    → phases ≡ replicate stations Idle
    → IsWorld (state_of n words phases) × (state_of n words phases ≡ initial n stations)
made_initial n stations limit few words phases zeros idle = (
  subst IsWorld (sym is) (record {
    dim_in_limits = limit;
    stations_in_limits = subst (λ count. count ≤ MAX_STATIONS) (sym (length-replicate stations (record_without_trail Idle))) few;
    reached = subst IsReached without_trails_initial (reached-initial n stations);
  }),
  is,
)
  where
    all_idle : (count : ℕ)
        → map record_without_trail (replicate count Idle)
        ≡ replicate count (record_without_trail Idle)
    all_idle zero = refl
    all_idle (suc count) = ap (λ l. record_without_trail Idle ∷ l) (all_idle count)

    is : state_of n words phases ≡ initial n stations
    is = ap (λ ws. state_of n ws phases) zeros ∙ ap (λ ps. state_of n (replicate (2 ^ (n + 1)) 0) ps) idle ∙ ap (λ rs. record { dim = n; words = replicate (2 ^ (n + 1)) 0; records = rs }) (all_idle stations)

    without_trails_initial : without_trails (initial n stations) ≡ initial n stations
    without_trails_initial = ap without_trails (sym is_copies) ∙ without_trails-state n (replicate (2 ^ (n + 1)) 0) (replicate stations Idle) ∙ is_copies
      where
        is_copies : state_of n (replicate (2 ^ (n + 1)) 0) (replicate stations Idle)
            ≡ initial n stations
        is_copies = ap (λ rs. record { dim = n; words = replicate (2 ^ (n + 1)) 0; records = rs }) (all_idle stations)

-- a take by a station that is not idle, and a release by one that does not hold
pub take_busy : (n s v : ℕ) (p : Phase)
    → (p ≡ Idle → ⊥)
    → phase_refusal n (Take s v) p ≡ Some NotIdle
take_busy n s v Idle other = absurd (other refl)
take_busy n s v (Looking h) other = refl
take_busy n s v (Looked h w) other = refl
take_busy n s v (Climbing h a) other = refl
take_busy n s v (Swept h a) other = refl
take_busy n s v (Holding h) other = refl
take_busy n s v (Leaving h) other = refl
take_busy n s v (Backing h a) other = refl
take_busy n s v (Arriving a) other = refl
take_busy n s v (Unmarked a) other = refl
take_busy n s v (Marked a w left right) other = refl
take_busy n s v Retired other = refl

pub retire_busy : (n s : ℕ) (p : Phase)
    → (p ≡ Idle → ⊥)
    → phase_refusal n (Retire s) p ≡ Some NotIdle
retire_busy n s Idle other = absurd (other refl)
retire_busy n s (Looking h) other = refl
retire_busy n s (Looked h w) other = refl
retire_busy n s (Climbing h a) other = refl
retire_busy n s (Swept h a) other = refl
retire_busy n s (Holding h) other = refl
retire_busy n s (Leaving h) other = refl
retire_busy n s (Backing h a) other = refl
retire_busy n s (Arriving a) other = refl
retire_busy n s (Unmarked a) other = refl
retire_busy n s (Marked a w left right) other = refl
retire_busy n s Retired other = refl

-- why an act is refused, of a station that exists and of one that does not
pub refusal-there : (act : Act) (w : State)
    → station_of act < length w.records
    → refusal act w ≡ phase_refusal w.dim act (phase_of w (station_of act))
refusal-there act w there = ap (λ t. cond t (phase_refusal w.dim act (phase_of w (station_of act))) (Some NoStation)) (lt-ltb (station_of act) (length w.records) there)

pub take_accepted : (s v : ℕ) (w : State)
    → s < length w.records
    → Idle ≡ phase_of w s
    → IsInCube w.dim v
    → refusal (Take s v) w ≡ None
take_accepted s v w there idle in_cube = refusal-there (Take s v) w there ∙ ap (phase_refusal w.dim (Take s v)) (sym idle) ∙ ap (λ t. cond (t && ltb v (2 ^ (w.dim + 1))) None (Some NotInCube)) (lt-ltb 0 v in_cube.0) ∙ ap (λ t. cond t None (Some NotInCube)) (lt-ltb v (2 ^ (w.dim + 1)) in_cube.1)

pub retire_accepted : (s : ℕ) (w : State)
    → s < length w.records
    → Idle ≡ phase_of w s
    → refusal (Retire s) w ≡ None
retire_accepted s w there idle = refusal-there (Retire s) w there ∙ ap (phase_refusal w.dim (Retire s)) (sym idle)

pub release_accepted : (s h : ℕ) (w : State)
    → s < length w.records
    → Holding h ≡ phase_of w s
    → refusal (Release s) w ≡ None
release_accepted s h w there holds = refusal-there (Release s) w there ∙ ap (phase_refusal w.dim (Release s)) (sym holds)

-- ---- what the invariant says of the phase of a station, and of the node of its next event

pub phase_fit : (w : State) (s : ℕ) → IsWorld w → (q : Phase) → q ≡ phase_of w s → Fit w.dim q
phase_fit w s world q is = subst (Fit w.dim) (sym is) ((reached-stands w world.reached).holds.agrees.fit s)

pub node_in_words : (w : State) (s : ℕ)
    → IsWorld w
    → (q : Phase)
    → q ≡ phase_of w s
    → (transition s q).node < 2 ^ (w.dim + 1)
node_in_words w s world q is = node_there w.dim s q (phase_fit w s world q is)

-- each node of the machine has a word, and the roll has one
pub word_there : (n : ℕ) (words : List ℕ) (phases : List Phase) (w : State) (v : ℕ)
    → state_of n words phases ≡ w
    → IsWorld w
    → v < 2 ^ (w.dim + 1)
    → v < length words
word_there n words phases w v view world below =
    subst (λ (u : State). v < length u.words) (sym view) (subst (λ count. v < count) (sym (reached-stands w world.reached).word_count) below)

pub word_read : (n : ℕ) (words : List ℕ) (phases : List Phase) (w : State) (v r : ℕ)
    → state_of n words phases ≡ w
    → v < length words
    → r ≡ get_or words v r
    → r ≡ word_of w v
word_read n words phases w v r view there is = is ∙ get_or_default words v r 0 there ∙ ap (λ u. word_of u v) view

-- ---- a step

-- what one arm of the match makes is the event of the phase
pub arm_makes : (s : ℕ) (p q : Phase) (w : State) (r : ℕ) (made : Effect)
    → q ≡ p
    → r ≡ word_of w (transition s p).node
    → IsEffect (transition s p) r made
    → IsEffect (transition s q) (word_of w (transition s q).node) made
arm_makes s p q w r made is word effect =
    subst (λ x. IsEffect (transition s x) (word_of w (transition s x).node) made) (sym is) (subst (λ x. IsEffect (transition s p) x made) word effect)

pub step_accepted : (s : ℕ) (q : Phase) (w : State)
    → s < length w.records
    → q ≡ phase_of w s
    → step_refusal q ≡ None
    → refusal (Step s) w ≡ None
step_accepted s q w there is moves = refusal-there (Step s) w there ∙ ap step_refusal (sym is) ∙ moves

-- what the program writes when it makes an event
made_event : (act : Act) (s : ℕ) (d : Transition) (n : ℕ) (words : List ℕ) (phases : List Phase)
    (w : State) (made : Effect)
    → state_of n words phases ≡ w
    → apply act w ≡ apply_event d s w
    → IsEffect d (word_of w d.node) made
    → state_of n (set words made.event.node made.word) (set phases s made.next)
    ≡ without_trails (apply act w)
made_event act s d n words phases w made view is effect =
    ap (λ v. state_of n (set words v made.word) (set phases s made.next)) effect.node
    ∙ ap (λ y. state_of n (set words d.node y) (set phases s made.next)) (effect.word ∙ ap d.writes same)
    ∙ ap (λ p. state_of n (set words d.node (d.writes (get_or words d.node 0))) (set phases s p)) (effect.next ∙ ap d.next same)
    ∙ sym (without_trails-apply_event n words phases s d)
    ∙ ap (λ u. without_trails (apply_event d s u)) view
    ∙ ap without_trails (sym is)
  where
    same : word_of w d.node ≡ get_or words d.node 0
    same = ap (λ u. word_of u d.node) (sym view)

pub apply_event_by : (s : ℕ) (q : Phase) (n : ℕ) (words : List ℕ) (phases : List Phase) (w : State)
    (made : Effect)
    → state_of n words phases ≡ w
    → refusal (Step s) w ≡ None
    → q ≡ phase_of w s
    → IsEffect (transition s q) (word_of w (transition s q).node) made
    → state_of n (set words made.event.node made.word) (set phases s made.next)
    ≡ without_trails (apply (Step s) w)
apply_event_by s q n words phases w made view none is effect =
    made_event (Step s) s (transition s q) n words phases w made view (apply-accepted (Step s) w none ∙ ap (λ p. apply_event (transition s p) s w) (sym is)) effect

pub retired_by : (s : ℕ) (n : ℕ) (words : List ℕ) (phases : List Phase) (w : State) (made : Effect)
    → state_of n words phases ≡ w
    → refusal (Retire s) w ≡ None
    → IsEffect (retirement s) (word_of w 0) made
    → state_of n (set words 0 made.word) (set phases s made.next)
    ≡ without_trails (apply (Retire s) w)
retired_by s n words phases w made view none effect =
    ap (λ v. state_of n (set words v made.word) (set phases s made.next)) (sym effect.node)
    ∙ made_event (Retire s) s (retirement s) n words phases w made view (apply-accepted (Retire s) w none) effect

-- and the event is the head of the station's trail
event_told_event : (act : Act) (s : ℕ) (d : Transition) (w : State) (made : Effect)
    → s < length w.records
    → apply act w ≡ apply_event d s w
    → IsEffect d (word_of w d.node) made
    → (record_of (apply act w) s).trail ≡ made.event ∷ (record_of w s).trail
event_told_event act s d w made there is effect =
    ap (λ u. (record_of u s).trail) is
    ∙ ap (λ (r : Record). r.trail) (get_or-set_same w.records s _ (record { phase = Retired; trail = [] }) there)
    ∙ ap (λ l. l ++ (record_of w s).trail) effect.event

pub event_told_by : (s : ℕ) (q : Phase) (w : State) (made : Effect)
    → s < length w.records
    → refusal (Step s) w ≡ None
    → q ≡ phase_of w s
    → IsEffect (transition s q) (word_of w (transition s q).node) made
    → (record_of (apply (Step s) w) s).trail ≡ made.event ∷ (record_of w s).trail
event_told_by s q w made there none is effect =
    event_told_event (Step s) s (transition s q) w made there (apply-accepted (Step s) w none ∙ ap (λ p. apply_event (transition s p) s w) (sym is)) effect

pub retire_told_by : (s : ℕ) (w : State) (made : Effect)
    → s < length w.records
    → refusal (Retire s) w ≡ None
    → IsEffect (retirement s) (word_of w 0) made
    → (record_of (apply (Retire s) w) s).trail ≡ made.event ∷ (record_of w s).trail
retire_told_by s w made there none effect = event_told_event (Retire s) s (retirement s) w made there (apply-accepted (Retire s) w none) effect

-- a station that exists has a number within the limits, and so has an inner node
pub station_in_limits : (s : ℕ) (w : State) → IsWorld w → s < length w.records → s < MAX_STATIONS
station_in_limits s w world there = below s (length w.records) MAX_STATIONS there world.stations_in_limits
  where
    below : (a b c : ℕ) → a < b → b ≤ c → a < c
    below a b c less le = omega arith

pub inner_in_limits : (a : ℕ) (w : State) → IsWorld w → IsInner w.dim a → a < 2 ^ MAX_DIM
inner_in_limits a w world inner = below a (2 ^ w.dim) (2 ^ MAX_DIM) inner.1 (pow_mono world.dim_in_limits)
  where
    below : (x b c : ℕ) → x < b → b ≤ c → x < c
    below x b c less le = omega arith

-- ---- the count of events

phase_after : (act : Act) (w new : State) (t : ℕ)
    → new ≡ without_trails (apply act w)
    → phase_of new t ≡ phase_of (apply act w) t
phase_after act w new t is = ap (λ u. phase_of u t) is ∙ phase_at (apply act w).records t

counted : (w : State) → IsWorld w → IsCounted w
counted w world = Stands-counted w (reached-stands w world.reached)

pub take_count : (s v : ℕ) (w new : State)
    → IsWorld w
    → refusal (Take s v) w ≡ None
    → new ≡ without_trails (apply (Take s v) w)
    → events_due w.dim (phase_of new s) ≡ 3 + 7 * depth w.dim v
take_count s v w new world none is = ap (events_due w.dim) (phase_after (Take s v) w new s is) ∙ take_due s v w none

pub release_count : (s : ℕ) (w new : State)
    → IsWorld w
    → refusal (Release s) w ≡ None
    → new ≡ without_trails (apply (Release s) w)
    → events_due w.dim (phase_of new s) ≡ 1 + 5 * depth w.dim (node_held (phase_of w s))
release_count s w new world none is = ap (events_due w.dim) (phase_after (Release s) w new s is) ∙ release_is_due s w none

pub step_count : (s : ℕ) (w new : State)
    → IsWorld w
    → refusal (Step s) w ≡ None
    → new ≡ without_trails (apply (Step s) w)
    → events_due w.dim (phase_of new s) < events_due w.dim (phase_of w s)
step_count s w new world none is = subst (λ p. events_due w.dim p < events_due w.dim (phase_of w s)) (sym (phase_after (Step s) w new s is)) ((counted w world).falls s none)

pub others_same : (act : Act) (w new : State)
    → IsWorld w
    → new ≡ without_trails (apply act w)
    → (t : ℕ)
    → t ≢ station_of act
    → phase_of new t ≡ phase_of w t
others_same act w new world is t other = phase_after act w new t is ∙ ap (λ (r : Record). r.phase) ((counted w world).others act t other)

pub IsWorld-lawful : (w : State) → IsWorld w → IsTreeLawful w
IsWorld-lawful w world = reached-lawful w world.reached

-- a fact of the fields is one of the value
pub IsWorld-of : {v w : State} → v ≡ w → IsWorld v → IsWorld w
IsWorld-of is world = subst IsWorld is world

-- ---- acts one after another

pub without_trails_of : (n : ℕ) (words : List ℕ) (phases : List Phase) (w : State)
    → state_of n words phases ≡ w
    → without_trails w ≡ w
without_trails_of n words phases w view = ap without_trails (sym view) ∙ without_trails-state n words phases ∙ view

-- a call, whether it is refused or not, makes of a world what the act makes
pub made_by : {A : Type 0} (act : Act) (w new : State) (r : Result A Refused)
    → without_trails w ≡ w
    → IfErr r (λ why. refusal act w ≡ Some why)
    → OnErr r (new ≡ w)
    → OnOk r (new ≡ without_trails (apply act w))
    → new ≡ without_trails (apply act w)
made_by act w new (Ok a) quiet _ _ became = became
made_by act w new (Err why) quiet refused same _ = same ∙ sym (ap without_trails (ap (λ x. unless_refused x act w) refused) ∙ quiet)

-- one more act at the end of those that were made
pub one_more : (acts : List Act) (i : ℕ) (none : Act) (first old new : State)
    → i < length acts
    → old ≡ without_trails (apply_all (reverse (take i acts)) first)
    → new ≡ without_trails (apply (get_or acts i none) old)
    → new ≡ without_trails (apply_all (reverse (take (i + 1) acts)) first)
one_more acts i none first old new below before made =
    made ∙ ap (λ w. without_trails (apply (get_or acts i none) w)) before ∙ apply-without_trails (get_or acts i none) (apply_all (reverse (take i acts)) first)
    ∙ ap (λ earlier. without_trails (apply_all earlier first)) (sym (ap reverse (take_more acts i none below) ∙ reverse-append (take i acts) (get_or acts i none ∷ [])))

-- ---- the shape stays

pub shape_kept : (act : Act) (w new : State) → new ≡ without_trails (apply act w) → HasShapeOf w new
shape_kept act w new is = subst (HasShapeOf w) (sym is) (record {
  dim = apply_dim act w;
  stations = length_forgotten (apply act w).records ∙ apply_stations act w;
})

pub shape_same : (w new : State) → new ≡ w → HasShapeOf w new
shape_same w new is = record { dim = ap (λ (u : State). u.dim) is; stations = ap (λ (u : State). length u.records) is }

pub shape_trans : (first old new : State)
    → HasShapeOf first old
    → HasShapeOf old new
    → HasShapeOf first new
shape_trans first old new before now = record { dim = now.dim ∙ before.dim; stations = now.stations ∙ before.stations }
