-- A call that begins something and the event after it are one event. A running station makes both
-- in one step.
use Rattle.std.proofs.Common.{◌≡◌, ℕ, zero, suc, ◌<◌, List, [], ◌∷◌, ◌++◌, length, None, refl, sym, ◌∙◌, ap, subst}
use Rattle.std.proofs.Math.ListN.{set}
use Rattle.std.proofs.lemmas.List.{get_or-set_same, length-set}
use Rattle.cube_shape.specs.Node.{IsInCube}
use Rattle.cube_core.specs.declared.phase.Phase.{Phase}
use Rattle.cube_core.specs.declared.phase.Phase.TheVariants.{Idle, Looking, Holding, Leaving, Retired}
use Rattle.cube_core.specs.declared.act.Act.{Act}
use Rattle.cube_core.specs.declared.act.Act.TheVariants.{Take, Release, Step, Retire}
use Rattle.cube_core.specs.Phase.{owned}
use Rattle.cube_core.specs.Event.{Transition, transition, retirement, zero_event}
use Rattle.cube_core.specs.Schedule.{Record, State, AreOneEvent, record_of, phase_of, word_of, apply_begin, apply_event, step_refusal, apply}
use Rattle.cube_core.proofs.ScheduleLemmas.{apply-accepted, apply_begin_phase}
use Rattle.cube_core.proofs.WorldLemmas.{step_accepted, take_accepted, release_accepted, retire_accepted}

set_twice : {A : Type 0} (l : List A) (i : ℕ) (a b : A) → set (set l i a) i b ≡ set l i b
set_twice [] i a b = refl
set_twice (c ∷ l) zero a b = refl
set_twice (c ∷ l) (suc i) a b = ap (λ m. c ∷ m) (set_twice l i a b)

-- after a beginning an event finds the same trail, and its record replaces that of the beginning
apply_event-apply_begin : (d : Transition) (s : ℕ) (q : Phase) (w : State)
    → s < length w.records
    → apply_event d s (apply_begin s q w) ≡ apply_event d s w
apply_event-apply_begin d s q w there =
    ap (λ (r : Record). record { dim = w.dim; words = set w.words d.node (d.writes (word_of w d.node)); records = set (set w.records s began) s (record { phase = d.next (word_of w d.node); trail = d.events (word_of w d.node) ++ r.trail }) })
    (get_or-set_same w.records s began (record { phase = Retired; trail = [] }) there)
    ∙ ap (λ rs. record { dim = w.dim; words = set w.words d.node (d.writes (word_of w d.node)); records = rs }) (set_twice w.records s began _)
  where
    began : Record
    began = record (record_of w s) { phase = q }

-- a step that is not refused
pub step_is_event : (n s : ℕ) (r : Record)
    → step_refusal r.phase ≡ None
    → AreOneEvent n (Step s ∷ []) s r (transition s r.phase)
step_is_event n s r moves w dim there is =
    apply-accepted (Step s) w (step_accepted s r.phase w there (sym (ap (λ (x : Record). x.phase) is)) moves)
    ∙ ap (λ (x : Record). apply_event (transition s x.phase) s w) is

pub retire_is_event : (n s : ℕ) (r : Record)
    → r.phase ≡ Idle
    → AreOneEvent n (Retire s ∷ []) s r (retirement s)
retire_is_event n s r idle w dim there is =
    apply-accepted (Retire s) w (retire_accepted s w there (sym (ap (λ (x : Record). x.phase) is ∙ idle)))

-- what follows a beginning that is not refused
begin_is_event : (act : Act) (s : ℕ) (q : Phase) (w : State)
    → s < length w.records
    → apply act w ≡ apply_begin s q w
    → step_refusal q ≡ None
    → apply (Step s) (apply act w) ≡ apply_event (transition s q) s w
begin_is_event act s q w there is moves =
    ap (apply (Step s)) is
    ∙ apply-accepted (Step s) (apply_begin s q w) (step_accepted s q (apply_begin s q w) (subst (λ count. s < count) (sym (length-set w.records s _)) there) (sym (apply_begin_phase s q w there)) moves)
    ∙ ap (λ p. apply_event (transition s p) s (apply_begin s q w)) (apply_begin_phase s q w there)
    ∙ apply_event-apply_begin (transition s q) s q w there

pub take_is_event : (n s v : ℕ) (r : Record)
    → r.phase ≡ Idle
    → IsInCube n v
    → AreOneEvent n (Step s ∷ Take s v ∷ []) s r (transition s (Looking v))
take_is_event n s v r idle in_cube w dim there is =
    begin_is_event (Take s v) s (Looking v) w there (apply-accepted (Take s v) w (take_accepted s v w there (sym (ap (λ (x : Record). x.phase) is ∙ idle)) (subst (λ m. IsInCube m v) (sym dim) in_cube))) refl

pub release_is_event : (n s h : ℕ) (r : Record)
    → r.phase ≡ Holding h
    → AreOneEvent n (Step s ∷ Release s ∷ []) s r (zero_event s h)
release_is_event n s h r holds w dim there is =
    begin_is_event (Release s) s (Leaving h) w there (apply-accepted (Release s) w (release_accepted s h w there (sym at)) ∙ ap (λ p. apply_begin s (Leaving (owned p)) w) at) refl
  where
    at : phase_of w s ≡ Holding h
    at = ap (λ (x : Record). x.phase) is ∙ holds
