-- What a walk does not change, and what it adds to the trail.
use Rattle.std.proofs.Common.{◌≡◌, ℕ, Bool, List, [], ◌∷◌, ◌++◌, refl, sym, ◌∙◌, ap, subst, append_assoc}
use Rattle.cube_core.specs.declared.event.Event.{Event}
use Rattle.cube_core.specs.declared.event.Kind.{Kind}
use Rattle.cube_core.specs.declared.event.Note.{Note}
use Rattle.cube_core.specs.declared.phase.Phase.{Phase}
use Rattle.cube_core.specs.Event.{transition}
use Rattle.tree_steps.specs.declared.view.Entry.{Entry}
use Rattle.tree_steps.specs.Rule.{first, others}
use Rattle.tree_steps.specs.Steps.{Known, first_of, begin, step_at, steps_at, step_entry, steps_entry, Walks, Makes, Answered}

-- ---- the station, the other stations and what was loaded

abbrev known : List Entry → List ℕ → Bool → List (ℕ × Unit {0}) → Known
known es loads alone c = (record { stations = es; loads = loads; alone = alone }, c)

-- what an event does not change
pub record LeavesRest (old new : Known) : Type 0 where
  pub station : (first_of new).station ≡ (first_of old).station
  pub others : others new.0.stations ≡ others old.0.stations
  pub loads : new.0.loads ≡ old.0.loads
  pub alone : new.0.alone ≡ old.0.alone
  pub slots : new.1 ≡ old.1

step_leaves : (es : List Entry) (loads : List ℕ) (alone : Bool) (c : List (ℕ × Unit {0}))
    (found : ℕ)
    → LeavesRest (known es loads alone c) (step_at found (known es loads alone c))
step_leaves [] loads alone c found = record { station = refl; others = refl; loads = refl; alone = refl; slots = refl }
step_leaves (e ∷ rest) loads alone c found = record { station = refl; others = refl; loads = refl; alone = refl; slots = refl }

begin_leaves_parts : (es : List Entry) (loads : List ℕ) (alone : Bool) (c : List (ℕ × Unit {0}))
    (p : Phase)
    → LeavesRest (known es loads alone c) (begin p (known es loads alone c))
begin_leaves_parts [] loads alone c p = record { station = refl; others = refl; loads = refl; alone = refl; slots = refl }
begin_leaves_parts (e ∷ rest) loads alone c p = record { station = refl; others = refl; loads = refl; alone = refl; slots = refl }

pub begin_leaves : (m : Known) (p : Phase) → LeavesRest m (begin p m)
begin_leaves m p = begin_leaves_parts m.0.stations m.0.loads m.0.alone m.1 p

pub leaves_on : {old between new : Known}
    → LeavesRest old between
    → LeavesRest between new
    → LeavesRest old new
leaves_on a b = record { station = b.station ∙ a.station; others = b.others ∙ a.others; loads = b.loads ∙ a.loads; alone = b.alone ∙ a.alone; slots = b.slots ∙ a.slots }

steps_leave : (found : List ℕ) (m : Known) → LeavesRest m (steps_at found m)
steps_leave [] m = record { station = refl; others = refl; loads = refl; alone = refl; slots = refl }
steps_leave (x ∷ found) m =
    let between : Known = steps_at found m in
    leaves_on (steps_leave found m) (step_leaves between.0.stations between.0.loads between.0.alone between.1 x)

pub walk_leaves : {old new : Known} → Walks old new → LeavesRest old new
walk_leaves {old = old} walk = subst (LeavesRest old) (sym walk.seat) (steps_leave walk.found old)

pub station_of_walk : {old new : Known}
    → Walks old new
    → (first_of new).station ≡ (first_of old).station
station_of_walk walk = (walk_leaves walk).station

-- ---- the trail

step_trail : (es : List Entry) (loads : List ℕ) (alone : Bool) (c : List (ℕ × Unit {0})) (found : ℕ)
    → (news : List Event) × ((first_of (step_at found (known es loads alone c))).trail ≡ news
    ++ (first_of (known es loads alone c)).trail)
step_trail [] loads alone c found = ([], refl)
step_trail (e ∷ rest) loads alone c found = ((transition e.station e.phase).events found, refl)

steps_trail : (found : List ℕ) (m : Known)
    → (news : List Event) × ((first_of (steps_at found m)).trail ≡ news ++ (first_of m).trail)
steps_trail [] m = ([], refl)
steps_trail (x ∷ found) m =
    let between : Known = steps_at found m in
    let earlier = steps_trail found m in
    let later = step_trail between.0.stations between.0.loads between.0.alone between.1 x in
    (later.0 ++ earlier.0, later.1 ∙ ap (λ l. later.0 ++ l) earlier.1 ∙ sym (append_assoc later.0 earlier.0 (first_of m).trail))

pub walk_trail : {old new : Known}
    → Walks old new
    → (news : List Event) × ((first_of new).trail ≡ news ++ (first_of old).trail)
walk_trail {old = old} walk = let grown = steps_trail walk.found old in (grown.0, ap (λ m. (first_of m).trail) walk.seat ∙ grown.1)

-- an answer remains one, whatever the station did before and does after
pub answered_before : {kind : Kind} {node : ℕ} {note : Note} {old between : Known} {e : Entry}
    → Walks old between
    → Answered kind node note (first_of between) e
    → Answered kind node note (first_of old) e
answered_before {old = old} walk was =
    let grown = walk_trail walk in record {
      later = was.later;
      earlier = was.earlier ++ grown.0;
      event = was.event;
      trail = was.trail ∙ ap (λ l. was.later ++ was.event ∷ l) (ap (λ l. was.earlier ++ l) grown.1 ∙ sym (append_assoc was.earlier grown.0 (first_of old).trail));
      kind_is = was.kind_is;
      node_is = was.node_is;
      note_is = was.note_is;
    }

pub answered_after : {kind : Kind} {node : ℕ} {note : Note} {e : Entry} {between new : Known}
    → Answered kind node note e (first_of between)
    → Walks between new
    → Answered kind node note e (first_of new)
answered_after {e = e} was walk =
    let grown = walk_trail walk in record {
      later = grown.0 ++ was.later;
      earlier = was.earlier;
      event = was.event;
      trail = grown.1 ∙ ap (λ l. grown.0 ++ l) was.trail ∙ sym (append_assoc grown.0 was.later (was.event ∷ (was.earlier ++ e.trail)));
      kind_is = was.kind_is;
      node_is = was.node_is;
      note_is = was.note_is;
    }

-- ---- walks after a beginning

pub station_of_begun : (p : Phase) (m : Known) {new : Known}
    → Walks (begin p m) new
    → (first_of new).station ≡ (first_of m).station
station_of_begun p m walk = station_of_walk walk ∙ (begin_leaves m p).station

begin_trail_parts : (es : List Entry) (loads : List ℕ) (alone : Bool) (c : List (ℕ × Unit {0}))
    (p : Phase)
    → (first_of (begin p (known es loads alone c))).trail
    ≡ (first_of (known es loads alone c)).trail
begin_trail_parts [] loads alone c p = refl
begin_trail_parts (e ∷ rest) loads alone c p = refl

pub begin_trail : (m : Known) (p : Phase) → (first_of (begin p m)).trail ≡ (first_of m).trail
begin_trail m p = begin_trail_parts m.0.stations m.0.loads m.0.alone m.1 p

pub begun_trail : (p : Phase) (m : Known) {new : Known}
    → Walks (begin p m) new
    → (news : List Event) × ((first_of new).trail ≡ news ++ (first_of m).trail)
begun_trail p m walk = let grown = walk_trail walk in (grown.0, grown.1 ∙ ap (λ l. grown.0 ++ l) (begin_trail m p))

pub answered_begun : (p : Phase) (m : Known) {kind : Kind} {node : ℕ} {note : Note}
    {between : Known} {e : Entry}
    → Walks (begin p m) between
    → Answered kind node note (first_of between) e
    → Answered kind node note (first_of m) e
answered_begun p m walk was =
    let all = answered_before walk was in record {
      later = all.later;
      earlier = all.earlier;
      event = all.event;
      trail = all.trail ∙ ap (λ l. all.later ++ all.event ∷ (all.earlier ++ l)) (begin_trail m p);
      kind_is = all.kind_is;
      node_is = all.node_is;
      note_is = all.note_is;
    }

-- ---- the walk of a seat, as events of its first station

step_first : (es : List Entry) (loads : List ℕ) (alone : Bool) (c : List (ℕ × Unit {0})) (found : ℕ)
    → first_of (step_at found (known es loads alone c)) ≡ step_entry found (first es)
step_first [] loads alone c found = refl
step_first (e ∷ rest) loads alone c found = refl

steps_first : (found : List ℕ) (m : Known)
    → first_of (steps_at found m) ≡ steps_entry found (first_of m)
steps_first [] m = refl
steps_first (x ∷ found) m =
    let between : Known = steps_at found m in
    step_first between.0.stations between.0.loads between.0.alone between.1 x ∙ ap (step_entry x) (steps_first found m)

pub makes_of : {old new : Known} → Walks old new → Makes (first_of old) (first_of new)
makes_of {old = old} walk = record { found = walk.found; entry = ap first_of walk.seat ∙ steps_first walk.found old }
