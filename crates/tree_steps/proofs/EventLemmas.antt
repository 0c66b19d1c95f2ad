-- A step of the table is an event of the first station: what it requires, and what is known after
-- it.
use Rattle.std.proofs.Common.{◌≡◌, ◌≢◌, ℕ, ◌/◌, ◌%◌, ◌^◌, ◌<◌, bit_or, arith, true, false, cond, eqb, not, eq-eqb, ne_eqb, Bool, List, [], ◌∷◌, ◌++◌, None, refl, sym, ◌∙◌, ap, subst}
use Rattle.std.specs.Prelude.{◌↔◌, IsTrue}
use Rattle.std.proofs.lemmas.Bool.{true≢false}
use prog.Atomic.{either}
use Rattle.atomic_table.specs.Table.{Allows}
use Rattle.std.specs.Bool.{OnFalse}
use Rattle.cube_shape.specs.declared.node.Side.{Side}
use Rattle.cube_shape.specs.declared.node.Side.TheVariants.{Left, Right}
use Rattle.cube_shape.proofs.PathLemmas.{OnPath-trans, OnPath-parent}
use Rattle.cube_shape.specs.Node.{IsInCube, OnPath, child_of, child_towards}
use Rattle.status_word.specs.Word.{side_bit, mark_bit, with_side, with_mark, cleared}
use Rattle.cube_core.specs.declared.act.Act.TheVariants.{Take, Release, Step, Retire}
use Rattle.cube_core.specs.declared.event.Event.{Event}
use Rattle.cube_core.specs.declared.event.Kind.{Kind}
use Rattle.cube_core.specs.declared.event.Kind.TheVariants.{Look, Claim, Raise}
use Rattle.cube_core.specs.declared.event.Note.{Note}
use Rattle.cube_core.specs.declared.event.Note.TheVariants as note
use Rattle.cube_core.specs.declared.phase.Phase.{Phase}
use Rattle.cube_core.specs.declared.phase.Phase.TheVariants.{Idle, Looking, Looked, Swept, Holding, Leaving, Backing, Marked}
use Rattle.cube_core.specs.declared.phase.Seen.{Seen}
use Rattle.cube_core.specs.declared.phase.Seen.TheVariants as seen
use Rattle.cube_core.specs.Phase.{side_of, is_seen_free}
use Rattle.cube_core.specs.Event.{Transition, transition, retirement, zero_event, busy, is_free, is_occupied, note_after_raise}
use Rattle.cube_core.specs.Schedule.{step_refusal, word_of}
use Rattle.cube_core.proofs.OneEventLemmas.{step_is_event, take_is_event, release_is_event, retire_is_event}
use Rattle.cube_core.proofs.RunningLemmas.{step_at as event_is, clears}
use Rattle.tree_steps.specs.declared.view.Entry.{Entry}
use Rattle.tree_steps.specs.declared.view.Size.{Size}
use Rattle.tree_steps.specs.Rule.{IsRuled, record_in, others, world_after}
use Rattle.tree_steps.specs.Steps.{Known, first_of, entry_after, begin, step_at, retire_at, steps_at, Walks, IsAt, Answered}
use Rattle.tree_steps.specs.Alone.{MeansWord, Learns}
use Rattle.tree_steps.proofs.RuleLemmas.{plays_first, plays_reading}
use Rattle.tree_steps.proofs.AloneLemmas.{means_word}

-- ---- a seat with a first station, by its parts

abbrev pub parted : Known → Known
parted m = (record { stations = first_of m ∷ others m.0.stations; loads = m.0.loads; alone = m.0.alone }, m.1)

pub parted-is : (m : Known) → m.0.stations ≡ first_of m ∷ others m.0.stations → m ≡ parted m
parted-is m there = ap (λ es. (record { stations = es; loads = m.0.loads; alone = m.0.alone }, m.1)) there

-- what holds for the parts holds for the seat
pub by_parts : (P : Known → Type 0) (m : Known)
    → m.0.stations ≡ first_of m ∷ others m.0.stations
    → P (parted m)
    → P m
by_parts P m there holds = subst P (sym (parted-is m there)) holds

-- ---- where a station is

pub begin_at : {m : Known} {q : Phase} → IsAt m q → (p : Phase) → IsAt (begin p m) p
begin_at {m = m} at p = by_parts (λ x. IsAt (begin p x) p) m at.there (record { there = refl; phase = refl })

pub after_step : {m : Known} {p : Phase}
    → IsAt m p
    → (found : ℕ)
    → IsAt (step_at found m) ((transition (first_of m).station p).next found)
after_step {m = m} {p = p} at found =
    subst (λ q. IsAt (step_at found m) ((transition (first_of m).station q).next found)) at.phase
    (by_parts (λ x. IsAt (step_at found x) ((transition (first_of x).station (first_of x).phase).next found)) m at.there (record { there = refl; phase = refl }))

-- the same if the phase is given by an equation
pub landed : {m new : Known} {p q : Phase}
    → IsAt m p
    → (found : ℕ)
    → new ≡ step_at found m
    → (transition (first_of m).station p).next found ≡ q
    → IsAt new q
landed {m = m} {q = q} at found is next = subst (λ x. IsAt x q) (sym is) (subst (λ r. IsAt (step_at found m) r) next (after_step at found))

-- ---- walks

pub walks_none : (m : Known) → Walks m m
walks_none m = record { found = []; seat = refl }

pub walks_once : {m new : Known} → (found : ℕ) → new ≡ step_at found m → Walks m new
walks_once found is = record { found = found ∷ []; seat = is }

steps_at-append : (later earlier : List ℕ) (m : Known)
    → steps_at (later ++ earlier) m ≡ steps_at later (steps_at earlier m)
steps_at-append [] earlier m = refl
steps_at-append (found ∷ later) earlier m = ap (step_at found) (steps_at-append later earlier m)

pub walks_on : {old between new : Known} → Walks old between → Walks between new → Walks old new
walks_on {old = old} first then = record {
  found = then.found ++ first.found;
  seat = then.seat ∙ ap (steps_at then.found) first.seat ∙ sym (steps_at-append then.found first.found old);
}

-- ---- what a step of the table requires

module _ (k : Size) (slots id : ℕ) (m : Known) where
  -- a step of a station in phase p, at the node of its event, that writes what the event writes
  pub steps : (p : Phase) (node : ℕ) (f : ℕ → ℕ)
      → IsAt m p
      → step_refusal p ≡ None
      → (transition (first_of m).station p).node ≡ node
      → ((w : ℕ) → f w ≡ (transition (first_of m).station p).writes w)
      → Allows (IsRuled k) slots id m node f (λ found after. after ≡ step_at found m)
  steps p node f at moves here writes = by_parts (λ x. Allows (IsRuled k) slots id x node f (λ found after. after ≡ step_at found x)) m at.there
      (plays_first k slots id (parted m).0 m.1 (first_of m) (others m.0.stations) (Step (first_of m).station ∷ []) (transition (first_of m).station (first_of m).phase) node f (λ found after. after ≡ step_at found (parted m)) refl
      (step_is_event k.dim (first_of m).station (record_in (first_of m)) (ap step_refusal at.phase ∙ moves))
      (ap (λ q. (transition (first_of m).station q).node) at.phase ∙ here)
      (λ w. writes w ∙ ap (λ q. (transition (first_of m).station q).writes w) (sym at.phase))
      (λ found. refl))

  -- the same if a seat that has all stations learns what the word means
  pub steps_learning : (p : Phase) (node : ℕ) (f : ℕ → ℕ)
      → IsAt m p
      → step_refusal p ≡ None
      → (transition (first_of m).station p).node ≡ node
      → ((w : ℕ) → f w ≡ (transition (first_of m).station p).writes w)
      → Allows (IsRuled k) slots id m node f
      (λ found after. Learns node found m after (step_at found m))
  steps_learning p node f at moves here writes = by_parts (λ x. Allows (IsRuled k) slots id x node f (λ found after. Learns node found x after (step_at found x))) m at.there
      (plays_reading k slots id (parted m).0 m.1 (first_of m) (others m.0.stations) (Step (first_of m).station ∷ []) (transition (first_of m).station (first_of m).phase) node f (λ found after. Learns node found (parted m) after (step_at found (parted m))) refl
      (step_is_event k.dim (first_of m).station (record_in (first_of m)) (ap step_refusal at.phase ∙ moves))
      there
      (λ w. writes w ∙ ap (λ q. (transition (first_of m).station q).writes w) (sym at.phase))
      (λ acts found had word. record { seat = refl; word = λ alone positive. subst (λ x. MeansWord node x (first_of m ∷ others m.0.stations)) (ap (word_of (world_after k acts)) (sym there) ∙ word) (means_word k acts (parted m).0 had alone node positive) }))
    where
      there : (transition (first_of m).station (first_of m).phase).node ≡ node
      there = ap (λ q. (transition (first_of m).station q).node) at.phase ∙ here

  -- the look with which a take begins
  pub looks : (node : ℕ)
      → IsAt m Idle
      → IsInCube k.dim node
      → Allows (IsRuled k) slots id m node (λ w. w)
      (λ found after. Learns node found m after (step_at found (begin (Looking node) m)))
  looks node at in_cube = by_parts (λ x. Allows (IsRuled k) slots id x node (λ w. w) (λ found after. Learns node found x after (step_at found (begin (Looking node) x)))) m at.there
      (plays_reading k slots id (parted m).0 m.1 (first_of m) (others m.0.stations) (Step (first_of m).station ∷ Take (first_of m).station node ∷ []) (transition (first_of m).station (Looking node)) node (λ w. w) (λ found after. Learns node found (parted m) after (step_at found (begin (Looking node) (parted m)))) refl
      (take_is_event k.dim (first_of m).station node (record_in (first_of m)) at.phase in_cube)
      refl (λ w. refl)
      (λ acts found had word. record { seat = refl; word = λ alone positive. subst (λ x. MeansWord node x (first_of m ∷ others m.0.stations)) word (means_word k acts (parted m).0 had alone node positive) }))

  -- the store with which a release begins
  pub gives_back : (node : ℕ)
      → IsAt m (Holding node)
      → Allows (IsRuled k) slots id m node (λ _. 0)
      (λ _ after. after ≡ step_at 0 (begin (Leaving node) m))
  gives_back node at = by_parts (λ x. Allows (IsRuled k) slots id x node (λ _. 0) (λ _ after. after ≡ step_at 0 (begin (Leaving node) x))) m at.there
      (plays_first k slots id (parted m).0 m.1 (first_of m) (others m.0.stations) (Step (first_of m).station ∷ Release (first_of m).station ∷ []) (zero_event (first_of m).station node) node (λ _. 0) (λ _ after. after ≡ step_at 0 (begin (Leaving node) (parted m))) refl
      (release_is_event k.dim (first_of m).station node (record_in (first_of m)) at.phase)
      refl (λ w. refl) (λ found. refl))

  -- the store with which a take under an occupied ancestor ends
  pub gives_up : (node a : ℕ)
      → IsAt m (Backing node a)
      → Allows (IsRuled k) slots id m node (λ _. 0) (λ _ after. after ≡ step_at 0 m)
  gives_up node a at = by_parts (λ x. Allows (IsRuled k) slots id x node (λ _. 0) (λ _ after. after ≡ step_at 0 x)) m at.there
      (plays_first k slots id (parted m).0 m.1 (first_of m) (others m.0.stations) (Step (first_of m).station ∷ []) (zero_event (first_of m).station node) node (λ _. 0) (λ _ after. after ≡ step_at 0 (parted m)) refl
      (event_is k.dim (first_of m).station (record_in (first_of m)) (Backing node a) at.phase refl)
      refl (λ w. refl)
      (λ found. ap (λ q. (record m.0 { stations = entry_after (transition (first_of m).station q) 0 (first_of m) ∷ others m.0.stations }, m.1)) (sym at.phase)))

  -- a retirement
  pub retires : (f : ℕ → ℕ)
      → IsAt m Idle
      → ((w : ℕ) → f w ≡ (retirement (first_of m).station).writes w)
      → Allows (IsRuled k) slots id m 0 f (λ found after. after ≡ retire_at found m)
  retires f at writes = by_parts (λ x. Allows (IsRuled k) slots id x 0 f (λ found after. after ≡ retire_at found x)) m at.there
      (plays_first k slots id (parted m).0 m.1 (first_of m) (others m.0.stations) (Retire (first_of m).station ∷ []) (retirement (first_of m).station) 0 f (λ found after. after ≡ retire_at found (parted m)) refl
      (retire_is_event k.dim (first_of m).station (record_in (first_of m)) at.phase)
      refl writes (λ found. refl))

-- an exchange of the table writes what one of the pure machine writes
pub either-cond : (b : Bool) (x y : ℕ) → either b x y ≡ cond b x y
either-cond true x y = refl
either-cond false x y = refl

-- ---- the event that answers

-- one event, as a list
abbrev single_event : ℕ → Kind → ℕ → ℕ → Note → List Event
single_event station kind node word note = record { station = station; kind = kind; node = node; word = word; note = note } ∷ []

-- the only new event of a step
pub answers : {m new : Known} {p : Phase}
    → IsAt m p
    → (found : ℕ)
    → new ≡ step_at found m
    → (kind : Kind) (node word : ℕ) (note : Note)
    → (transition (first_of m).station p).events found
    ≡ single_event (first_of m).station kind node word note
    → Answered kind node note (first_of m) (first_of new)
answers {m = m} {p = p} at found is kind node word note one = record {
  later = [];
  earlier = [];
  event = record { station = (first_of m).station; kind = kind; node = node; word = word; note = note };
  trail = ap (λ x. (first_of x).trail) is ∙ trail ∙ ap (λ l. l ++ (first_of m).trail) one;
  kind_is = refl;
  node_is = refl;
  note_is = refl;
}
  where
    trail : (first_of (step_at found m)).trail ≡ (transition (first_of m).station p).events found
        ++ (first_of m).trail
    trail = subst (λ q. (first_of (step_at found m)).trail ≡ (transition (first_of m).station q).events found ++ (first_of m).trail) at.phase
        (by_parts (λ x. (first_of (step_at found x)).trail ≡ (transition (first_of x).station (first_of x).phase).events found ++ (first_of x).trail) m at.there refl)

-- a beginning is no event
pub answers_begun : {m : Known} {q : Phase} {kind : Kind} {node : ℕ} {note : Note} {e : Entry}
    → IsAt m q
    → (p : Phase)
    → Answered kind node note (first_of (begin p m)) e
    → Answered kind node note (first_of m) e
answers_begun {m = m} at p was = record {
  later = was.later;
  earlier = was.earlier;
  event = was.event;
  trail = was.trail ∙ ap (λ l. was.later ++ was.event ∷ (was.earlier ++ l)) (by_parts (λ x. (first_of (begin p x)).trail ≡ (first_of x).trail) m at.there refl);
  kind_is = was.kind_is;
  node_is = was.node_is;
  note_is = was.note_is;
}

-- a look at a word in use, an exchange that is lost, and a raise at an occupied word
pub look_answers : {m new : Known} (node found : ℕ)
    → IsAt m Idle
    → new ≡ step_at found (begin (Looking node) m)
    → is_free found ≡ false
    → Answered Look node note.InUse (first_of m) (first_of new)
look_answers {m = m} node found at is used = answers_begun at (Looking node) (answers (begin_at at (Looking node)) found is Look node found note.InUse
    (ap (λ t. single_event (first_of (begin (Looking node) m)).station Look node found (cond t note.Free note.InUse)) used))

pub claim_answers : {m new : Known} (node seen found : ℕ)
    → IsAt m (Looked node seen)
    → new ≡ step_at found m
    → eqb found seen ≡ false
    → Answered Claim node note.Lost (first_of m) (first_of new)
claim_answers {m = m} node seen found at is other = answers at found is Claim node found note.Lost
    (ap (λ t. single_event (first_of m).station Claim node (cond t busy found) (cond t (note_after_raise node) note.Lost)) other)

pub raise_answers : {m new : Known} (node a found : ℕ)
    → IsAt m (Swept node a)
    → new ≡ step_at found m
    → is_occupied found ≡ true
    → Answered Raise a note.Under (first_of m) (first_of new)
raise_answers {m = m} node a found at is occupied = answers at found is Raise a _ note.Under
    (ap (λ t. single_event (first_of m).station Raise a (with_side (side_of (child_towards a node)) found) (cond t note.Under (note_after_raise a))) occupied)

pub on_false : (b : Bool) {P : Type 0} → (b ≡ false → P) → OnFalse b P
on_false true holds = tt
on_false false holds = holds refl

pub on_false_so : (b : Bool) {P Q : Type 0} → (P → Q) → OnFalse b P → OnFalse b Q
on_false_so true so had = tt
on_false_so false so had = so had

-- ---- the tests of the code, as the events make them

pub decided_true : {r : Bool} {x y : ℕ} → IsTrue r ↔ (x ≡ y) → r ≡ true → eqb x y ≡ true
decided_true {x = x} {y = y} same is = eq-eqb x y (same.0 is)

pub decided_false : {r : Bool} {x y : ℕ} → IsTrue r ↔ (x ≡ y) → r ≡ false → eqb x y ≡ false
decided_false {x = x} {y = y} same is = ne_eqb x y (λ e. true≢false (sym (same.1 e) ∙ is))

-- which child of its parent a node is
pub side_is : (v : ℕ) (side : Side) → v ≡ child_of (v / 2) side → side_of v ≡ side
side_is v Left even = ap (λ t. cond t Left Right) (eq-eqb (v % 2) 0 (omega arith))
side_is v Right odd = ap (λ t. cond t Left Right) (ne_eqb (v % 2) 0 (λ none. omega arith))

-- the bits that a raise and a mark set
pub raise_writes : (a node child bit w : ℕ) (side : Side)
    → child ≡ child_towards a node
    → child ≡ child_of (child / 2) side
    → bit ≡ 2 ^ side_bit side
    → bit_or w bit ≡ with_side (side_of (child_towards a node)) w
raise_writes a node child bit w side is of_parent set =
    ap (bit_or w) set ∙ ap (λ s. with_side s w) (sym (side_is child side of_parent) ∙ ap side_of is)

pub mark_writes : (station number bit w : ℕ)
    → station ≡ number
    → bit ≡ 2 ^ mark_bit number
    → bit_or w bit ≡ with_mark station w
mark_writes station number bit w is set = ap (bit_or w) set ∙ ap (λ s. with_mark s w) (sym is)

-- what a clear writes
pub clear_writes : (station a word y w : ℕ) (left right : Seen) (left_free right_free : Bool)
    → left ≢ seen.NotYet
    → right ≢ seen.NotYet
    → left_free ≡ is_seen_free left
    → right_free ≡ is_seen_free right
    → y ≡ cleared word left_free right_free
    → either (eqb w word) y w ≡ (transition station (Marked a word left right)).writes w
clear_writes station a word y w left right left_free right_free last latest by_left by_right is =
    either-cond (eqb w word) y w
    ∙ ap (λ x. cond (eqb w word) x w) (is ∙ ap (λ t. cleared word t right_free) by_left ∙ ap (cleared word (is_seen_free left)) by_right)
    ∙ ap (λ (d : Transition). d.writes w) (sym (clears station a word left right last latest))

pub not-false : (b : Bool) → not b ≡ false → b ≡ true
not-false true is = refl
not-false false is = absurd (true≢false is)

-- an ancestor's parent
pub path_up : (a node : ℕ) → 1 < a → OnPath a node → OnPath (a / 2) node
path_up a node inner on = OnPath-trans (a / 2) a node (OnPath-parent a (omega arith)) on
