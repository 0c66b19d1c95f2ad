-- A seat that has all stations, before and after what one of them does.
use Rattle.std.proofs.Common.{◌≡◌, ◌≢◌, ℕ, ◌+◌, ◌<◌, true, false, cond, eqb, eqb-true, eq-eqb, ne_eqb, Bool, List, [], ◌∷◌, ◌++◌, refl, sym, ◌∙◌, ap, subst, arith}
use Rattle.std.specs.Prelude.{All}
use Rattle.std.proofs.lemmas.Bool.{eqb-false}
use Rattle.std.proofs.lemmas.List.Elements.{All-nil, All-cons, All-head, All-tail, All-weaker}
use Rattle.cube_core.specs.declared.phase.Phase.{Phase}
use Rattle.cube_core.specs.declared.phase.Phase.TheVariants.{Idle, Retired}
use Rattle.cube_core.specs.Phase.{IsAtRest}
use Rattle.tree_steps.specs.declared.view.Entry.{Entry}
use Rattle.tree_steps.specs.Rule.{others, times}
use Rattle.tree_steps.specs.Steps.{Known, first_of, begin, retire_at, IsAt, Walks}
use Rattle.tree_steps.specs.Alone.{AreAllAtRest, IsAlone, Turns, picked, unpicked}
use Rattle.tree_steps.proofs.EventLemmas.{by_parts}
use Rattle.tree_steps.proofs.WalkLemmas.{LeavesRest, leaves_on, begin_leaves, walk_leaves}
use Rattle.tree_steps.proofs.SeatLemmas.{turned_times, turned_all, picked_is}
use Rattle.cube_tree.specs.InnerSolo.{HasPhase, IsMoved, IsGoneBelow}

-- ---- lists of records

-- a station with no record in a list
pub none_there : (s : ℕ) (entries : List Entry)
    → times s entries ≡ 0
    → All (λ e. e.station ≢ s) entries
none_there s [] none = All-nil (λ e. e.station ≢ s)
none_there s (e ∷ rest) none = All-cons (λ x. x.station ≢ s) e rest
    (λ same. let here : times s (e ∷ rest) ≡ 1 + times s rest = ap (λ t. cond t 1 0 + times s rest) (eq-eqb e.station s same) in omega (arith, here, none))
    (none_there s rest (omega (arith, none)))

-- the number of records of another station than the one that is picked out
pub times_unpicked : (t s : ℕ) (entries : List Entry)
    → t ≢ s
    → times t (unpicked s entries) ≡ times t entries
times_unpicked t s [] other = refl
times_unpicked t s (e ∷ rest) other = by_test (eqb e.station s) refl (times_unpicked t s rest other)
  where
    by_test : (b : Bool)
        → eqb e.station s ≡ b
        → times t (unpicked s rest) ≡ times t rest
        → times t (cond b rest (e ∷ unpicked s rest)) ≡ times t (e ∷ rest)
    by_test true is later = let here : ◌≡◌ {A = ℕ} (cond (eqb e.station t) 1 0) 0 = ap (λ (x : Bool). cond {A = ℕ} x 1 0) (ne_eqb e.station t (λ same. other (sym same ∙ eqb-true e.station s is))) in omega (arith, here)
    by_test false is later = omega (arith, later)

pub unpicked_all : (P : Entry → Type 0) (s : ℕ) (entries : List Entry)
    → All P entries
    → All P (unpicked s entries)
unpicked_all P s [] all = all
unpicked_all P s (e ∷ rest) all = by_test (eqb e.station s) (unpicked_all P s rest (All-tail P e rest all))
  where
    by_test : (b : Bool) → All P (unpicked s rest) → All P (cond b rest (e ∷ unpicked s rest))
    by_test true later = All-tail P e rest all
    by_test false later = All-cons P e (unpicked s rest) (All-head P e rest all) later

-- two facts of each record
pub all_both : (P Q R : Entry → Type 0) (entries : List Entry)
    → ((e : Entry) → P e → Q e → R e)
    → All P entries
    → All Q entries
    → All R entries
all_both P Q R entries both ps qs k d within = both _ (ps k d within) (qs k d within)

-- ---- the record of a station is moved to the front

pub brought : {count : ℕ} (s : ℕ) (p : Phase) (m new : Known)
    → AreAllAtRest count m
    → s < count
    → HasPhase s p m
    → Turns s m new
    → IsMoved s p m new × IsAlone new
brought s p m new all there phase turns = subst (λ x. IsMoved s p m x × IsAlone x) (sym is) (moved, refl)
  where
    front : (e : Entry) × (picked s m.0.stations ≡ e ∷ []) × (e.station ≡ s)
    front = picked_is s m.0.stations (all.present s there)

    shown : Known
    shown = (record { stations = front.0 ∷ unpicked s m.0.stations; loads = m.0.loads; alone = true }, m.1)

    is : new ≡ shown
    is = turns.seat ∙ ap (λ ps. (record { stations = ps ++ unpicked s m.0.stations; loads = m.0.loads; alone = true }, m.1)) front.1

    turned : All (λ e. e.station ≡ s → e.phase ≡ p) (front.0 ∷ unpicked s m.0.stations)
    turned = subst (λ ps. All (λ e. e.station ≡ s → e.phase ≡ p) (ps ++ unpicked s m.0.stations)) front.1 (turned_all (λ e. e.station ≡ s → e.phase ≡ p) s m.0.stations phase)

    moved : IsMoved s p m shown
    moved = record {
      at = record { there = refl; phase = All-head (λ e. e.station ≡ s → e.phase ≡ p) front.0 (unpicked s m.0.stations) turned front.2 };
      number = front.2;
      rest = refl;
      once =
          let sum = turned_times s s m.0.stations in
          let parts : times s (picked s m.0.stations ++ unpicked s m.0.stations) ≡ times s (front.0 ∷ unpicked s m.0.stations) = ap (λ ps. times s (ps ++ unpicked s m.0.stations)) front.1 in
          let here : times s (front.0 ∷ unpicked s m.0.stations) ≡ 1 + times s (unpicked s m.0.stations) = ap (λ t. cond t 1 0 + times s (unpicked s m.0.stations)) (eq-eqb front.0.station s front.2) in
          let most = turns.once s in omega (arith, sum, parts, here, most);
      loads = refl;
      slots = refl;
    }

-- ---- what the station does then

pub moved_on : {s : ℕ} {p q : Phase} {m mid new : Known}
    → IsMoved s p m mid
    → LeavesRest mid new
    → IsAt new q
    → IsMoved s q m new
moved_on moved leaves at = record {
  at = at;
  number = leaves.station ∙ moved.number;
  rest = leaves.others ∙ moved.rest;
  once = moved.once;
  loads = leaves.loads ∙ moved.loads;
  slots = leaves.slots ∙ moved.slots;
}

pub walked : {s : ℕ} {p q : Phase} {m new : Known} (mid : Known) (begun : Phase)
    → IsMoved s p m mid
    → Walks (begin begun mid) new
    → IsAt new q
    → IsMoved s q m new
walked mid begun moved walk at = moved_on moved (leaves_on (begin_leaves mid begun) (walk_leaves walk)) at

pub gone : {s : ℕ} {m new : Known} (mid : Known) (found : ℕ)
    → IsMoved s Idle m mid
    → new ≡ retire_at found mid
    → IsMoved s Retired m new
gone {s = s} {m = m} mid found moved is = subst (IsMoved s Retired m) (sym is)
    (by_parts (λ x. IsMoved s Idle m x → IsMoved s Retired m (retire_at found x)) mid moved.at.there retired moved)
  where
    retired : IsMoved s Idle m (
      record {
        stations = first_of mid ∷ others mid.0.stations;
        loads =
            mid.0.loads;
        alone = mid.0.alone;
      },
      mid.1,
    )
        → IsMoved s Retired m (retire_at found (
          record {
            stations = first_of mid ∷ others mid.0.stations;
            loads = mid.0.loads;
            alone =
                mid.0.alone;
          },
          mid.1,
        ))
    retired had = record { at = record { there = refl; phase = refl }; number = had.number; rest = had.rest; once = had.once; loads = had.loads; slots = had.slots }

-- ---- all records, and how many there are

module _ {s : ℕ} {p : Phase} {old new : Known} (moved : IsMoved s p old new) where
  -- the records are the station's own, and those of the others
  parts : new.0.stations ≡ first_of new ∷ unpicked s old.0.stations
  parts = moved.at.there ∙ ap (λ es. first_of new ∷ es) moved.rest

  pub moved_all : (P : Entry → Type 0)
      → All P (unpicked s old.0.stations)
      → P (first_of new)
      → All P new.0.stations
  moved_all P rest own = subst (All P) (sym parts) (All-cons P (first_of new) (unpicked s old.0.stations) own rest)

  -- no station is lost
  pub moved_present : (t : ℕ) → 0 < times t old.0.stations → 0 < times t new.0.stations
  moved_present t there = by_test (eqb t s) refl
    where
      here : times t new.0.stations ≡ cond (eqb s t) 1 0 + times t (unpicked s old.0.stations)
      here = ap (times t) parts ∙ ap (λ a. cond (eqb a t) 1 0 + times t (unpicked s old.0.stations)) moved.number

      by_test : (b : Bool) → eqb t s ≡ b → 0 < times t new.0.stations
      by_test true is = let own : ◌≡◌ {A = ℕ} (cond (eqb s t) 1 0) 1 = ap (λ (x : Bool). cond {A = ℕ} x 1 0) (eq-eqb s t (sym (eqb-true t s is))) in omega (arith, here, own)
      by_test false is = let rest = times_unpicked t s old.0.stations (eqb-false t s is) in omega (arith, here, rest, there)

  pub moved_rest : {count : ℕ} → IsAtRest p → AreAllAtRest count old → AreAllAtRest count new
  moved_rest rest all = record {
    present = λ t below. moved_present t (all.present t below);
    resting = moved_all (λ e. IsAtRest e.phase) (unpicked_all (λ e. IsAtRest e.phase) s old.0.stations all.resting) (subst IsAtRest (sym moved.at.phase) rest);
  }

-- ---- all stations retire, one after another

-- one more has retired
pub gone_next : (s : ℕ) {old new : Known}
    → IsMoved s Retired old new
    → All (IsGoneBelow s) old.0.stations
    → All (IsGoneBelow (s + 1)) new.0.stations
gone_next s {old = old} {new = new} moved all = moved_all moved (IsGoneBelow (s + 1))
    (all_both (IsGoneBelow s) (λ e. e.station ≢ s) (IsGoneBelow (s + 1)) (unpicked s old.0.stations) further (unpicked_all (IsGoneBelow s) s old.0.stations all) (none_there s (unpicked s old.0.stations) moved.once))
    own
  where
    further : (e : Entry) → IsGoneBelow s e → e.station ≢ s → IsGoneBelow (s + 1) e
    further e had other = (λ below. had.0 (omega (arith, below, other)), λ not_below. had.1 (λ below. not_below (omega (arith, below))))

    number : (first_of new).station ≡ s
    number = moved.number

    own : IsGoneBelow (s + 1) (first_of new)
    own = (λ below. moved.at.phase, λ not_below. absurd (not_below (omega (arith, number))))

-- the next one is idle
pub next_idle : (s : ℕ) (m : Known) → All (IsGoneBelow s) m.0.stations → HasPhase s Idle m
next_idle s m all = All-weaker (IsGoneBelow s) (λ e. e.station ≡ s → e.phase ≡ Idle) (λ e had same. had.1 (λ below. omega (arith, below, same))) m.0.stations all

-- none has retired at the start
pub none_gone : (m : Known)
    → All (λ e. e.phase ≡ Idle) m.0.stations
    → All (IsGoneBelow 0) m.0.stations
none_gone m all = All-weaker (λ e. e.phase ≡ Idle) (IsGoneBelow 0) (λ e idle. (λ below. absurd (omega (arith, below)), λ _. idle)) m.0.stations all
