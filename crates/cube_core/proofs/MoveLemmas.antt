-- What a call or an event does to one word and one phase: a move for each outcome, with what is
-- known there.
use Rattle.std.proofs.Common.{◌≡◌, ◌≢◌, ℕ, ◌+◌, ◌*◌, ◌/◌, ◌^◌, ◌<◌, ◌≤◌, ◌⊎◌, inl, inr, Bool, true, false, cond, eqb, bit_or, [], ◌∷◌, refl, ◌∙◌, ap, arith}
use Rattle.std.specs.Int.{bit_at}
use Rattle.std.proofs.lemmas.Bool.{eqb-true, eqb-false}
use Rattle.std.proofs.lemmas.Nat.{pow-add}
use Rattle.cube_shape.specs.Node.{OnPath, IsInCube, child_towards}
use Rattle.cube_shape.proofs.PathLemmas.{OnPath-self, OnPath-le, OnPath-trans, OnPath-parent}
use Rattle.status_word.specs.Word.{IsOccupied, IsFree, IsInUse, use_of, with_side, with_mark}
use Rattle.cube_core.specs.declared.event.Event.{Event}
use Rattle.cube_core.specs.declared.phase.Seen.{Seen}
use Rattle.cube_core.specs.declared.phase.Seen.TheVariants as seen
use Rattle.cube_core.specs.declared.phase.Phase.{Phase}
use Rattle.cube_core.specs.declared.phase.Phase.TheVariants.{Idle, Looking, Looked, Climbing, Swept, Holding, Leaving, Backing, Arriving, Unmarked, Marked, Retired}
use Rattle.cube_core.specs.Phase.{side_of, owned, node_held, MustClear}
use Rattle.cube_core.specs.InnerPhase.{asked, stop, swept_from, marked_at}
use Rattle.cube_core.specs.Event.{Transition, transition, busy, phase_after_raise, phase_after_zero, is_free, is_occupied, cleared_as_seen, clear_event, seen_at}
use Rattle.cube_core.specs.Schedule.{step_refusal}
use Rattle.cube_core.specs.Count.{depth, unseen, events_due}
use Rattle.cube_core.proofs.LevelLemmas.{depth-parent}
use Rattle.std.proofs.Common.{None}
use Rattle.cube_core.proofs.ChangeLemmas.{Fit, IsInner}

-- ---- phases by what they are not

-- the node whose marks it has cleared, before it sets its own
abbrev pub unmarked_at : Phase → ℕ
unmarked_at Idle = 0
unmarked_at (Looking h) = 0
unmarked_at (Looked h w) = 0
unmarked_at (Climbing h a) = 0
unmarked_at (Swept h a) = 0
unmarked_at (Holding h) = 0
unmarked_at (Leaving h) = 0
unmarked_at (Backing h a) = 0
unmarked_at (Arriving a) = 0
unmarked_at (Unmarked a) = a
unmarked_at (Marked a w left right) = 0
unmarked_at Retired = 0

-- the word that it has read of its node, and claims it by
abbrev pub word_read : Phase → ℕ
word_read Idle = 0
word_read (Looking h) = 0
word_read (Looked h w) = w
word_read (Climbing h a) = 0
word_read (Swept h a) = 0
word_read (Holding h) = 0
word_read (Leaving h) = 0
word_read (Backing h a) = 0
word_read (Arriving a) = 0
word_read (Unmarked a) = 0
word_read (Marked a w left right) = 0
word_read Retired = 0

-- neither marked nor unmarked at a node, about to claim none, and not retired
pub record IsPlain (q : Phase) : Type 0 where
  pub not_marked : marked_at q ≡ 0
  pub not_unmarked : unmarked_at q ≡ 0
  pub unread : word_read q ≡ 0
  pub stays : q ≢ Retired

pub plain_idle : IsPlain Idle
plain_idle = record { not_marked = refl; not_unmarked = refl; unread = refl; stays = λ is. absurd (cc) }

pub plain_climbing : (h a : ℕ) → IsPlain (Climbing h a)
plain_climbing h a = record { not_marked = refl; not_unmarked = refl; unread = refl; stays = λ is. absurd (cc) }

pub plain_holding : (h : ℕ) → IsPlain (Holding h)
plain_holding h = record { not_marked = refl; not_unmarked = refl; unread = refl; stays = λ is. absurd (cc) }

pub plain_arriving : (a : ℕ) → IsPlain (Arriving a)
plain_arriving a = record { not_marked = refl; not_unmarked = refl; unread = refl; stays = λ is. absurd (cc) }

-- ---- the phase after a was passed

-- after a was passed on the way up from h, the station owns h and stops at the parent of a, also at
-- the root
pub record IsRisen (n h a : ℕ) (q : Phase) : Type 0 where
  pub fit : Fit n q
  pub own : owned q ≡ h
  pub at : stop q ≡ a / 2
  pub from : swept_from q ≡ a / 2 + 1
  pub plain : IsPlain q
  pub takes : ((asked q ≡ h) × (node_held q ≡ 0)) ⊎ ((asked q ≡ 0) × (node_held q ≡ h))
  pub due : events_due n q ≤ 1 + 5 * depth n h + 2 * depth n a

-- a node on the path to a node of the machine is one
path_in_cube : (n a h : ℕ) → OnPath a h → IsInCube n h → IsInCube n a
path_in_cube n a h above in_cube = let order : a ≤ h = OnPath-le a h above in (above.0, omega (arith, in_cube.1))

phase_after_raise_is : (n h a : ℕ)
    → IsInCube n h
    → OnPath a h
    → IsRisen n h a (phase_after_raise h a)
phase_after_raise_is n h a in_cube above = turn (eqb a 1) refl
  where
    turn : (t : Bool) → eqb a 1 ≡ t → IsRisen n h a (cond t (Holding h) (Climbing h (a / 2)))
    turn true is =
        let root : a ≡ 1 = eqb-true a 1 is in
        record { fit = in_cube; own = refl; at = omega arith; from = omega arith; plain = plain_holding h; takes = inr (refl, refl); due = omega arith }
    turn false is =
        let inner : a ≢ 1 = eqb-false a 1 is in
        let positive : 0 < a = above.0 in
        let order : a ≤ h = OnPath-le a h above in
        let parent : OnPath (a / 2) h = OnPath-trans (a / 2) a h (OnPath-parent a (omega arith)) above in
        let deeper : depth n a ≡ 1 + depth n (a / 2) = depth-parent n a (path_in_cube n a h above in_cube) inner in
        record { fit = (in_cube, omega arith, parent); own = refl; at = refl; from = omega arith; plain = plain_climbing h (a / 2); takes = inl (refl, refl); due = omega (arith, deeper) }

-- after a was passed on the way up after a Zero, the station owns nothing. It is to clear the
-- parent of a if a was left free, with the word y
pub record IsLeaving (n a y : ℕ) (q : Phase) : Type 0 where
  pub fit : Fit n q
  pub none : owned q ≡ 0
  pub holds_none : node_held q ≡ 0
  pub asks_none : asked q ≡ 0
  pub plain : IsPlain q
  pub owes : IsFree y → 0 < a / 2 → (x : ℕ) → MustClear q (a / 2) x
  pub due : events_due n q ≤ 5 * depth n a

pub double : (n : ℕ) → 2 ^ (n + 1) ≡ 2 * 2 ^ n
double n = let turned : n + 1 ≡ 1 + n = omega arith in ap (λ i. 2 ^ i) turned ∙ pow-add 2 1 n

half_inner : (n a : ℕ) → a ≢ 1 → IsInCube n a → IsInner n (a / 2)
half_inner n a other in_cube =
    let whole : 2 ^ (n + 1) ≡ 2 * 2 ^ n = double n in
    (omega (arith, in_cube.0), omega (arith, in_cube.1))

phase_after_zero_is : (n a y : ℕ) → IsInCube n a → IsLeaving n a y (phase_after_zero a)
phase_after_zero_is n a y in_cube = turn (eqb a 1) refl
  where
    turn : (t : Bool) → eqb a 1 ≡ t → IsLeaving n a y (cond t Idle (Arriving (a / 2)))
    turn true is =
        let root : a ≡ 1 = eqb-true a 1 is in
        record { fit = tt; none = refl; holds_none = refl; asks_none = refl; plain = plain_idle; owes = λ _ inner. absurd (omega arith); due = omega arith }
    turn false is =
        let deeper : depth n a ≡ 1 + depth n (a / 2) = depth-parent n a in_cube (eqb-false a 1 is) in
        record { fit = half_inner n a (eqb-false a 1 is) in_cube; none = refl; holds_none = refl; asks_none = refl; plain = plain_arriving (a / 2); owes = λ _ _ _. refl; due = omega (arith, deeper) }

-- what a load of a child shows
abbrev pub Shows : Seen → ℕ → Type 0
Shows found w = ((found ≡ seen.Free) × IsFree w) ⊎ ((found ≡ seen.Used) × IsInUse w)

shows : (w : ℕ) → Shows (seen_at w) w
shows w = turn (is_free w) refl
  where
    turn : (t : Bool) → is_free w ≡ t → Shows (cond t seen.Free seen.Used) w
    turn true is = inl (refl, eqb-true (use_of w) 0 is)
    turn false is = inr (refl, eqb-false (use_of w) 0 is)

-- ---- the moves

-- a station u in the first phase finds the words W, writes y at v, and is in the second phase
pub data Move (n u : ℕ) (W : ℕ → ℕ) : Phase → ℕ → ℕ → Phase → Type 0 where
  begins_take : (h : ℕ) → IsInCube n h → Move n u W Idle 0 (W 0) (Looking h)
  begins_release : (h : ℕ) → IsInCube n h → Move n u W (Holding h) 0 (W 0) (Leaving h)
  retires : Move n u W Idle 0 (bit_or (W 0) (2 ^ u)) Retired
  looks_free : (h : ℕ)
      → IsInCube n h
      → IsFree (W h)
      → Move n u W (Looking h) h (W h) (Looked h (W h))
  looks_used : (h : ℕ) → IsInCube n h → Move n u W (Looking h) h (W h) Idle
  claims : (h w : ℕ) (q : Phase)
      → IsInCube n h
      → IsFree w
      → W h ≡ w
      → IsRisen n h h q
      → Move n u W (Looked h w) h busy q
  claims_lost : (h w : ℕ) → IsInCube n h → Move n u W (Looked h w) h (W h) Idle
  sweeps : (h a : ℕ)
      → IsInCube n h
      → a < h
      → OnPath a h
      → Move n u W (Climbing h a) a (use_of (W a)) (Swept h a)
  raises : (h a : ℕ) (q : Phase)
      → IsInCube n h
      → a < h
      → OnPath a h
      → (IsOccupied (W a) → ⊥)
      → IsRisen n h a q
      → Move n u W (Swept h a) a (with_side (side_of (child_towards a h)) (W a)) q
  raises_under : (h a : ℕ)
      → IsInCube n h
      → a < h
      → OnPath a h
      → IsOccupied (W a)
      → Move n u W (Swept h a) a (with_side (side_of (child_towards a h)) (W a)) (Backing h a)
  zeroes : (h : ℕ) (q : Phase) → IsInCube n h → IsLeaving n h 0 q → Move n u W (Leaving h) h 0 q
  zeroes_back : (h a : ℕ) (q : Phase)
      → IsInCube n h
      → IsLeaving n h 0 q
      → Move n u W (Backing h a) h 0 q
  unmarks : (a : ℕ) → IsInner n a → Move n u W (Arriving a) a (use_of (W a)) (Unmarked a)
  marks : (a : ℕ)
      → IsInner n a
      → (IsOccupied (W a) → ⊥)
      → Move n u W (Unmarked a) a (with_mark u (W a))
      (Marked a (with_mark u (W a)) seen.NotYet seen.NotYet)
  marks_stop : (a : ℕ)
      → IsInner n a
      → IsOccupied (W a)
      → Move n u W (Unmarked a) a (with_mark u (W a)) Idle
  looks_left : (a w : ℕ) (right found : Seen)
      → IsInner n a
      → Shows found (W (2 * a))
      → Move n u W (Marked a w seen.NotYet right) (2 * a) (W (2 * a)) (Marked a w found right)
  looks_right : (a w : ℕ) (left found : Seen)
      → IsInner n a
      → left ≢ seen.NotYet
      → Shows found (W (2 * a + 1))
      → Move n u W (Marked a w left seen.NotYet) (2 * a + 1) (W (2 * a + 1)) (Marked a w left found)
  clears : (a w : ℕ) (left right : Seen) (q : Phase)
      → IsInner n a
      → left ≢ seen.NotYet
      → right ≢ seen.NotYet
      → W a ≡ w
      → IsLeaving n a (cleared_as_seen w left right) q
      → Move n u W (Marked a w left right) a (cleared_as_seen w left right) q
  clears_lost : (a w : ℕ) (left right : Seen)
      → IsInner n a
      → W a ≢ w
      → Move n u W (Marked a w left right) a (W a) Idle

-- ---- each event is a move

looked : (n u : ℕ) (W : ℕ → ℕ) (h : ℕ)
    → IsInCube n h
    → (t : Bool)
    → is_free (W h) ≡ t
    → Move n u W (Looking h) h (W h) (cond t (Looked h (W h)) Idle)
looked n u W h in_cube true is = looks_free h in_cube (eqb-true (use_of (W h)) 0 is)
looked n u W h in_cube false is = looks_used h in_cube

claimed : (n u : ℕ) (W : ℕ → ℕ) (h w : ℕ)
    → IsInCube n h
    → IsFree w
    → (t : Bool)
    → eqb (W h) w ≡ t
    → Move n u W (Looked h w) h (cond t busy (W h)) (cond t (phase_after_raise h h) Idle)
claimed n u W h w in_cube free true is = claims h w (phase_after_raise h h) in_cube free (eqb-true (W h) w is) (phase_after_raise_is n h h in_cube (OnPath-self h in_cube.0))
claimed n u W h w in_cube free false is = claims_lost h w in_cube

raised : (n u : ℕ) (W : ℕ → ℕ) (h a : ℕ)
    → IsInCube n h
    → a < h
    → OnPath a h
    → (t : Bool)
    → is_occupied (W a) ≡ t
    → Move n u W (Swept h a) a (with_side (side_of (child_towards a h)) (W a))
    (cond t (Backing h a) (phase_after_raise h a))
raised n u W h a in_cube less above true is = raises_under h a in_cube less above (eqb-true (bit_at (W a) 0) 1 is)
raised n u W h a in_cube less above false is = raises h a (phase_after_raise h a) in_cube less above (eqb-false (bit_at (W a) 0) 1 is) (phase_after_raise_is n h a in_cube above)

marked : (n u : ℕ) (W : ℕ → ℕ) (a : ℕ)
    → IsInner n a
    → (t : Bool)
    → is_occupied (W a) ≡ t
    → Move n u W (Unmarked a) a (with_mark u (W a))
    (cond t Idle (Marked a (with_mark u (W a)) seen.NotYet seen.NotYet))
marked n u W a inner true is = marks_stop a inner (eqb-true (bit_at (W a) 0) 1 is)
marked n u W a inner false is = marks a inner (eqb-false (bit_at (W a) 0) 1 is)

in_cube-inner : (n a : ℕ) → IsInner n a → IsInCube n a
in_cube-inner n a inner = let whole : 2 ^ (n + 1) ≡ 2 * 2 ^ n = double n in (inner.0, omega (arith, inner.1))

-- a Clear, by whether the word is still the marked one and whether what it writes is free
cleared_by : (n u : ℕ) (W : ℕ → ℕ) (a w : ℕ) (left right : Seen)
    → IsInner n a
    → left ≢ seen.NotYet
    → right ≢ seen.NotYet
    → (s t : Bool)
    → eqb (W a) w ≡ s
    → is_free (cleared_as_seen w left right) ≡ t
    → Move n u W (Marked a w left right) a (cond s (cleared_as_seen w left right) (W a))
    (cond s (cond t (phase_after_zero a) Idle) Idle)
cleared_by n u W a w left right inner l r true true same free = clears a w left right (phase_after_zero a) inner l r (eqb-true (W a) w same) (phase_after_zero_is n a (cleared_as_seen w left right) (in_cube-inner n a inner))
cleared_by n u W a w left right inner l r true false same used = clears a w left right Idle inner l r (eqb-true (W a) w same) (record { fit = tt; none = refl; holds_none = refl; asks_none = refl; plain = plain_idle; owes = λ free _ _. absurd (eqb-false (use_of (cleared_as_seen w left right)) 0 used free); due = omega arith })
cleared_by n u W a w left right inner l r false t other _ = clears_lost a w left right inner (eqb-false (W a) w other)

-- what the event of a phase does to the words W
abbrev pub MoveOf : ℕ → ℕ → (ℕ → ℕ) → Phase → Transition → Type 0
MoveOf n u W p d = Move n u W p d.node (d.writes (W d.node)) (d.next (W d.node))

clear_move : (n u : ℕ) (W : ℕ → ℕ) (a w : ℕ) (left right : Seen)
    → IsInner n a
    → left ≢ seen.NotYet
    → right ≢ seen.NotYet
    → MoveOf n u W (Marked a w left right) (clear_event u a w (cleared_as_seen w left right))
clear_move n u W a w left right inner l r = cleared_by n u W a w left right inner l r (eqb (W a) w) (is_free (cleared_as_seen w left right)) refl refl

free_is_seen : seen.Free ≢ seen.NotYet
free_is_seen is = cc

used_is_seen : seen.Used ≢ seen.NotYet
used_is_seen is = cc

marked_move : (n u : ℕ) (W : ℕ → ℕ) (a w : ℕ) (left right : Seen)
    → IsInner n a
    → MoveOf n u W (Marked a w left right) (transition u (Marked a w left right))
marked_move n u W a w seen.NotYet right inner = looks_left a w right (seen_at (W (2 * a))) inner (shows (W (2 * a)))
marked_move n u W a w seen.Free seen.NotYet inner = looks_right a w seen.Free (seen_at (W (2 * a + 1))) inner free_is_seen (shows (W (2 * a + 1)))
marked_move n u W a w seen.Used seen.NotYet inner = looks_right a w seen.Used (seen_at (W (2 * a + 1))) inner used_is_seen (shows (W (2 * a + 1)))
marked_move n u W a w seen.Free seen.Free inner = clear_move n u W a w seen.Free seen.Free inner free_is_seen free_is_seen
marked_move n u W a w seen.Free seen.Used inner = clear_move n u W a w seen.Free seen.Used inner free_is_seen used_is_seen
marked_move n u W a w seen.Used seen.Free inner = clear_move n u W a w seen.Used seen.Free inner used_is_seen free_is_seen
marked_move n u W a w seen.Used seen.Used inner = clear_move n u W a w seen.Used seen.Used inner used_is_seen used_is_seen

-- a step that is not refused is a move
pub step_move : (n u : ℕ) (W : ℕ → ℕ) (p : Phase)
    → Fit n p
    → step_refusal p ≡ None
    → MoveOf n u W p (transition u p)
step_move n u W Idle fit none = absurd (cc)
step_move n u W (Looking h) fit none = looked n u W h fit (is_free (W h)) refl
step_move n u W (Looked h w) fit none = claimed n u W h w fit.0 fit.1 (eqb (W h) w) refl
step_move n u W (Climbing h a) fit none = sweeps h a fit.0 fit.1 fit.2
step_move n u W (Swept h a) fit none = raised n u W h a fit.0 fit.1 fit.2 (is_occupied (W a)) refl
step_move n u W (Holding h) fit none = absurd (cc)
step_move n u W (Leaving h) fit none = zeroes h (phase_after_zero h) fit (phase_after_zero_is n h 0 fit)
step_move n u W (Backing h a) fit none = zeroes_back h a (phase_after_zero h) fit (phase_after_zero_is n h 0 fit)
step_move n u W (Arriving a) fit none = unmarks a fit
step_move n u W (Unmarked a) fit none = marked n u W a fit (is_occupied (W a)) refl
step_move n u W (Marked a w left right) fit none = marked_move n u W a w left right fit
step_move n u W Retired fit none = absurd (cc)

-- ---- the count of events

unseen-seen : (found : Seen) (w : ℕ) → Shows found w → unseen found ≡ 0
unseen-seen found w (inl shown) = ap unseen shown.0
unseen-seen found w (inr shown) = ap unseen shown.0

-- each event lowers the count of its station
pub due_falls : {n u : ℕ} {W : ℕ → ℕ} {p : Phase} {v y : ℕ} {q : Phase}
    → Move n u W p v y q
    → step_refusal p ≡ None
    → events_due n q < events_due n p
due_falls (begins_take h _) step = absurd (cc)
due_falls (begins_release h _) step = absurd (cc)
due_falls retires step = absurd (cc)
due_falls (looks_free h _ _) step = omega arith
due_falls (looks_used h _) step = omega arith
due_falls (claims h w q _ _ _ risen) step = omega (arith, risen.due)
due_falls (claims_lost h w _) step = omega arith
due_falls (sweeps h a _ _ _) step = omega arith
due_falls (raises h a q _ _ _ _ risen) step = omega (arith, risen.due)
due_falls (raises_under h a _ _ _ _) step = omega arith
due_falls (zeroes h q _ leaving) step = omega (arith, leaving.due)
due_falls (zeroes_back h a q _ leaving) step = omega (arith, leaving.due)
due_falls (unmarks a _) step = omega arith
due_falls (marks a _ _) step = omega arith
due_falls (marks_stop a _ _) step = omega arith
due_falls {W = W} (looks_left a w right found _ shown) step = let none : unseen found ≡ 0 = unseen-seen found (W (2 * a)) shown in omega (arith, none)
due_falls {W = W} (looks_right a w left found _ _ shown) step = let none : unseen found ≡ 0 = unseen-seen found (W (2 * a + 1)) shown in omega (arith, none)
due_falls (clears a w left right q _ _ _ _ leaving) step = omega (arith, leaving.due)
due_falls (clears_lost a w left right _ _) step = omega arith

-- ---- the node that a take named

-- a station whose take named v: it is still to get v, or it holds v or nothing
abbrev pub IsTaking : ℕ → Phase → Type 0
IsTaking v p = ((asked p ≡ v) × (node_held p ≡ 0)) ⊎ ((asked p ≡ 0) × ((node_held p ≡ 0) ⊎ (node_held p ≡ v)))

risen_taking : {n h a : ℕ} {q : Phase} (v : ℕ)
    → IsRisen n h a q
    → 0 < h
    → ((h ≡ v) × ◌≡◌ {A = ℕ} 0 0) ⊎ ((h ≡ 0) × (◌≡◌ {A = ℕ} 0 0 ⊎ (0 ≡ v)))
    → IsTaking v q
risen_taking v risen positive (inl (is, _)) = elim risen.takes [ inl climbs ↦ inl (climbs.0 ∙ is, climbs.1) | inr holds ↦ inr (holds.0, inr (holds.1 ∙ is)) ]
risen_taking v risen positive (inr (none, _)) = absurd (omega arith)

-- each step of the station keeps that
pub taking_kept : {n u : ℕ} {W : ℕ → ℕ} {p : Phase} {x y : ℕ} {q : Phase} (v : ℕ)
    → Move n u W p x y q
    → step_refusal p ≡ None
    → IsTaking v p
    → IsTaking v q
taking_kept v (begins_take h _) step k = absurd (cc)
taking_kept v (begins_release h _) step k = absurd (cc)
taking_kept v retires step k = absurd (cc)
taking_kept v (looks_free h _ _) step k = k
taking_kept v (claims h w q in_cube _ _ risen) step k = risen_taking v risen in_cube.0 k
taking_kept v (sweeps h a _ _ _) step k = k
taking_kept v (raises h a q in_cube _ _ _ risen) step k = risen_taking v risen in_cube.0 k
taking_kept v (zeroes h q _ leaving) step k = inr (leaving.asks_none, inl leaving.holds_none)
taking_kept v (zeroes_back h a q _ leaving) step k = inr (leaving.asks_none, inl leaving.holds_none)
taking_kept v (clears a w left right q _ _ _ _ leaving) step k = inr (leaving.asks_none, inl leaving.holds_none)
taking_kept v _ step k = inr (refl, inl refl)

-- ---- the event of a step

-- an accepted step makes just one event, which is its station's
abbrev pub SingleEvent : ℕ → Transition → ℕ → Type 0
SingleEvent s d found = (event : Event) × (event.station ≡ s) × (d.events found ≡ event ∷ [])

marked_event : (s a w found : ℕ) (left right : Seen)
    → SingleEvent s (transition s (Marked a w left right)) found
marked_event s a w found seen.NotYet right = (_, refl, refl)
marked_event s a w found seen.Free seen.NotYet = (_, refl, refl)
marked_event s a w found seen.Used seen.NotYet = (_, refl, refl)
marked_event s a w found seen.Free seen.Free = (_, refl, refl)
marked_event s a w found seen.Free seen.Used = (_, refl, refl)
marked_event s a w found seen.Used seen.Free = (_, refl, refl)
marked_event s a w found seen.Used seen.Used = (_, refl, refl)

pub step_event : (s found : ℕ) (p : Phase)
    → step_refusal p ≡ None
    → SingleEvent s (transition s p) found
step_event s found Idle none = absurd (cc)
step_event s found (Looking h) none = (_, refl, refl)
step_event s found (Looked h w) none = (_, refl, refl)
step_event s found (Climbing h a) none = (_, refl, refl)
step_event s found (Swept h a) none = (_, refl, refl)
step_event s found (Holding h) none = absurd (cc)
step_event s found (Leaving h) none = (_, refl, refl)
step_event s found (Backing h a) none = (_, refl, refl)
step_event s found (Arriving a) none = (_, refl, refl)
step_event s found (Unmarked a) none = (_, refl, refl)
step_event s found (Marked a w left right) none = marked_event s a w found left right
step_event s found Retired none = absurd (cc)
