-- An event that refuses a try has its cause in another station.
use Rattle.std.proofs.Common.{◌≡◌, ◌≢◌, ℕ, ◌+◌, ◌^◌, ◌<◌, ◌≤◌, inl, inr, Bool, true, false, cond, eqb, List, [], ◌∷◌, ◌++◌, None, refl, sym, ◌∙◌, ap, subst, arith}
use Rattle.std.specs.Int.{bit_at}
use Rattle.std.proofs.lemmas.Bool.{cases_eq, eqb-true, eqb-false}
use Rattle.std.proofs.lemmas.List.{get_or_past}
use Rattle.cube_shape.specs.Node.{OnPath}
use Rattle.cube_shape.proofs.PathLemmas.{OnPath-self, OnPath-zero}
use Rattle.status_word.specs.Word.{IsFree, IsInUse, IsMarked, use_of}
use Rattle.cube_core.specs.declared.event.Event.{Event}
use Rattle.cube_core.specs.declared.event.Kind.{Kind}
use Rattle.cube_core.specs.declared.event.Kind.TheVariants.{Look, Claim, Raise}
use Rattle.cube_core.specs.declared.event.Note.{Note}
use Rattle.cube_core.specs.declared.event.Note.TheVariants as note
use Rattle.cube_core.specs.declared.phase.Seen.{Seen}
use Rattle.cube_core.specs.declared.phase.Seen.TheVariants as seen
use Rattle.cube_core.specs.declared.phase.Phase.{Phase}
use Rattle.cube_core.specs.declared.phase.Phase.TheVariants.{Idle, Looking, Looked, Climbing, Swept, Holding, Leaving, Backing, Arriving, Unmarked, Marked, Retired}
use Rattle.cube_core.specs.declared.act.Act.TheVariants.{Step}
use Rattle.cube_core.specs.Phase.{owned, IsEngagedAt}
use Rattle.cube_core.specs.InnerPhase.{marked_at, to_clear}
use Rattle.cube_core.specs.Event.{transition, note_after_raise, is_free, is_occupied}
use Rattle.cube_core.specs.Schedule.{Record, State, phase_of, trail_of, word_of, step_refusal, refusal, apply}
use Rattle.cube_core.specs.Cause.{HasOtherAt, HasCause}
use Rattle.cube_core.proofs.ChangeLemmas.{Fit}
use Rattle.cube_core.proofs.MoveLemmas.{word_read}
use Rattle.cube_core.proofs.ConsequenceLemmas.{in_use_engaged}
use Rattle.cube_core.proofs.StandsLemmas.{Stands}
use Rattle.cube_core.proofs.CountLemmas.{stepped}

-- a node that does not exist has the word 0
pub no_word : (w : State) → Stands w → (v : ℕ) → 2 ^ (w.dim + 1) ≤ v → word_of w v ≡ 0
no_word w k v past = get_or_past w.words v 0 (subst (λ m. m ≤ v) (sym k.word_count) past)

-- ---- which other station is engaged

-- the station owns nothing and is to clear nothing, so another one is the owner, or the one to
-- clear
record IsUnengaged (w : State) (s : ℕ) : Type 0 where
  owns_none : owned (phase_of w s) ≡ 0
  clears_none : to_clear (phase_of w s) ≡ 0

not_engaged : (w : State) (s v : ℕ) → IsUnengaged w s → IsEngagedAt (phase_of w s) v → ⊥
not_engaged w s v none (inl on) = OnPath-zero v (subst (OnPath v) none.owns_none on)
not_engaged w s v none (inr on) = OnPath-zero v (subst (OnPath v) none.clears_none on)

other_at : (w : State) (s t v : ℕ)
    → IsUnengaged w s
    → IsEngagedAt (phase_of w t) v
    → HasOtherAt w s v
other_at w s t v none engaged = (t, (λ same. not_engaged w s v none (subst (λ i. IsEngagedAt (phase_of w i) v) same engaged)), engaged)

-- if the word of a node is in use
other_in_use : (w : State) (s v : ℕ)
    → Stands w
    → IsUnengaged w s
    → 0 < v
    → IsInUse (word_of w v)
    → HasOtherAt w s v
other_in_use w s v k none positive used =
    let found = in_use_engaged k.holds (2 ^ (w.dim + 1)) (no_word w k) v positive used in
    other_at w s found.0 v none found.1

-- a marked station is to clear the node where it is marked
marked_clears : (p : Phase) (v : ℕ) → 0 < v → marked_at p ≡ v → to_clear p ≡ v
marked_clears Idle v positive at = absurd (omega (arith, positive, at))
marked_clears (Looking h) v positive at = absurd (omega (arith, positive, at))
marked_clears (Looked h w) v positive at = absurd (omega (arith, positive, at))
marked_clears (Climbing h a) v positive at = absurd (omega (arith, positive, at))
marked_clears (Swept h a) v positive at = absurd (omega (arith, positive, at))
marked_clears (Holding h) v positive at = absurd (omega (arith, positive, at))
marked_clears (Leaving h) v positive at = absurd (omega (arith, positive, at))
marked_clears (Backing h a) v positive at = absurd (omega (arith, positive, at))
marked_clears (Arriving a) v positive at = absurd (omega (arith, positive, at))
marked_clears (Unmarked a) v positive at = absurd (omega (arith, positive, at))
marked_clears (Marked a w left right) v positive at = at
marked_clears Retired v positive at = absurd (omega (arith, positive, at))

-- if the word of a node is free and not 0
other_marked : (w : State) (s v : ℕ)
    → Stands w
    → IsUnengaged w s
    → 0 < v
    → IsFree (word_of w v)
    → word_of w v ≢ 0
    → HasOtherAt w s v
other_marked w s v k none positive free some =
    let found = k.holds.witnessed.witness v positive free some in
    other_at w s found.0 v none (inr (subst (OnPath v) (sym (marked_clears (phase_of w found.0) v positive found.1.0)) (OnPath-self v positive)))

-- if it is not 0
other_not_zero : (w : State) (s v : ℕ)
    → Stands w
    → IsUnengaged w s
    → 0 < v
    → word_of w v ≢ 0
    → HasOtherAt w s v
other_not_zero w s v k none positive some = elim (cases_eq (use_of (word_of w v)) 0) [
  | inl free ↦ other_marked w s v k none positive free some
  | inr used ↦ other_in_use w s v k none positive used
]

-- ---- the three events that refuse a try

abbrev event_of : ℕ → Kind → ℕ → ℕ → Note → Event
event_of s kind node word its_note = record { station = s; kind = kind; node = node; word = word; note = its_note }

look_caused : (w : State) (s h : ℕ)
    → Stands w
    → phase_of w s ≡ Looking h
    → 0 < h
    → (t : Bool)
    → is_free (word_of w h) ≡ t
    → HasCause w s (event_of s Look h (word_of w h) (cond t note.Free note.InUse))
look_caused w s h k is positive true free = record {
  look = λ _ refused. absurd (cc);
  claim = λ other _. absurd (cc);
  raise = λ other _. absurd (cc);
}
look_caused w s h k is positive false used = record {
  look = λ _ _. other_in_use w s h k (record { owns_none = ap owned is; clears_none = ap to_clear is }) positive (eqb-false (use_of (word_of w h)) 0 used);
  claim = λ other _. absurd (cc);
  raise = λ other _. absurd (cc);
}

-- past a node no try is refused
raise_note : (a : ℕ) → (note_after_raise a ≢ note.Lost) × (note_after_raise a ≢ note.Under)
raise_note a = turn (eqb a 1)
  where
    turn : (t : Bool)
        → (cond t note.Held note.Climb ≢ note.Lost) × (cond t note.Held note.Climb ≢ note.Under)
    turn true = (λ e. cc, λ e. cc)
    turn false = (λ e. cc, λ e. cc)

-- a Claim that finds 0 had read another word, so one with a mark
claim_caused : (w : State) (s h read y : ℕ)
    → Stands w
    → phase_of w s ≡ Looked h read
    → 0 < h
    → (t : Bool)
    → eqb (word_of w h) read ≡ t
    → HasCause w s (event_of s Claim h y (cond t (note_after_raise h) note.Lost))
claim_caused w s h read y k is positive true same = record {
  look = λ other _. absurd (cc);
  claim = λ _ lost. absurd ((raise_note h).0 lost);
  raise = λ other _. absurd (cc);
}
claim_caused w s h read y k is positive false differs = record {
  look = λ other _. absurd (cc);
  claim = λ _ _. elim (cases_eq (word_of w h) 0) [
    | inl gone ↦
        let found = k.holds.read.marked s (λ none. eqb-false (word_of w h) read differs (gone ∙ sym none ∙ ap word_read is)) in
        inr (gone, (found.0, read, is, found.1, subst (λ q. IsMarked found.0 (word_read q)) is found.2))
    | inr some ↦ inl (other_not_zero w s h k (record { owns_none = ap owned is; clears_none = ap to_clear is }) positive some)
  ];
  raise = λ other _. absurd (cc);
}

raise_caused : (w : State) (s h a y : ℕ)
    → Stands w
    → phase_of w s ≡ Swept h a
    → a < h
    → OnPath a h
    → (t : Bool)
    → is_occupied (word_of w a) ≡ t
    → HasCause w s (event_of s Raise a y (cond t note.Under (note_after_raise a)))
raise_caused w s h a y k is below on true occupied = record {
  look = λ other _. absurd (cc);
  claim = λ other _. absurd (cc);
  raise = λ _ _. let found = k.holds.agrees.owner a on.0 (eqb-true (bit_at (word_of w a) 0) 1 occupied) in
      (subst (OnPath a) (sym (ap owned is)) on, (found.0, other_owner found.0 found.1, (on.0, found.1)));
}
  where
    other_owner : (t : ℕ) → owned (phase_of w t) ≡ a → t ≢ s
    other_owner t owns same =
        let both : h ≡ a = sym (ap owned is) ∙ sym (ap (λ i. owned (phase_of w i)) same) ∙ owns in
        omega (arith, both, below)
raise_caused w s h a y k is below on false free = record {
  look = λ other _. absurd (cc);
  claim = λ other _. absurd (cc);
  raise = λ _ under. absurd ((raise_note a).1 under);
}

-- ---- every event

-- an event of another kind refuses no try
other_kind : (w : State) (s : ℕ) (event : Event)
    → event.kind ≢ Look
    → event.kind ≢ Claim
    → event.kind ≢ Raise
    → HasCause w s event
other_kind w s event no_look no_claim no_raise = record {
  look = λ is _. absurd (no_look is);
  claim = λ is _. absurd (no_claim is);
  raise = λ is _. absurd (no_raise is);
}

-- the newest of a list of events
abbrev newest : Event → List Event → Event
newest otherwise [] = otherwise
newest otherwise (event ∷ _) = event

-- the event that the station makes in this phase
abbrev made_in : State → ℕ → Phase → Event → Event
made_in w s p otherwise = newest otherwise ((transition s p).events (word_of w (transition s p).node) ++ trail_of w s)

marked_caused : (w : State) (s a x : ℕ) (left right : Seen) (otherwise : Event)
    → HasCause w s (made_in w s (Marked a x left right) otherwise)
marked_caused w s a x seen.NotYet right otherwise = other_kind w s _ (λ e. cc) (λ e. cc) (λ e. cc)
marked_caused w s a x seen.Free seen.NotYet otherwise = other_kind w s _ (λ e. cc) (λ e. cc) (λ e. cc)
marked_caused w s a x seen.Used seen.NotYet otherwise = other_kind w s _ (λ e. cc) (λ e. cc) (λ e. cc)
marked_caused w s a x seen.Free seen.Free otherwise = other_kind w s _ (λ e. cc) (λ e. cc) (λ e. cc)
marked_caused w s a x seen.Free seen.Used otherwise = other_kind w s _ (λ e. cc) (λ e. cc) (λ e. cc)
marked_caused w s a x seen.Used seen.Free otherwise = other_kind w s _ (λ e. cc) (λ e. cc) (λ e. cc)
marked_caused w s a x seen.Used seen.Used otherwise = other_kind w s _ (λ e. cc) (λ e. cc) (λ e. cc)

phase_caused : (w : State) (s : ℕ) (otherwise : Event)
    → Stands w
    → (p : Phase)
    → phase_of w s ≡ p
    → step_refusal p ≡ None
    → Fit w.dim p
    → HasCause w s (made_in w s p otherwise)
phase_caused w s otherwise k Idle is none fit = absurd (cc)
phase_caused w s otherwise k (Looking h) is none fit = look_caused w s h k is fit.0 (is_free (word_of w h)) refl
phase_caused w s otherwise k (Looked h x) is none fit = claim_caused w s h x _ k is fit.0.0 (eqb (word_of w h) x) refl
phase_caused w s otherwise k (Climbing h a) is none fit = other_kind w s _ (λ e. cc) (λ e. cc) (λ e. cc)
phase_caused w s otherwise k (Swept h a) is none fit = raise_caused w s h a _ k is fit.1 fit.2 (is_occupied (word_of w a)) refl
phase_caused w s otherwise k (Holding h) is none fit = absurd (cc)
phase_caused w s otherwise k (Leaving h) is none fit = other_kind w s _ (λ e. cc) (λ e. cc) (λ e. cc)
phase_caused w s otherwise k (Backing h a) is none fit = other_kind w s _ (λ e. cc) (λ e. cc) (λ e. cc)
phase_caused w s otherwise k (Arriving a) is none fit = other_kind w s _ (λ e. cc) (λ e. cc) (λ e. cc)
phase_caused w s otherwise k (Unmarked a) is none fit = other_kind w s _ (λ e. cc) (λ e. cc) (λ e. cc)
phase_caused w s otherwise k (Marked a x left right) is none fit = marked_caused w s a x left right otherwise
phase_caused w s otherwise k Retired is none fit = absurd (cc)

-- the event that an accepted step adds
pub caused : (w : State)
    → Stands w
    → (s : ℕ) (event : Event)
    → refusal (Step s) w ≡ None
    → trail_of (apply (Step s) w) s ≡ event ∷ trail_of w s
    → HasCause w s event
caused w k s event none told =
    let step = stepped w s none in
    subst (HasCause w s) (ap (newest event) (sym (ap (λ (r : Record). r.trail) step.record_is) ∙ told))
    (phase_caused w s event k (phase_of w s) refl step.moves (k.holds.agrees.fit s))
