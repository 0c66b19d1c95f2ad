-- The counts of refusals are those of the events. A try that is refused makes one event that
-- refuses it, and this event is the one for its reason.
use Rattle.std.proofs.Common.{◌≡◌, ℕ, zero, suc, ◌+◌, cond, eqb, Bool, true, false, List, [], ◌∷◌, ◌++◌, refl, sym, ◌∙◌, ap, subst, arith}
use Rattle.cube_shape.specs.Node.{parent_of, child_of}
use Rattle.cube_shape.specs.declared.node.Side.TheVariants.{Left, Right}
use Rattle.cube_core.specs.declared.event.Event.{Event}
use Rattle.cube_core.specs.declared.event.Kind.{Kind}
use Rattle.cube_core.specs.declared.event.Kind.TheVariants.{Look, Claim, Raise, Zero, Mark, Child, Clear}
use Rattle.cube_core.specs.declared.event.Note.{Note}
use Rattle.cube_core.specs.declared.event.Note.TheVariants as note
use Rattle.cube_core.specs.declared.phase.Phase.{Phase}
use Rattle.cube_core.specs.declared.phase.Phase.TheVariants.{Idle, Looking, Looked, Climbing, Swept, Holding, Leaving, Backing, Arriving, Unmarked, Marked, Retired}
use Rattle.cube_core.specs.declared.phase.Seen.TheVariants as seen
use Rattle.status_word.specs.Word.{with_mark}
use Rattle.cube_core.specs.Event.{transition, is_free, is_occupied, cleared_as_seen}
use Rattle.tree_steps.specs.declared.why.Why.{Why}
use Rattle.tree_steps.specs.declared.why.Why.TheVariants.{InUse, Lost, Under}
use Rattle.tree_steps.specs.declared.view.Entry.{Entry}
use Rattle.tree_steps.specs.Steps.{entry_in, steps_entry, Makes, Answered}
use Rattle.tree_steps.specs.Answer.{IsAnswered}
use Rattle.cube_tree.specs.declared.refusal.Refusal.{Refusal}
use Rattle.cube_tree.specs.Handles.{IsRefusedTry}
use Rattle.cube_tree.specs.Tries.{counted, no_refusal, refusal_sum, refusals_by, refusals_in, added, Tries}

-- ---- counts

abbrev refusal_of : ℕ → ℕ → ℕ → Refusal
refusal_of in_use lost under = record { in_use = in_use; lost = lost; under = under }

same_refusal : (r s : Refusal) → r.in_use ≡ s.in_use → r.lost ≡ s.lost → r.under ≡ s.under → r ≡ s
same_refusal r s in_use lost under =
    ap (λ x. refusal_of x r.lost r.under) in_use ∙ ap (λ x. refusal_of s.in_use x r.under) lost ∙ ap (λ x. refusal_of s.in_use s.lost x) under

none_added : (r : Refusal) → r ≡ added no_refusal r
none_added r = same_refusal r (added no_refusal r) (omega arith) (omega arith) (omega arith)

added_three : (r s t : Refusal) → added r (added s t) ≡ added (added r s) t
added_three r s t = same_refusal (added r (added s t)) (added (added r s) t) (omega arith) (omega arith) (omega arith)

counted_added : (why : Why) (r s : Refusal) → counted why (added r s) ≡ added (counted why r) s
counted_added InUse r s = same_refusal (counted InUse (added r s)) (added (counted InUse r) s) (omega arith) refl refl
counted_added Lost r s = same_refusal (counted Lost (added r s)) (added (counted Lost r) s) refl (omega arith) refl
counted_added (Under at) r s = same_refusal (counted (Under at) (added r s)) (added (counted (Under at) r) s) refl refl (omega arith)

in_append : (xs ys : List Event) → refusals_in (xs ++ ys) ≡ added (refusals_in xs) (refusals_in ys)
in_append [] ys = none_added (refusals_in ys)
in_append (e ∷ xs) ys =
    ap (λ r. added (refusals_by e.kind e.note) r) (in_append xs ys) ∙ added_three (refusals_by e.kind e.note) (refusals_in xs) (refusals_in ys)

-- ---- how many events of a trail refuse

abbrev weight : Kind → Note → ℕ
weight kind n = refusal_sum (refusals_by kind n)

abbrev told : List Event → ℕ
told [] = 0
told (e ∷ earlier) = weight e.kind e.note + told earlier

told_is : (trail : List Event) → told trail ≡ refusal_sum (refusals_in trail)
told_is [] = refl
told_is (e ∷ trail) = let earlier = told_is trail in omega (arith, earlier)

-- an event that does not refuse, and one that does
quiet : {x t b : ℕ} → x ≡ 0 → t ≡ b → x + t ≡ b
quiet none same = omega (arith, none, same)

refuses : {x t b : ℕ} → x ≡ 1 → t ≡ b → x + t ≡ b + 1
refuses one same = omega (arith, one, same)

-- ---- a take of a station whose trail had b refusals before

module _ (b : ℕ) where
  -- it has one more from the event on that refuses it
  abbrev IsSo : Phase → ℕ → Type 0
  IsSo (Looking v) t = t ≡ b
  IsSo (Looked v w) t = t ≡ b
  IsSo (Climbing v a) t = t ≡ b
  IsSo (Swept v a) t = t ≡ b
  IsSo (Holding v) t = t ≡ b
  IsSo phase t = t ≡ b + 1

  looked_at : (s v found : ℕ) (trail : List Event)
      → told trail ≡ b
      → (free : Bool)
      → IsSo (cond free (Looked v found) Idle)
      (told (record {
        station = s;
        kind = Look;
        node = v;
        word = found;
        note = cond free
            note.Free note.InUse;
      } ∷ trail))
  looked_at s v found trail k true = quiet refl k
  looked_at s v found trail k false = refuses refl k

  claimed_past : (s v word : ℕ) (trail : List Event)
      → told trail ≡ b
      → (root : Bool)
      → IsSo (cond root (Holding v) (Climbing v (parent_of v)))
      (told (record {
        station = s;
        kind = Claim;
        node = v;
        word = word;
        note = cond root
            note.Held note.Climb;
      } ∷ trail))
  claimed_past s v word trail k true = quiet refl k
  claimed_past s v word trail k false = quiet refl k

  raised_past : (s v a word : ℕ) (trail : List Event)
      → told trail ≡ b
      → (root : Bool)
      → IsSo (cond root (Holding v) (Climbing v (parent_of a)))
      (told (record {
        station = s;
        kind = Raise;
        node = a;
        word = word;
        note = cond root
            note.Held note.Climb;
      } ∷ trail))
  raised_past s v a word trail k true = quiet refl k
  raised_past s v a word trail k false = quiet refl k

  zeroed : (s v : ℕ) (trail : List Event)
      → told trail ≡ b + 1
      → (root : Bool)
      → IsSo (cond root Idle (Arriving (parent_of v)))
      (told (record {
        station = s;
        kind = Zero;
        node = v;
        word = 0;
        note = cond root note.Done
            note.Climb;
      } ∷ trail))
  zeroed s v trail k true = quiet refl k
  zeroed s v trail k false = quiet refl k

  marked_at : (s a word made : ℕ) (trail : List Event)
      → told trail ≡ b + 1
      → (occupied : Bool)
      → IsSo (cond occupied Idle (Marked a word seen.NotYet seen.NotYet))
      (told (record {
        station = s;
        kind = Mark;
        node = a;
        word = made;
        note = cond occupied
            note.Stop note.Ok;
      } ∷ trail))
  marked_at s a word made trail k true = quiet refl k
  marked_at s a word made trail k false = quiet refl k

  child_seen : (s c word : ℕ) (trail : List Event)
      → told trail ≡ b + 1
      → (free : Bool)
      → told (record {
        station = s;
        kind = Child;
        node = c;
        word = word;
        note = cond free note.Free
            note.Used;
      } ∷ trail) ≡ b + 1
  child_seen s c word trail k true = quiet refl k
  child_seen s c word trail k false = quiet refl k

  cleared_at : (s a word : ℕ) (trail : List Event)
      → told trail ≡ b + 1
      → (won free root : Bool)
      → IsSo (cond won (cond free (cond root Idle (Arriving (parent_of a))) Idle) Idle)
      (told (record {
        station = s;
        kind = Clear;
        node = a;
        word = word;
        note = cond won
            (cond free (cond root note.Done note.Climb) note.Keep) note.Lost;
      } ∷ trail))
  cleared_at s a word trail k true true true = quiet refl k
  cleared_at s a word trail k true true false = quiet refl k
  cleared_at s a word trail k true false root = quiet refl k
  cleared_at s a word trail k false free root = quiet refl k

  -- each event keeps it
  one_more : (s found : ℕ) (p : Phase) (trail : List Event)
      → IsSo p (told trail)
      → IsSo ((transition s p).next found) (told ((transition s p).events found ++ trail))
  one_more s found Idle trail k = k
  one_more s found (Looking v) trail k = looked_at s v found trail k (is_free found)
  one_more s found (Looked v w) trail k = turn (eqb found w)
    where
      turn : (won : Bool)
          → IsSo (cond won (cond (eqb v 1) (Holding v) (Climbing v (parent_of v))) Idle)
          (told (record {
            station = s;
            kind = Claim;
            node = v;
            word = cond won 7 found;
            note =
                cond won (cond (eqb v 1) note.Held note.Climb) note.Lost;
          } ∷ trail))
      turn true = claimed_past s v 7 trail k (eqb v 1)
      turn false = refuses refl k
  one_more s found (Climbing v a) trail k = quiet refl k
  one_more s found (Swept v a) trail k = turn (is_occupied found)
    where
      turn : (occupied : Bool)
          → IsSo (cond occupied (Backing v a)
          (cond (eqb a 1) (Holding v) (Climbing v (parent_of a))))
          (told (record {
            station = s;
            kind = Raise;
            node = a;
            word =
                (transition s (Swept v a)).writes found;
            note = cond occupied note.Under
                (cond (eqb a 1) note.Held note.Climb);
          } ∷ trail))
      turn true = refuses refl k
      turn false = raised_past s v a ((transition s (Swept v a)).writes found) trail k (eqb a 1)
  one_more s found (Holding v) trail k = k
  one_more s found (Leaving v) trail k = zeroed s v trail k (eqb v 1)
  one_more s found (Backing v a) trail k = zeroed s v trail k (eqb v 1)
  one_more s found (Arriving a) trail k = quiet refl k
  one_more s found (Unmarked a) trail k = marked_at s a (with_mark s found) (with_mark s found) trail k (is_occupied found)
  one_more s found (Marked a w seen.NotYet right) trail k = child_seen s (child_of a Left) found trail k (is_free found)
  one_more s found (Marked a w seen.Free seen.NotYet) trail k = child_seen s (child_of a Right) found trail k (is_free found)
  one_more s found (Marked a w seen.Used seen.NotYet) trail k = child_seen s (child_of a Right) found trail k (is_free found)
  one_more s found (Marked a w seen.Free seen.Free) trail k = cleared_at s a (cond (eqb found w) (cleared_as_seen w seen.Free seen.Free) found) trail k (eqb found w) (is_free (cleared_as_seen w seen.Free seen.Free)) (eqb a 1)
  one_more s found (Marked a w seen.Free seen.Used) trail k = cleared_at s a (cond (eqb found w) (cleared_as_seen w seen.Free seen.Used) found) trail k (eqb found w) (is_free (cleared_as_seen w seen.Free seen.Used)) (eqb a 1)
  one_more s found (Marked a w seen.Used seen.Free) trail k = cleared_at s a (cond (eqb found w) (cleared_as_seen w seen.Used seen.Free) found) trail k (eqb found w) (is_free (cleared_as_seen w seen.Used seen.Free)) (eqb a 1)
  one_more s found (Marked a w seen.Used seen.Used) trail k = cleared_at s a (cond (eqb found w) (cleared_as_seen w seen.Used seen.Used) found) trail k (eqb found w) (is_free (cleared_as_seen w seen.Used seen.Used)) (eqb a 1)
  one_more s found Retired trail k = k

  steps_keep : (found : List ℕ) (e : Entry)
      → IsSo e.phase (told e.trail)
      → IsSo (steps_entry found e).phase (told (steps_entry found e).trail)
  steps_keep [] e k = k
  steps_keep (x ∷ found) e k =
      let between : Entry = steps_entry found e in one_more between.station x between.phase between.trail (steps_keep found e k)

  made_keeps : {old new : Entry}
      → Makes old new
      → IsSo old.phase (told old.trail)
      → IsSo new.phase (told new.trail)
  made_keeps {old = old} {new = new} makes k = subst (λ (e : Entry). IsSo e.phase (told e.trail)) (sym makes.entry) (steps_keep makes.found old k)

-- ---- a try that was refused

told_once : (node : ℕ) (old new : Entry)
    → Makes (entry_in (Looking node) old) new
    → new.phase ≡ Idle
    → told new.trail ≡ told old.trail + 1
told_once node old new makes idle = subst (λ p. IsSo (told old.trail) p (told new.trail)) idle (made_keeps (told old.trail) makes refl)

answered_parts : {kind : Kind} {node : ℕ} {n : Note} {old new : Entry}
    → (a : Answered kind node n old new)
    → refusals_in new.trail ≡ added (refusals_in a.later)
    (added (refusals_by kind n) (added (refusals_in a.earlier) (refusals_in old.trail)))
answered_parts {kind = kind} {old = old} a =
    ap refusals_in a.trail
    ∙ in_append a.later (a.event ∷ (a.earlier ++ old.trail))
    ∙ ap (λ r. added (refusals_in a.later) (added (refusals_by a.event.kind a.event.note) r)) (in_append a.earlier old.trail)
    ∙ ap (λ k. added (refusals_in a.later) (added (refusals_by k a.event.note) (added (refusals_in a.earlier) (refusals_in old.trail)))) a.kind_is
    ∙ ap (λ m. added (refusals_in a.later) (added (refusals_by kind m) (added (refusals_in a.earlier) (refusals_in old.trail)))) a.note_is

one_refusal : (why : Why) (node : ℕ) (old new : Entry)
    → IsAnswered why node old new
    → refusal_sum (refusals_in new.trail) ≡ refusal_sum (refusals_in old.trail) + 1
    → refusals_in new.trail ≡ counted why (refusals_in old.trail)
one_refusal InUse node old new answered sum =
    let parts = answered_parts answered in
    let in_use = ap (λ (r : Refusal). r.in_use) parts in let lost = ap (λ (r : Refusal). r.lost) parts in let under = ap (λ (r : Refusal). r.under) parts in
    same_refusal (refusals_in new.trail) (counted InUse (refusals_in old.trail)) (omega (arith, in_use, lost, under, sum)) (omega (arith, in_use, lost, under, sum)) (omega (arith, in_use, lost, under, sum))
one_refusal Lost node old new answered sum =
    let parts = answered_parts answered in
    let in_use = ap (λ (r : Refusal). r.in_use) parts in let lost = ap (λ (r : Refusal). r.lost) parts in let under = ap (λ (r : Refusal). r.under) parts in
    same_refusal (refusals_in new.trail) (counted Lost (refusals_in old.trail)) (omega (arith, in_use, lost, under, sum)) (omega (arith, in_use, lost, under, sum)) (omega (arith, in_use, lost, under, sum))
one_refusal (Under at) node old new answered sum =
    let parts = answered_parts answered in
    let in_use = ap (λ (r : Refusal). r.in_use) parts in let lost = ap (λ (r : Refusal). r.lost) parts in let under = ap (λ (r : Refusal). r.under) parts in
    same_refusal (refusals_in new.trail) (counted (Under at) (refusals_in old.trail)) (omega (arith, in_use, lost, under, sum)) (omega (arith, in_use, lost, under, sum)) (omega (arith, in_use, lost, under, sum))

pub refused_events : (n node : ℕ) (old new : Entry) (why : Why)
    → IsRefusedTry n node old new why
    → refusals_in new.trail ≡ counted why (refusals_in old.trail)
refused_events n node old new why refused = one_refusal why node old new refused.answer
    (let once = told_once node old new refused.makes refused.idle in let before = told_is old.trail in let after = told_is new.trail in omega (arith, once, before, after))

-- ---- tries one after another

-- no try, and one more
pub no_events : (old new : Entry) (r : Refusal)
    → new ≡ old
    → r ≡ no_refusal
    → refusals_in new.trail ≡ added r (refusals_in old.trail)
no_events old new r same none =
    ap (λ (e : Entry). refusals_in e.trail) same ∙ none_added (refusals_in old.trail) ∙ ap (λ c. added c (refusals_in old.trail)) (sym none)

pub more_events : (n node : ℕ) (old between new : Entry) (why : Why) (before r : Refusal)
    → refusals_in between.trail ≡ added before (refusals_in old.trail)
    → IsRefusedTry n node between new why
    → r ≡ counted why before
    → refusals_in new.trail ≡ added r (refusals_in old.trail)
more_events n node old between new why before r had refused counts =
    refused_events n node between new why refused
    ∙ ap (counted why) had
    ∙ counted_added why before (refusals_in old.trail)
    ∙ ap (λ c. added c (refusals_in old.trail)) (sym counts)

pub tries_events : (n first m : ℕ) (r : Refusal) (old new : Entry)
    → Tries n first m r old new
    → refusals_in new.trail ≡ added r (refusals_in old.trail)
tries_events n first zero r old new tries = no_events old new r tries.0 tries.1
tries_events n first (suc m) r old new (between, before, tries, one) =
    more_events n (first + m) old between new one.why before r (tries_events n first m before old between tries) one.refused one.counts
