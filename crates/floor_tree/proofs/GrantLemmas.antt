-- What the events of a take and of a release add to the regions that a station was given.
use Rattle.std.proofs.Common.{◌≡◌, ℕ, zero, suc, ◌+◌, Bool, true, false, cond, eqb, List, [], ◌∷◌, ◌++◌, refl, sym, ◌∙◌, ap, subst}
use Rattle.cube_shape.specs.declared.region.Region.{Region}
use Rattle.cube_shape.specs.Node.{child_of, parent_of}
use Rattle.cube_shape.specs.declared.node.Side.TheVariants.{Left, Right}
use Rattle.cube_core.specs.declared.phase.Seen.TheVariants as seen
use Rattle.cube_core.specs.declared.phase.Phase.{Phase}
use Rattle.cube_core.specs.declared.phase.Phase.TheVariants.{Idle, Looking, Looked, Climbing, Swept, Holding, Leaving, Backing, Arriving, Unmarked, Marked, Retired}
use Rattle.cube_core.specs.declared.event.Event.{Event}
use Rattle.cube_core.specs.declared.event.Kind.{Kind}
use Rattle.cube_core.specs.declared.event.Kind.TheVariants.{Claim, Raise, Zero, Child, Clear, Look, Mark}
use Rattle.cube_core.specs.declared.event.Note.TheVariants as note
use Rattle.cube_core.specs.Event.{transition, is_free, is_occupied, cleared_as_seen}
use Rattle.cube_core.specs.Held.{region_at}
use Rattle.tree_steps.specs.declared.view.Entry.{Entry}
use Rattle.tree_steps.specs.Steps.{entry_in, steps_entry, Makes}
use Rattle.cube_tree.specs.Search.{RefusedTry, AreRefused}
use Rattle.floor_tree.specs.Grants.{is_look, newest_node, grants_in}

-- a station that was given the regions `given`, and then began a take of node h
module _ (n h : ℕ) (given : List Region) where
  -- it is still about this node, and no region was given since
  abbrev HasBegun : ℕ → List Event → Type 0
  HasBegun v trail = (v ≡ h) × (grants_in n trail ≡ given) × (newest_node trail ≡ h)

  -- what its events say in each phase; in a release it was given nothing since
  abbrev pub IsSoIn : Phase → List Event → Type 0
  IsSoIn (Looking v) trail = (v ≡ h) × (grants_in n trail ≡ given)
  IsSoIn (Looked v w) trail = HasBegun v trail
  IsSoIn (Climbing v a) trail = HasBegun v trail
  IsSoIn (Swept v a) trail = HasBegun v trail
  IsSoIn (Holding v) trail = grants_in n trail ≡ given ++ region_at n h ∷ []
  IsSoIn phase trail = grants_in n trail ≡ given

  -- it passes node a, and holds its own node if a is the root
  past : (s a word v : ℕ) (kind : Kind) (trail : List Event)
      → is_look kind ≡ false
      → HasBegun v trail
      → (root : Bool)
      → IsSoIn (cond root (Holding v) (Climbing v (parent_of a)))
      (record {
        station = s;
        kind = kind;
        node = a;
        word = word;
        note = cond root note.Held
            note.Climb;
      } ∷ trail)
  past s a word v kind trail other k true = ap (λ regions. regions ++ region_at n (newest_node trail) ∷ []) k.1 ∙ ap (λ u. given ++ region_at n u ∷ []) k.2
  past s a word v kind trail other k false = (k.0, k.1, ap (λ b. cond b a (newest_node trail)) other ∙ k.2)

  -- the node is given back, and the way up goes on unless it is the root
  zeroed : (s v : ℕ) (trail : List Event)
      → grants_in n trail ≡ given
      → (root : Bool)
      → IsSoIn (cond root Idle (Arriving (parent_of v)))
      (record {
        station = s;
        kind = Zero;
        node = v;
        word = 0;
        note = cond root note.Done
            note.Climb;
      } ∷ trail)
  zeroed s v trail k true = k
  zeroed s v trail k false = k

  -- a child is seen
  child_seen : (s c word : ℕ) (trail : List Event)
      → grants_in n trail ≡ given
      → (free : Bool)
      → grants_in n (record {
        station = s;
        kind = Child;
        node = c;
        word = word;
        note = cond free
            note.Free note.Used;
      } ∷ trail) ≡ given
  child_seen s c word trail k true = k
  child_seen s c word trail k false = k

  -- a marked node is cleared, or another station was there
  cleared_at : (s a word : ℕ) (trail : List Event)
      → grants_in n trail ≡ given
      → (won free root : Bool)
      → IsSoIn (cond won (cond free (cond root Idle (Arriving (parent_of a))) Idle) Idle)
      (record {
        station = s;
        kind = Clear;
        node = a;
        word = word;
        note = cond won
            (cond free (cond root note.Done note.Climb) note.Keep) note.Lost;
      } ∷ trail)
  cleared_at s a word trail k true true true = k
  cleared_at s a word trail k true true false = k
  cleared_at s a word trail k true false root = k
  cleared_at s a word trail k false free root = k

  looked_at : (s v found : ℕ) (trail : List Event)
      → (v ≡ h) × (grants_in n trail ≡ given)
      → (free : Bool)
      → IsSoIn (cond free (Looked v found) Idle)
      (record {
        station = s;
        kind = Look;
        node = v;
        word = found;
        note = cond free note.Free
            note.InUse;
      } ∷ trail)
  looked_at s v found trail k true = (k.0, k.1, k.0)
  looked_at s v found trail k false = k.1

  marked_at : (s a found word : ℕ) (trail : List Event)
      → grants_in n trail ≡ given
      → (occupied : Bool)
      → IsSoIn (cond occupied Idle (Marked a word seen.NotYet seen.NotYet))
      (record {
        station = s;
        kind = Mark;
        node = a;
        word = word;
        note = cond occupied note.Stop
            note.Ok;
      } ∷ trail)
  marked_at s a found word trail k true = k
  marked_at s a found word trail k false = k

  -- each event keeps it
  one_more : (s found : ℕ) (p : Phase) (trail : List Event)
      → IsSoIn p trail
      → IsSoIn ((transition s p).next found) ((transition s p).events found ++ trail)
  one_more s found Idle trail k = k
  one_more s found (Looking v) trail k = looked_at s v found trail k (is_free found)
  one_more s found (Looked v w) trail k = turn (eqb found w)
    where
      turn : (won : Bool)
          → IsSoIn (cond won (cond (eqb v 1) (Holding v) (Climbing v (parent_of v))) Idle)
          (record {
            station = s;
            kind = Claim;
            node = v;
            word = cond won 7 found;
            note = cond
                won (cond (eqb v 1) note.Held note.Climb) note.Lost;
          } ∷ trail)
      turn true = past s v 7 v Claim trail refl k (eqb v 1)
      turn false = k.1
  one_more s found (Climbing v a) trail k = k
  one_more s found (Swept v a) trail k = turn (is_occupied found)
    where
      turn : (occupied : Bool)
          → IsSoIn (cond occupied (Backing v a)
          (cond (eqb a 1) (Holding v) (Climbing v (parent_of a))))
          (record {
            station = s;
            kind = Raise;
            node = a;
            word =
                (transition s (Swept v a)).writes found;
            note = cond occupied note.Under
                (cond (eqb a 1) note.Held note.Climb);
          } ∷ trail)
      turn true = k.1
      turn false = past s a ((transition s (Swept v a)).writes found) v Raise trail refl k (eqb a 1)
  one_more s found (Holding v) trail k = k
  one_more s found (Leaving v) trail k = zeroed s v trail k (eqb v 1)
  one_more s found (Backing v a) trail k = zeroed s v trail k (eqb v 1)
  one_more s found (Arriving a) trail k = k
  one_more s found (Unmarked a) trail k = marked_at s a found _ trail k (is_occupied found)
  one_more s found (Marked a w seen.NotYet right) trail k = child_seen s (child_of a Left) found trail k (is_free found)
  one_more s found (Marked a w seen.Free seen.NotYet) trail k = child_seen s (child_of a Right) found trail k (is_free found)
  one_more s found (Marked a w seen.Used seen.NotYet) trail k = child_seen s (child_of a Right) found trail k (is_free found)
  one_more s found (Marked a w seen.Free seen.Free) trail k = cleared_at s a _ trail k (eqb found w) (is_free (cleared_as_seen w seen.Free seen.Free)) (eqb a 1)
  one_more s found (Marked a w seen.Free seen.Used) trail k = cleared_at s a _ trail k (eqb found w) (is_free (cleared_as_seen w seen.Free seen.Used)) (eqb a 1)
  one_more s found (Marked a w seen.Used seen.Free) trail k = cleared_at s a _ trail k (eqb found w) (is_free (cleared_as_seen w seen.Used seen.Free)) (eqb a 1)
  one_more s found (Marked a w seen.Used seen.Used) trail k = cleared_at s a _ trail k (eqb found w) (is_free (cleared_as_seen w seen.Used seen.Used)) (eqb a 1)
  one_more s found Retired trail k = k

  steps_keep : (found : List ℕ) (e : Entry)
      → IsSoIn e.phase e.trail
      → IsSoIn (steps_entry found e).phase (steps_entry found e).trail
  steps_keep [] e k = k
  steps_keep (x ∷ found) e k =
      let between : Entry = steps_entry found e in one_more between.station x between.phase between.trail (steps_keep found e k)

  made_keeps : {old new : Entry}
      → Makes old new
      → IsSoIn old.phase old.trail
      → IsSoIn new.phase new.trail
  made_keeps {old = old} {new = new} makes k = subst (λ (e : Entry). IsSoIn e.phase e.trail) (sym makes.entry) (steps_keep makes.found old k)

-- ---- whole calls

-- a take that came to hold its node
pub given_more : (n node : ℕ) (old new : Entry)
    → Makes (entry_in (Looking node) old) new
    → new.phase ≡ Holding node
    → grants_in n new.trail ≡ grants_in n old.trail ++ region_at n node ∷ []
given_more n node old new makes holds =
    subst (λ p. IsSoIn n node (grants_in n old.trail) p new.trail) holds (made_keeps n node (grants_in n old.trail) makes (refl, refl))

-- a take that was refused, and a release
pub given_no_more : (n node : ℕ) (old new : Entry)
    → Makes (entry_in (Looking node) old) new
    → new.phase ≡ Idle
    → grants_in n new.trail ≡ grants_in n old.trail
given_no_more n node old new makes idle =
    subst (λ p. IsSoIn n node (grants_in n old.trail) p new.trail) idle (made_keeps n node (grants_in n old.trail) makes (refl, refl))

pub given_back : (n node : ℕ) (old new : Entry)
    → Makes (entry_in (Leaving node) old) new
    → new.phase ≡ Idle
    → grants_in n new.trail ≡ grants_in n old.trail
given_back n node old new makes idle =
    subst (λ p. IsSoIn n node (grants_in n old.trail) p new.trail) idle (made_keeps n node (grants_in n old.trail) makes refl)

-- ---- tries that were refused

pub tries_give : (n : ℕ) (tries : List RefusedTry) (old new : Entry)
    → AreRefused n tries old new
    → (new.station ≡ old.station) × ((d : ℕ) → grants_in d new.trail ≡ grants_in d old.trail)
tries_give n [] old new refused = (ap (λ (e : Entry). e.station) refused, λ d. ap (λ (e : Entry). grants_in d e.trail) refused)
tries_give n (t ∷ tries) old new (between, earlier, refused, passed) =
    let before = tries_give n tries old between earlier in
    (refused.number ∙ before.0, λ d. given_no_more d t.node between new refused.makes refused.idle ∙ before.1 d)
