-- How the steps of a station, and splits and joins of seats, keep the rule.
use Rattle.std.proofs.Common.{◌≡◌, ◌≢◌, ℕ, zero, suc, ◌+◌, ◌<◌, ◌≤◌, cond, List, [], ◌∷◌, ◌++◌, get_or, set, refl, sym, ◌∙◌, ap, subst, arith, eq-eqb}
use Rattle.std.specs.Prelude.{All}
use mathlib.Core.Option.{some, some-injective, some-ne-none}
use lib.ListN.{get_elem?}
use Rattle.std.proofs.lemmas.List.{get_or-set_same, get_or-set_other}
use Rattle.std.proofs.lemmas.List.Elements.{All-nil, All-cons, All-head, All-tail, All-weaker}
use Rattle.atomic_table.specs.Table.{keeps, Allows}
use Rattle.cube_core.specs.declared.act.Act.{Act}
use Rattle.cube_core.specs.Event.{Transition}
use Rattle.cube_core.specs.Schedule.{Record, State, AreOneEvent, record_of, word_of, initial, apply_event}
use Rattle.cube_core.proofs.RunningLemmas.{apply_all-append, apply_all_dim, initial_stations}
use Rattle.tree_steps.specs.declared.view.Entry.{Entry}
use Rattle.tree_steps.specs.declared.view.Peek.{Peek}
use Rattle.tree_steps.specs.declared.view.View.{View}
use Rattle.tree_steps.specs.declared.view.Size.{Size}
use Rattle.tree_steps.specs.Rule.{record_in, others, times, times_in, world_after, IsEntryOf, WasSeen, WasWord, IsView, IsRuled}
use Rattle.tree_steps.specs.Steps.{Known, entry_after}

-- ---- how many entries are of a station

pub times-append : (s : ℕ) (xs ys : List Entry) → times s (xs ++ ys) ≡ times s xs + times s ys
times-append s [] ys = omega arith
times-append s (e ∷ xs) ys = let rest = times-append s xs ys in omega arith

pub times_here : (e : Entry) (rest : List Entry)
    → times e.station (e ∷ rest) ≡ 1 + times e.station rest
times_here e rest = ap (λ t. cond t 1 0 + times e.station rest) (eq-eqb e.station e.station refl)

pub times_at : (s i : ℕ) (views : List View) (v : View)
    → get_elem? views i ≡ some v
    → times s v.stations ≤ times_in s views
times_at s i [] v at = absurd (some-ne-none v (sym at))
times_at s zero (u ∷ views) v at = let here = ap (λ (w : View). times s w.stations) (some-injective u v at) in omega arith
times_at s (suc i) (u ∷ views) v at = let rest = times_at s i views v at in omega arith

pub times_in-set : (s i : ℕ) (views : List View) (v w : View)
    → get_elem? views i ≡ some v
    → times_in s (set views i w) + times s v.stations ≡ times_in s views + times s w.stations
times_in-set s i [] v w at = absurd (some-ne-none v (sym at))
times_in-set s zero (u ∷ views) v w at = let here = ap (λ (x : View). times s x.stations) (some-injective u v at) in omega arith
times_in-set s (suc i) (u ∷ views) v w at = let rest = times_in-set s i views v w at in omega arith

pub times_in-append : (s : ℕ) (xs ys : List View)
    → times_in s (xs ++ ys) ≡ times_in s xs + times_in s ys
times_in-append s [] ys = omega arith
times_in-append s (v ∷ xs) ys = let rest = times_in-append s xs ys in omega arith

-- ---- a schedule with one event more

-- these acts are the event d of station s, whose record changes
module _ (k : Size) (news acts : List Act) (s : ℕ) (r : Record) (d : Transition)
    (one : AreOneEvent k.dim news s r d) (there : s < k.stations)
    (is : record_of (world_after k acts) s ≡ r) where
  -- the state after them
  pub world_next : world_after k (news ++ acts) ≡ apply_event d s (world_after k acts)
  world_next = apply_all-append news acts (initial k.dim k.stations) ∙ one (world_after k acts) (apply_all_dim acts (initial k.dim k.stations)) (subst (λ count. s < count) (sym (initial_stations k.dim k.stations acts)) there) is

  -- the record of the station
  pub record_next : record_of (world_after k (news ++ acts)) s
      ≡ record {
        phase = d.next (word_of (world_after k acts) d.node);
        trail = d.events
            (word_of (world_after k acts) d.node) ++ r.trail;
      }
  record_next =
      ap (λ (w : State). record_of w s) world_next
      ∙ get_or-set_same (world_after k acts).records s _ _ (subst (λ count. s < count) (sym (initial_stations k.dim k.stations acts)) there)
      ∙ ap (λ (x : Record). record { phase = d.next (word_of (world_after k acts) d.node); trail = d.events (word_of (world_after k acts) d.node) ++ x.trail }) is

  -- and that of another
  record_else : (t : ℕ)
      → t ≢ s
      → record_of (world_after k (news ++ acts)) t ≡ record_of (world_after k acts) t
  record_else t other = ap (λ (w : State). record_of w t) world_next ∙ get_or-set_other (world_after k acts).records s t _ _ other

  -- what was found before
  word_kept : (v x : ℕ) → WasWord k acts v x → WasWord k (news ++ acts) v x
  word_kept v x was = record { later = news ++ was.later; earlier = was.earlier; split = ap (λ l. news ++ l) was.split ∙ sym (append_again news was.later was.earlier); found = was.found }
    where
      append_again : (xs ys zs : List Act) → (xs ++ ys) ++ zs ≡ xs ++ (ys ++ zs)
      append_again [] ys zs = refl
      append_again (x ∷ xs) ys zs = ap (λ l. x ∷ l) (append_again xs ys zs)

  peeks_kept : (peeks : List Peek)
      → All (WasSeen k acts) peeks
      → All (WasSeen k (news ++ acts)) peeks
  peeks_kept peeks had = All-weaker (WasSeen k acts) (WasSeen k (news ++ acts)) (λ g. word_kept g.node g.word) peeks had

  loads_kept : (loads : List ℕ)
      → All (WasWord k acts 0) loads
      → All (WasWord k (news ++ acts) 0) loads
  loads_kept loads had = All-weaker (WasWord k acts 0) (WasWord k (news ++ acts) 0) (word_kept 0) loads had

  entry_else : (e : Entry) → e.station ≢ s → IsEntryOf k acts e → IsEntryOf k (news ++ acts) e
  entry_else e other had = (had.0, record_else e.station other ∙ had.1, peeks_kept e.peeks had.2)

  entries_else : (entries : List Entry)
      → times s entries ≡ 0
      → All (IsEntryOf k acts) entries
      → All (IsEntryOf k (news ++ acts)) entries
  entries_else [] none had = All-nil (IsEntryOf k (news ++ acts))
  entries_else (e ∷ rest) none had = All-cons (IsEntryOf k (news ++ acts)) e rest
      (entry_else e (λ same. not_none same none) (All-head (IsEntryOf k acts) e rest had))
      (entries_else rest (omega arith) (All-tail (IsEntryOf k acts) e rest had))
    where
      not_none : e.station ≡ s → times s (e ∷ rest) ≡ 0 → ⊥
      not_none same no_entry = let here : times s (e ∷ rest) ≡ 1 + times s rest = ap (λ t. cond t 1 0 + times s rest) (eq-eqb e.station s same) in omega arith

  -- a view without the station remains right
  view_else : (v : View) → times s v.stations ≡ 0 → IsView k acts v → IsView k (news ++ acts) v
  view_else v none had = record { stations = entries_else v.stations none had.stations; loads = loads_kept v.loads had.loads; alone = had.alone }

  views_else : (views : List View)
      → times_in s views ≡ 0
      → All (IsView k acts) views
      → All (IsView k (news ++ acts)) views
  views_else [] none had = All-nil (IsView k (news ++ acts))
  views_else (v ∷ rest) none had = All-cons (IsView k (news ++ acts)) v rest (view_else v (omega arith) (All-head (IsView k acts) v rest had)) (views_else rest (omega arith) (All-tail (IsView k acts) v rest had))

  -- the view that has the station is replaced
  views_set : (views : List View) (i : ℕ) (v w : View)
      → get_elem? views i ≡ some v
      → 0 < times s v.stations
      → times_in s views ≤ 1
      → IsView k (news ++ acts) w
      → All (IsView k acts) views
      → All (IsView k (news ++ acts)) (set views i w)
  views_set [] i v w at some_here once new had = absurd (some-ne-none v (sym at))
  views_set (u ∷ rest) zero v w at some_here once new had =
      let here = ap (λ (x : View). times s x.stations) (some-injective u v at) in
      All-cons (IsView k (news ++ acts)) w rest new (views_else rest (omega arith) (All-tail (IsView k acts) u rest had))
  views_set (u ∷ rest) (suc i) v w at some_here once new had =
      let below = times_at s i rest v at in
      All-cons (IsView k (news ++ acts)) u (set rest i w) (view_else u (omega arith) (All-head (IsView k acts) u rest had)) (views_set rest i v w at some_here (omega arith) new (All-tail (IsView k acts) u rest had))

-- a view at its place
pub view_at : (P : View → Type 0) (views : List View) (i : ℕ) (v : View)
    → get_elem? views i ≡ some v
    → All P views
    → P v
view_at P [] i v at had = absurd (some-ne-none v (sym at))
view_at P (u ∷ rest) zero v at had = subst P (some-injective u v at) (All-head P u rest had)
view_at P (u ∷ rest) (suc i) v at had = view_at P rest i v at (All-tail P u rest had)

-- ---- a step of the first station of a seat

-- an event that these acts are, if the word is written as the event writes it. What is learned may
-- depend on the state before it
pub plays_reading : (k : Size) (slots id : ℕ) (v : View) (c : List (ℕ × Unit {0})) (e : Entry)
    (rest : List Entry) (news : List Act) (d : Transition) (node : ℕ) (f : ℕ → ℕ)
    (then : ℕ → Known → Type 0)
    → v.stations ≡ e ∷ rest
    → AreOneEvent k.dim news e.station (record_in e) d
    → d.node ≡ node
    → ((w : ℕ) → f w ≡ d.writes w)
    → ((acts : List Act) (found : ℕ) → IsView k acts v → word_of (world_after k acts) d.node ≡ found
    → then found (record v { stations = entry_after d found e ∷ rest }, c))
    → Allows (IsRuled k) slots id (v, c) node f then
plays_reading k slots id v c e rest news d node f then is one at writes told = subst (λ a. Allows (IsRuled k) slots id (v, c) a f then) at allowed
  where
    allowed : Allows (IsRuled k) slots id (v, c) d.node f then
    allowed t ruled wide me limit = (new, keeps, tt, kept, told acts found had word)
      where
        acts : List Act
        acts = ruled.acts

        found : ℕ
        found = get_or t.words d.node 0

        new : View
        new = record v { stations = entry_after d found e ∷ rest }

        had : IsView k acts v
        had = view_at (IsView k acts) t.views id v me ruled.views

        entries : All (IsEntryOf k acts) (e ∷ rest)
        entries = subst (All (IsEntryOf k acts)) is had.stations

        mine : IsEntryOf k acts e
        mine = All-head (IsEntryOf k acts) e rest entries

        word : word_of (world_after k acts) d.node ≡ found
        word = ap (λ ws. get_or ws d.node 0) (sym ruled.words)

        counts : (s : ℕ) → times s v.stations ≡ times s (e ∷ rest)
        counts s = ap (times s) is

        alone_here : 0 < times e.station v.stations
        alone_here = let all = counts e.station in let one_here = times_here e rest in omega arith

        only : times e.station rest ≡ 0
        only = let all = counts e.station in let one_here = times_here e rest in let below = times_at e.station id t.views v me in let most = ruled.once e.station in omega arith

        new_view : IsView k (news ++ acts) new
        new_view = record {
          stations = All-cons (IsEntryOf k (news ++ acts)) (entry_after d found e) rest (
            mine.0,
            subst (λ x. record_of (world_after k (news ++ acts)) e.station ≡ record { phase = d.next x; trail = d.events x ++ e.trail }) word (record_next k news acts e.station (record_in e) d one mine.0 mine.1),
            peeks_kept k news acts e.station (record_in e) d one mine.0 mine.1 e.peeks mine.2,
          )
              (entries_else k news acts e.station (record_in e) d one mine.0 mine.1 rest only (All-tail (IsEntryOf k acts) e rest entries));
          loads = loads_kept k news acts e.station (record_in e) d one mine.0 mine.1 v.loads had.loads;
          alone = λ marked. record {
            present = λ s below. sym (counts s) ∙ (had.alone marked).present s below;
            resting = subst (λ es. All (λ x. Rattle.cube_core.specs.Phase.IsAtRest x.phase) (others es)) is (had.alone marked).resting;
          };
        }

        kept : IsRuled k (record {
          words = set t.words d.node (f found);
          homes = t.homes;
          views =
              set t.views id new;
        })
        kept = record {
          acts = news ++ acts;
          words =
              ap (λ y. set t.words d.node y) (writes found)
              ∙ ap (λ ws. set ws d.node (d.writes found)) ruled.words
              ∙ ap (λ x. set (world_after k acts).words d.node (d.writes x)) (sym word)
              ∙ ap (λ (w : State). w.words) (sym (world_next k news acts e.station (record_in e) d one mine.0 mine.1));
          views = views_set k news acts e.station (record_in e) d one mine.0 mine.1 t.views id v new me alone_here (ruled.once e.station) new_view ruled.views;
          once = λ s. let sums = times_in-set s id t.views v new me in let same = counts s in let most = ruled.once s in omega arith;
        }

pub plays_first : (k : Size) (slots id : ℕ) (v : View) (c : List (ℕ × Unit {0})) (e : Entry)
    (rest : List Entry) (news : List Act) (d : Transition) (node : ℕ) (f : ℕ → ℕ)
    (then : ℕ → Known → Type 0)
    → v.stations ≡ e ∷ rest
    → AreOneEvent k.dim news e.station (record_in e) d
    → d.node ≡ node
    → ((w : ℕ) → f w ≡ d.writes w)
    → ((found : ℕ) → then found (record v { stations = entry_after d found e ∷ rest }, c))
    → Allows (IsRuled k) slots id (v, c) node f then
plays_first k slots id v c e rest news d node f then is one at writes told = plays_reading k slots id v c e rest news d node f then is one at writes (λ acts found had word. told found)
