-- The rule at the opening, and how it is kept if seats are split, joined or only loaded with.
use Rattle.std.proofs.Common.{◌≡◌, ◌≢◌, ℕ, zero, suc, ◌+◌, ◌^◌, ◌<◌, ◌≤◌, inl, inr, cond, Bool, true, false, eqb, eqb-true, List, [], ◌∷◌, ◌++◌, length, get_or, set, replicate, refl, sym, ◌∙◌, ap, subst, arith, eq-eqb, ne_eqb}
use Rattle.std.specs.Prelude.{All, slice_index}
use Rattle.std.proofs.lemmas.Bool.{true≢false, cases_eq, cases_lt}
use Rattle.std.proofs.lemmas.List.{set-get_or, get_or-replicate, get_or-set_same, get_or-set_other, get_or_past}
use Rattle.std.proofs.lemmas.List.Elements.{All-nil, All-cons, All-head, All-tail, All-append, All-set}
use mathlib.Core.Option.{some, some-injective, some-ne-none}
use lib.ListN.{get_elem?}
use Rattle.atomic_table.specs.Table.{State as Table, keeps, Allows, Splits, Joins, opening}
use Rattle.atomic_table.proofs.Lists.{set_else}
use Rattle.cube_shape.specs.Node.{OnPath}
use Rattle.cube_shape.proofs.PathLemmas.{OnPath-le, child_towards_is}
use Rattle.cube_shape.specs.Node.{child_towards}
use Rattle.status_word.specs.Word.{IsSet}
use Rattle.cube_core.specs.declared.act.Act.{Act}
use Rattle.cube_core.specs.declared.phase.Phase.TheVariants.{Idle, Holding, Retired}
use Rattle.cube_core.specs.Phase.{owned, Owns, IsAtRest}
use Rattle.cube_core.specs.InnerPhase.{stop}
use Rattle.cube_core.specs.Safety.{IsSafe}
use Rattle.cube_core.specs.Schedule.{Record, phase_of, word_of}
use Rattle.cube_core.proofs.RunningLemmas.{lawful_after, initial_stations, closed_words}
use Rattle.tree_steps.specs.declared.view.Entry.{Entry}
use Rattle.tree_steps.specs.declared.view.View.{View}
use Rattle.tree_steps.specs.declared.view.Size.{Size}
use Rattle.tree_steps.specs.Rule.{first, others, times, world_after, IsEntryOf, WasSeen, WasWord, IsView, IsRuled, idle_entry, idle_entries, first_view}
use Rattle.tree_steps.specs.Steps.{Known, KeepsLoad, AreOffPath, IsOffAll, first_alone, without_first, only_first, without_stations, joined, blank}
use Rattle.tree_steps.specs.Alone.{AreAllAtRest, Turns, picked, unpicked, turned_to}
use Rattle.tree_steps.proofs.ClosedLemmas.{closed_world}
use Rattle.tree_steps.proofs.RuleLemmas.{times-append, times_here, times_at, times_in-set, times_in-append, view_at}

-- ---- the opening

idle_below : (s a count : ℕ) → s < a → times s (idle_entries a count) ≡ 0
idle_below s a zero below = refl
idle_below s a (suc count) below =
    let other : times s (idle_entries a (suc count)) ≡ times s (idle_entries (suc a) count) = ap (λ t. cond t 1 0 + times s (idle_entries (suc a) count)) (ne_eqb a s (λ same. omega arith)) ∙ omega arith in
    other ∙ idle_below s (suc a) count (omega arith)

idle_once : (s a count : ℕ) → times s (idle_entries a count) ≤ 1
idle_once s a zero = omega arith
idle_once s a (suc count) = elim (cases_eq a s) [
  | inl same ↦
      let here : times s (idle_entries a (suc count)) ≡ 1 + times s (idle_entries (suc a) count) = ap (λ t. cond t 1 0 + times s (idle_entries (suc a) count)) (eq-eqb a s same) in
      let past = idle_below s (suc a) count (omega arith) in omega arith
  | inr other ↦
      let here : times s (idle_entries a (suc count)) ≡ 0 + times s (idle_entries (suc a) count) = ap (λ t. cond t 1 0 + times s (idle_entries (suc a) count)) (ne_eqb a s other) in
      let past = idle_once s (suc a) count in omega arith
]

idle_entries_of : (k : Size) (a count : ℕ)
    → a + count ≡ k.stations
    → All (IsEntryOf k []) (idle_entries a count)
idle_entries_of k a zero sum = All-nil (IsEntryOf k [])
idle_entries_of k a (suc count) sum = All-cons (IsEntryOf k []) (idle_entry a) (idle_entries (suc a) count)
    (below sum, get_or-replicate k.stations a (record { phase = Idle; trail = [] }) (record { phase = Retired; trail = [] }) (below sum), All-nil (WasSeen k []))
    (idle_entries_of k (suc a) count (omega (arith, sum)))
  where
    below : a + suc count ≡ k.stations → a < k.stations
    below whole = omega (arith, whole)

pub opens : (k : Size) (words : List ℕ)
    → words ≡ replicate (2 ^ (k.dim + 1)) 0
    → IsRuled k (opening words [] (first_view k))
opens k words is = record {
  acts = [];
  words = is;
  views = All-cons (IsView k []) (first_view k) [] (record {
    stations = idle_entries_of k 0 k.stations (omega arith);
    loads = All-nil (WasWord k [] 0);
    alone = λ marked. absurd (true≢false (sym marked));
  }) (All-nil (IsView k []));
  once = λ s. let few = idle_once s 0 k.stations in omega arith;
}

-- ---- splits and joins

-- a view that replaces another, with no more stations
put_view : (k : Size) (acts : List Act) (views : List View) (id : ℕ) (w : View)
    → IsView k acts w
    → All (IsView k acts) views
    → All (IsView k acts) (set views id w)
put_view k acts views id w new had = All-set (IsView k acts) views id w new had

cut_times : (s : ℕ) (entries : List Entry)
    → times s (others entries) + times s (first_alone entries) ≡ times s entries
cut_times s [] = refl
cut_times s (e ∷ rest) = omega arith

cut_rest : (P : Entry → Type 0) (entries : List Entry) → All P entries → All P (others entries)
cut_rest P [] all = all
cut_rest P (e ∷ rest) all = All-tail P e rest all

cut_first : (P : Entry → Type 0) (entries : List Entry)
    → All P entries
    → All P (first_alone entries)
cut_first P [] all = all
cut_first P (e ∷ rest) all = All-cons P e [] (All-head P e rest all) (All-nil P)

pub cuts_first : (k : Size) (id : ℕ) (v : View)
    → Splits (IsRuled k) id v (without_first v) (only_first v)
cuts_first k id v t ruled me = record {
  acts = ruled.acts;
  words = ruled.words;
  views = All-append (IsView k ruled.acts) (set t.views id (without_first v)) (only_first v ∷ [])
      (put_view k ruled.acts t.views id (without_first v) (record { stations = cut_rest (IsEntryOf k ruled.acts) v.stations had.stations; loads = had.loads; alone = λ marked. absurd (true≢false (sym marked)) }) ruled.views)
      (All-cons (IsView k ruled.acts) (only_first v) [] (record { stations = cut_first (IsEntryOf k ruled.acts) v.stations had.stations; loads = All-nil (WasWord k ruled.acts 0); alone = λ marked. absurd (true≢false (sym marked)) }) (All-nil (IsView k ruled.acts)));
  once = λ s.
      let sums = times_in-set s id t.views v (without_first v) me in let all = times_in-append s (set t.views id (without_first v)) (only_first v ∷ []) in let parts = cut_times s v.stations in let most = ruled.once s in omega arith;
}
  where
    had : IsView k ruled.acts v
    had = view_at (IsView k ruled.acts) t.views id v me ruled.views

pub copies_loads : (k : Size) (id : ℕ) (v : View) → Splits (IsRuled k) id v v (without_stations v)
copies_loads k id v t ruled me = record {
  acts = ruled.acts;
  words = ruled.words;
  views = All-append (IsView k ruled.acts) (set t.views id v) (without_stations v ∷ []) (put_view k ruled.acts t.views id v had ruled.views)
      (All-cons (IsView k ruled.acts) (without_stations v) [] (record { stations = All-nil (IsEntryOf k ruled.acts); loads = had.loads; alone = λ marked. absurd (true≢false (sym marked)) }) (All-nil (IsView k ruled.acts)));
  once = λ s. let sums = times_in-set s id t.views v v me in let all = times_in-append s (set t.views id v) (without_stations v ∷ []) in let most = ruled.once s in omega arith;
}
  where
    had : IsView k ruled.acts v
    had = view_at (IsView k ruled.acts) t.views id v me ruled.views

pub merges : (k : Size) (id : ℕ) (v : View) (other : ℕ) (w : View)
    → Joins (IsRuled k) id v other w (joined v w) blank
merges k id v other w t ruled me differ them = record {
  acts = ruled.acts;
  words = ruled.words;
  views = put_view k ruled.acts (set t.views id (joined v w)) other blank (record { stations = All-nil (IsEntryOf k ruled.acts); loads = All-nil (WasWord k ruled.acts 0); alone = λ marked. absurd (true≢false (sym marked)) })
      (put_view k ruled.acts t.views id (joined v w) (record {
        stations = All-append (IsEntryOf k ruled.acts) v.stations w.stations mine.stations theirs.stations;
        loads = All-append (WasWord k ruled.acts 0) v.loads w.loads mine.loads theirs.loads;
        alone = λ marked. absurd (true≢false (sym marked));
      }) ruled.views);
  once = λ s.
      let first = times_in-set s id t.views v (joined v w) me in let then = times_in-set s other (set t.views id (joined v w)) w blank them in
      let both = times-append s v.stations w.stations in let most = ruled.once s in omega arith;
}
  where
    mine : IsView k ruled.acts v
    mine = view_at (IsView k ruled.acts) t.views id v me ruled.views

    theirs : IsView k ruled.acts w
    theirs = view_at (IsView k ruled.acts) t.views other w (sym (set_else t.views id other (joined v w) differ) ∙ them) ruled.views

-- ---- loads that change no station

-- a step that changes no word, with which a view becomes another of the same stations
keeps_word : (k : Size) (slots id : ℕ) (v : View) (c : List (ℕ × Unit {0})) (word : ℕ) (f : ℕ → ℕ)
    (next : ℕ → View) (then : ℕ → Known → Type 0)
    → ((w : ℕ) → f w ≡ w)
    → ((found s : ℕ) → times s (next found).stations ≡ times s v.stations)
    → ((t : Table (Unit {0}) View) (ruled : IsRuled k t) → get_elem? t.views id ≡ some v
    → IsView k ruled.acts v → IsView k ruled.acts (next (get_or t.words word 0))
    × then (get_or t.words word 0) (next (get_or t.words word 0), c))
    → Allows (IsRuled k) slots id (v, c) word f then
keeps_word k slots id v c word f next then keep same known t ruled wide me limit = (
  next (get_or t.words word 0),
  keeps,
  tt,
  record {
    acts = ruled.acts;
    words = ap (set t.words word) (keep (get_or t.words word 0)) ∙ set-get_or t.words word 0 ∙ ruled.words;
    views = put_view k ruled.acts t.views id (next (get_or t.words word 0)) (told.0) ruled.views;
    once = λ s. let sums = times_in-set s id t.views v (next (get_or t.words word 0)) me in let equal = same (get_or t.words word 0) s in let most = ruled.once s in omega arith;
  },
  told.1,
) where
  told : IsView k ruled.acts (next (get_or t.words word 0))
      × then (get_or t.words word 0) (next (get_or t.words word 0), c)
  told = known t ruled me (view_at (IsView k ruled.acts) t.views id v me ruled.views)

-- a load with which a view becomes another of the same stations
pub loads_word : (k : Size) (slots id : ℕ) (v : View) (c : List (ℕ × Unit {0})) (word : ℕ)
    (next : ℕ → View) (then : ℕ → Known → Type 0)
    → ((found s : ℕ) → times s (next found).stations ≡ times s v.stations)
    → ((t : Table (Unit {0}) View) (ruled : IsRuled k t) → get_elem? t.views id ≡ some v
    → IsView k ruled.acts v → IsView k ruled.acts (next (get_or t.words word 0))
    × then (get_or t.words word 0) (next (get_or t.words word 0), c))
    → Allows (IsRuled k) slots id (v, c) word (λ w. w) then
loads_word k slots id v c word next then same known = keeps_word k slots id v c word (λ w. w) next then (λ w. refl) same known

-- each station that has retired has a bit in the roll
retired_bits : (k : Size) (acts : List Act) (entries : List Entry)
    → All (IsEntryOf k acts) entries
    → All (λ e. e.phase ≡ Retired → IsSet (word_of (world_after k acts) 0) e.station) entries
retired_bits k acts [] all = All-nil (λ e. e.phase ≡ Retired → IsSet (word_of (world_after k acts) 0) e.station)
retired_bits k acts (e ∷ rest) all = All-cons (λ x. x.phase ≡ Retired → IsSet (word_of (world_after k acts) 0) x.station) e rest here (retired_bits k acts rest (All-tail (IsEntryOf k acts) e rest all))
  where
    mine : IsEntryOf k acts e
    mine = All-head (IsEntryOf k acts) e rest all

    here : e.phase ≡ Retired → IsSet (word_of (world_after k acts) 0) e.station
    here gone = ((lawful_after k.dim k.stations acts).roll e.station (subst (λ count. e.station < count) (sym (initial_stations k.dim k.stations acts)) mine.0)).1 (ap (λ (r : Record). r.phase) mine.1 ∙ gone)

pub loads_roll : (k : Size) (slots id : ℕ) (m : Known)
    → Allows (IsRuled k) slots id m 0 (λ w. w)
    (λ found after. ◌≡◌ {A = ℕ} 0 0 → KeepsLoad m found after)
loads_roll k slots id m = loads_word k slots id m.0 m.1 0 (λ found. record m.0 { loads = found ∷ m.0.loads }) (λ found after. ◌≡◌ {A = ℕ} 0 0 → KeepsLoad m found after) (λ found s. refl) known
  where
    known : (t : Table (Unit {0}) View) (ruled : IsRuled k t)
        → get_elem? t.views id ≡ some m.0
        → IsView k ruled.acts m.0
        → IsView k ruled.acts (record m.0 { loads = get_or t.words 0 0 ∷ m.0.loads })
        × (◌≡◌ {A = ℕ} 0 0 → KeepsLoad m (get_or t.words 0 0)
        (record m.0 { loads = get_or t.words 0 0 ∷ m.0.loads }, m.1))
    known t ruled me had = (
      record {
        stations = had.stations;
        loads = All-cons (WasWord k ruled.acts 0) (get_or t.words 0 0) m.0.loads (record { later = []; earlier = ruled.acts; split = refl; found = sym roll }) had.loads;
        alone = had.alone;
      },
      λ _. record { kept = refl; bits = subst (λ w. All (λ e. e.phase ≡ Retired → IsSet w e.station) m.0.stations) (sym roll) (retired_bits k ruled.acts m.0.stations had.stations) },
    ) where
      roll : get_or t.words 0 0 ≡ word_of (world_after k ruled.acts) 0
      roll = ap (λ ws. get_or ws 0 0) ruled.words

-- ---- two stations that hold regions

-- of two stations that hold regions, neither node is on the other's path
not_over : (k : Size) (acts : List Act) (s t v w : ℕ)
    → s ≢ t
    → phase_of (world_after k acts) s ≡ Holding v
    → phase_of (world_after k acts) t ≡ Holding w
    → OnPath v w
    → ⊥
not_over k acts s t v w other by_s by_t on = elim (cases_eq v w) [
  | inl same ↦ other (safe.one_owner s t v (owns_s) (positive, ap owned by_t ∙ sym same))
  | inr differ ↦
      let child = child_towards_is v w on (below (OnPath-le v w on) differ) in
      safe.not_passed s t (child_towards v w) (subst (λ p. Owns (phase_of (world_after k acts) s) p) (sym child.0) owns_s)
      (subst (λ h. OnPath (child_towards v w) h) (sym (ap owned by_t)) child.1, above (ap stop by_t) child.0)
]
  where
    safe : IsSafe (world_after k acts)
    safe = (lawful_after k.dim k.stations acts).safe

    positive : 0 < v
    positive = on.0

    owns_s : Owns (phase_of (world_after k acts) s) v
    owns_s = (positive, ap owned by_s)

    below : v ≤ w → v ≢ w → v < w
    below le differ = omega arith

    above : {x y : ℕ} → x ≡ 0 → y ≡ v → x < y
    above none is = omega (arith, positive)

-- what a station holds does not overlap what each other one of its seat holds
off_each : (k : Size) (acts : List Act) (a : Entry) (rest : List Entry)
    → IsEntryOf k acts a
    → times a.station rest ≡ 0
    → All (IsEntryOf k acts) rest
    → All (AreOffPath a) rest
off_each k acts a [] of_a none all = All-nil (AreOffPath a)
off_each k acts a (b ∷ rest) of_a none all = All-cons (AreOffPath a) b rest off (off_each k acts a rest of_a (omega (arith, none)) (All-tail (IsEntryOf k acts) b rest all))
  where
    of_b : IsEntryOf k acts b
    of_b = All-head (IsEntryOf k acts) b rest all

    at_a : {v : ℕ} → a.phase ≡ Holding v → phase_of (world_after k acts) a.station ≡ Holding v
    at_a holds = ap (λ (r : Record). r.phase) of_a.1 ∙ holds

    at_b : {v : ℕ} → b.phase ≡ Holding v → phase_of (world_after k acts) b.station ≡ Holding v
    at_b holds = ap (λ (r : Record). r.phase) of_b.1 ∙ holds

    other : a.station ≢ b.station
    other same = let here : times a.station (b ∷ rest) ≡ 1 + times a.station rest = ap (λ t. cond t 1 0 + times a.station rest) (eq-eqb b.station a.station (sym same)) in omega (arith, here, none)

    off : AreOffPath a b
    off v w holds_a holds_b on = elim on [
      | inl over ↦ not_over k acts a.station b.station v w other (at_a holds_a) (at_b holds_b) over
      | inr under ↦ not_over k acts b.station a.station w v (λ e. other (sym e)) (at_b holds_b) (at_a holds_a) under
    ]

off_all : (k : Size) (acts : List Act) (entries : List Entry)
    → ((s : ℕ) → times s entries ≤ 1)
    → All (IsEntryOf k acts) entries
    → IsOffAll entries
off_all k acts [] once all = All-nil (AreOffPath (first []))
off_all k acts (a ∷ rest) once all = off_each k acts a rest (All-head (IsEntryOf k acts) a rest all) none (All-tail (IsEntryOf k acts) a rest all)
  where
    none : times a.station rest ≡ 0
    none = let here = times_here a rest in let most = once a.station in omega (arith, here, most)

pub compares : (k : Size) (slots id : ℕ) (m : Known)
    → Allows (IsRuled k) slots id m 0 (λ w. w) (λ found after. (after ≡ m) × IsOffAll m.0.stations)
compares k slots id m = loads_word k slots id m.0 m.1 0 (λ _. m.0) (λ found after. (after ≡ m) × IsOffAll m.0.stations) (λ found s. refl) known
  where
    known : (t : Table (Unit {0}) View) (ruled : IsRuled k t)
        → get_elem? t.views id ≡ some m.0
        → IsView k ruled.acts m.0
        → IsView k ruled.acts m.0 × ((m ≡ m) × IsOffAll m.0.stations)
    known t ruled me had = (had, (refl, off_all k ruled.acts m.0.stations (λ s. let below = times_at s id t.views m.0 me in let most = ruled.once s in omega (arith, below, most)) had.stations))

-- ---- the record of a station is moved to the front

-- both parts of a list by the test of its first entry
turned_times_by : (t s : ℕ) (e : Entry) (rest : List Entry) (b : Bool)
    → times t (picked s rest ++ unpicked s rest) ≡ times t rest
    → times t (cond b (e ∷ []) (picked s rest) ++ cond b rest (e ∷ unpicked s rest))
    ≡ times t (e ∷ rest)
turned_times_by t s e rest true had = refl
turned_times_by t s e rest false had =
    let apart = times-append t (picked s rest) (e ∷ unpicked s rest) in let joint = times-append t (picked s rest) (unpicked s rest) in omega (arith, apart, joint, had)

pub turned_times : (t s : ℕ) (entries : List Entry)
    → times t (picked s entries ++ unpicked s entries) ≡ times t entries
turned_times t s [] = refl
turned_times t s (e ∷ rest) = turned_times_by t s e rest (eqb e.station s) (turned_times t s rest)

picked_all : (P : Entry → Type 0) (s : ℕ) (entries : List Entry)
    → All P entries
    → All P (picked s entries) × All P (unpicked s entries)
picked_all P s [] all = (all, all)
picked_all P s (e ∷ rest) all = by_test (eqb e.station s) (picked_all P s rest (All-tail P e rest all))
  where
    by_test : (b : Bool)
        → All P (picked s rest) × All P (unpicked s rest)
        → All P (cond b (e ∷ []) (picked s rest)) × All P (cond b rest (e ∷ unpicked s rest))
    by_test true had = (All-cons P e [] (All-head P e rest all) (All-nil P), All-tail P e rest all)
    by_test false had = (had.0, All-cons P e (unpicked s rest) (All-head P e rest all) had.1)

pub turned_all : (P : Entry → Type 0) (s : ℕ) (entries : List Entry)
    → All P entries
    → All P (picked s entries ++ unpicked s entries)
turned_all P s entries all = let parts = picked_all P s entries all in All-append P (picked s entries) (unpicked s entries) parts.0 parts.1

pub others_all : (P : Entry → Type 0) (entries : List Entry)
    → All P entries
    → All P (others entries)
others_all = cut_rest

-- if the station is in the list, its record is the first
pub picked_is : (s : ℕ) (entries : List Entry)
    → 0 < times s entries
    → (e : Entry) × (picked s entries ≡ e ∷ []) × (e.station ≡ s)
picked_is s [] some_here = absurd (omega (arith, some_here))
picked_is s (e ∷ rest) some_here = by_test (eqb e.station s) refl some_here (picked_is s rest)
  where
    by_test : (b : Bool)
        → eqb e.station s ≡ b
        → 0 < cond b 1 0 + times s rest
        → (0 < times s rest → (x : Entry) × (picked s rest ≡ x ∷ []) × (x.station ≡ s))
        → (x : Entry) × (cond b (e ∷ []) (picked s rest) ≡ x ∷ []) × (x.station ≡ s)
    by_test true is more later = (e, refl, eqb-true e.station s is)
    by_test false is more later = later (omega (arith, more))

-- a number that is exchanged for itself
pub same_exchanged : (w s : ℕ) → cond (eqb w s) s w ≡ w
same_exchanged w s = by_test (eqb w s) refl
  where
    by_test : (b : Bool) → eqb w s ≡ b → cond b s w ≡ w
    by_test true is = sym (eqb-true w s is)
    by_test false is = refl

pub turns : (k : Size) (slots id s : ℕ) (m : Known) (f : ℕ → ℕ)
    → ((w : ℕ) → f w ≡ w)
    → AreAllAtRest k.stations m
    → Allows (IsRuled k) slots id m 0 f (λ found after. Turns s m after)
turns k slots id s m f keep all = keeps_word k slots id m.0 m.1 0 f (λ _. (turned_to s m).0) (λ found after. Turns s m after) keep (λ found t. turned_times t s m.0.stations) known
  where
    known : (t : Table (Unit {0}) View) (ruled : IsRuled k t)
        → get_elem? t.views id ≡ some m.0
        → IsView k ruled.acts m.0
        → IsView k ruled.acts (turned_to s m).0 × Turns s m (turned_to s m)
    known t ruled me had = (
      record {
        stations = turned_all (IsEntryOf k ruled.acts) s m.0.stations had.stations;
        loads = had.loads;
        alone = λ _. record {
          present = λ u below. let some_here = all.present u below in let most = once u in let same = turned_times u s m.0.stations in omega (arith, some_here, most, same);
          resting = others_all (λ e. IsAtRest e.phase) (picked s m.0.stations ++ unpicked s m.0.stations) (turned_all (λ e. IsAtRest e.phase) s m.0.stations all.resting);
        };
      },
      record { seat = refl; once = once },
    ) where
      once : (u : ℕ) → times u m.0.stations ≤ 1
      once u = let below = times_at u id t.views m.0 me in let most = ruled.once u in omega (arith, below, most)

-- ---- the end

-- if a load of the roll found the bit of each station, each node's word is 0 from then on
pub closes : (k : Size) (t : Table (Unit {0}) View) (id : ℕ) (v : View) (roll : ℕ)
    (earlier : List ℕ)
    → IsRuled k t
    → get_elem? t.views id ≡ some v
    → v.loads ≡ roll ∷ earlier
    → ((s : ℕ) → s < k.stations → IsSet roll s)
    → (node : ℕ)
    → 0 < node
    → get_or t.words node 0 ≡ 0
closes k t id v roll earlier ruled me loads whole node positive =
    ap (λ ws. get_or ws node 0) (ruled.words ∙ ap (λ acts. (world_after k acts).words) was.split)
    ∙ closed_words k.dim k.stations was.later was.earlier (λ s below. subst (λ w. IsSet w s) (sym was.found) (whole s below)) node positive
  where
    was : WasWord k ruled.acts 0 roll
    was = All-head (WasWord k ruled.acts 0) roll earlier (subst (All (WasWord k ruled.acts 0)) loads (view_at (IsView k ruled.acts) t.views id v me ruled.views).loads)

-- and the roll is what that load found
pub roll_stays : (k : Size) (t : Table (Unit {0}) View) (id : ℕ) (v : View) (roll : ℕ)
    (earlier : List ℕ)
    → IsRuled k t
    → get_elem? t.views id ≡ some v
    → v.loads ≡ roll ∷ earlier
    → ((s : ℕ) → s < k.stations → IsSet roll s)
    → get_or t.words 0 0 ≡ roll
roll_stays k t id v roll earlier ruled me loads whole =
    ap (λ ws. get_or ws 0 0) ruled.words
    ∙ ap (λ acts. word_of (world_after k acts) 0) was.split
    ∙ ap (λ w. word_of w 0) (closed_world k was.later was.earlier (λ s below. subst (λ w. IsSet w s) (sym was.found) (whole s below)))
    ∙ was.found
  where
    was : WasWord k ruled.acts 0 roll
    was = All-head (WasWord k ruled.acts 0) roll earlier (subst (All (WasWord k ruled.acts 0)) loads (view_at (IsView k ruled.acts) t.views id v me ruled.views).loads)

-- words that are copied one by one
read_at : (words : List ℕ) (i x : ℕ) → get_elem? words i ≡ some x → get_or words i 0 ≡ x
read_at [] i x at = absurd (some-ne-none x (sym at))
read_at (w ∷ words) zero x at = some-injective w x at
read_at (w ∷ words) (suc i) x at = read_at words i x at

pub copied_more : (room words : List ℕ) (i x : ℕ)
    → i < length room
    → get_elem? words i ≡ some x
    → ((k : ℕ) → k < i → slice_index room k ≡ slice_index words k)
    → (k : ℕ)
    → k < i + 1
    → slice_index (set room i x) k ≡ slice_index words k
copied_more room words i x there at had k below = elim (cases_eq k i) [
  | inl here ↦ ap (λ j. get_or (set room i x) j 0) here ∙ get_or-set_same room i x 0 there ∙ sym (read_at words i x at) ∙ ap (λ j. get_or words j 0) (sym here)
  | inr other ↦ get_or-set_other room i k x 0 other ∙ had k (omega arith)
]

-- a word that is copied
pub copied_one : (room words : List ℕ) (n i x : ℕ)
    → length room ≤ n
    → i < length room
    → ((k : ℕ) → k < n → slice_index room k ≡ slice_index words k)
    → get_or words i 0 ≡ x
    → slice_index room i ≡ x
copied_one room words n i x len there had is = had i (omega arith) ∙ is

pub copied_all : (room words : List ℕ) (n : ℕ)
    → length room ≤ n
    → ((k : ℕ) → k < n → slice_index room k ≡ slice_index words k)
    → (node : ℕ)
    → get_or words node 0 ≡ 0
    → slice_index room node ≡ 0
copied_all room words n len had node none = elim (cases_lt node n) [
  | inl below ↦ had node below ∙ none
  | inr past ↦ get_or_past room node 0 (omega arith)
]
