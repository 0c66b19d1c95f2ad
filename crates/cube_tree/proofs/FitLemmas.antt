-- What the stations of a seat hold, and which regions are free.
use Rattle.std.proofs.Common.{◌≡◌, ◌≢◌, ℕ, ◌+◌, ◌-◌, ◌^◌, ◌<◌, ◌≤◌, ◌⊎◌, inl, inr, List, [], length, set, replicate, Option, Some, None, Result, Ok, Err, refl, sym, ◌∙◌, ap, subst, arith}
use Rattle.std.specs.Prelude.{All, Any, IsSome, IfSome}
use Rattle.std.proofs.lemmas.Bool.{cases_eq, cases_lt}
use Rattle.std.proofs.lemmas.List.{get_or-set_same, get_or-set_other, get_or_past, get_or-replicate, length-set, length-replicate}
use Rattle.std.proofs.lemmas.List.Elements.{All-weaker}
use Rattle.cube_shape.specs.declared.node.Node.{Node}
use Rattle.cube_shape.specs.declared.region.Region.{Region}
use Rattle.cube_shape.specs.Node.{IsInCube, OnPath}
use Rattle.cube_shape.specs.Region.{AreApart, IsAligned, block}
use Rattle.cube_shape.specs.Machine.{Gives, HasNoFit, IsFirstFit, IsFree, IsLawful, TakesBack}
use Rattle.cube_shape.proofs.RegionLemmas.{AreApart-paths, AreApart-sym, IsNodeOf-one_region}
use Rattle.cube_core.specs.declared.phase.Phase.{Phase}
use Rattle.cube_core.specs.declared.phase.Phase.TheVariants.{Idle, Holding}
use Rattle.cube_core.specs.Phase.{IsAtRest}
use Rattle.cube_core.specs.Held.{region_at}
use Rattle.cube_core.proofs.RunningLemmas.{region_named}
use Rattle.tree_steps.specs.declared.view.Entry.{Entry}
use Rattle.tree_steps.specs.Rule.{times}
use Rattle.tree_steps.specs.Steps.{Known, first_of, AreOffPath, IsOffAll}
use Rattle.tree_steps.specs.declared.why.Why.{Why}
use Rattle.tree_steps.specs.declared.why.Why.TheVariants.{InUse, Lost, Under}
use Rattle.tree_steps.specs.Answer.{ancestor_of}
use Rattle.tree_steps.specs.Alone.{AreAllAtRest, IsBlocked, HasHolder, unpicked}
use Rattle.tree_steps.proofs.AloneLemmas.{any_of_all, entry_there, under_blocked}
use Rattle.cube_tree.specs.Slots.{Represents, node_of_station, region_of_slot, holdings, phase_of_slot}
use Rattle.cube_tree.specs.InnerSolo.{AreBlocked, HasPhase, IsMoved, TakesFirst}
use Rattle.cube_tree.specs.InnerSearch.{NamesAncestor, IsUnder, IsNodeAfter}
use Rattle.cube_tree.proofs.SearchLemmas.{is_between}
use Rattle.cube_tree.proofs.MovedLemmas.{all_both, moved_all, moved_present, none_there, times_unpicked, unpicked_all}
use Rattle.cube_tree.proofs.TryLemmas.{node_of_level}

-- ---- what a slot says

slot_at_rest : (o : Option Node) → IsAtRest (phase_of_slot o)
slot_at_rest None = tt
slot_at_rest (Some v) = tt

none_or_some : {A : Type 0} {a : A} → ◌≡◌ {A = Option A} None (Some a) → ⊥
none_or_some e = cc

pub ok_or_err : {T E : Type 0} {x : T} {e : E} → ◌≡◌ {A = Result T E} (Ok x) (Err e) → ⊥
ok_or_err is = cc

same_some : {A : Type 0} {a b : A} → ◌≡◌ {A = Option A} (Some a) (Some b) → a ≡ b
same_some e = cc

pub idle_or_holding : {h : ℕ} → ◌≡◌ {A = Phase} Idle (Holding h) → ⊥
idle_or_holding e = cc

pub same_holding : {v h : ℕ} → ◌≡◌ {A = Phase} (Holding v) (Holding h) → v ≡ h
same_holding e = cc

pub slot_of_phase : (o : Option Node) (h : ℕ)
    → phase_of_slot o ≡ Holding h
    → (w : Node) × (o ≡ Some w) × (w.0 ≡ h)
slot_of_phase None h is = absurd (idle_or_holding is)
slot_of_phase (Some w) h is = (w, refl, same_holding is)

pub slot_of_region : (n : ℕ) (o : Option Node) (a : Region)
    → region_of_slot n o ≡ Some a
    → (w : Node) × (o ≡ Some w) × (region_at n w.0 ≡ a)
slot_of_region n None a is = absurd (none_or_some is)
slot_of_region n (Some w) a is = (w, refl, same_some is)

-- a region is held if the slot has a node
pub some_slot : (n : ℕ) (o : Option Node) → IsSome o → IsSome (region_of_slot n o)
some_slot n None is = is
some_slot n (Some w) is = is

pub slot_some : (n : ℕ) (o : Option Node) → IsSome (region_of_slot n o) → IsSome o
slot_some n None is = is
slot_some n (Some w) is = is

pub not_some : {A : Type 0} (o : Option A) → o ≡ None → IsSome o → ⊥
not_some None is has = cc
not_some (Some w) is has = none_or_some (sym is)

pub none_slot : (n : ℕ) (o : Option Node) → o ≡ None → region_of_slot n o ≡ None
none_slot n o is = ap (region_of_slot n) is

-- nothing is held past the list
pub slot_there : (nodes : List (Option Node)) (s : ℕ) (v : Node)
    → node_of_station nodes s ≡ Some v
    → s < length nodes
slot_there nodes s v is = elim (cases_lt s (length nodes)) [ inl there ↦ there | inr past ↦ absurd (none_or_some (sym (get_or_past nodes s None past) ∙ is)) ]

-- an empty list of slots
pub empty_slots : (count s : ℕ) → node_of_station (replicate count None) s ≡ None
empty_slots count s = elim (cases_lt s count) [
  | inl below ↦ get_or-replicate count s None None below
  | inr past ↦ let size = length-replicate {A = Option Node} count None in get_or_past (replicate count None) s None (omega (arith, size, past))
]

-- ---- a seat and the list of its slots

module _ {n count : ℕ} {nodes : List (Option Node)} {m : Known}
    (state : Represents n count nodes m) where
  pub at_rest : AreAllAtRest count m
  at_rest = record { present = state.present; resting = All-weaker (λ e. e.phase ≡ phase_of_slot (node_of_station nodes e.station)) (λ e. IsAtRest e.phase) (λ e is. subst IsAtRest (sym is) (slot_at_rest (node_of_station nodes e.station))) m.0.stations state.phases }

  pub phase_is : (s : ℕ) (o : Option Node)
      → node_of_station nodes s ≡ o
      → HasPhase s (phase_of_slot o) m
  phase_is s o slot = All-weaker (λ e. e.phase ≡ phase_of_slot (node_of_station nodes e.station)) (λ e. e.station ≡ s → e.phase ≡ phase_of_slot o) (λ e is same. is ∙ ap (λ t. phase_of_slot (node_of_station nodes t)) same ∙ ap phase_of_slot slot) m.0.stations state.phases

  pub is_lawful : IsLawful n (holdings n nodes)
  is_lawful = record { aligned = aligned; apart = apart }
    where
      aligned : (s : ℕ) (a : Region) → holdings n nodes s ≡ Some a → IsAligned n a
      aligned s a held = let slot = slot_of_region n (node_of_station nodes s) a held in
          let named = region_named n slot.0.0 (state.in_cube s slot.0 slot.1) in
          subst (IsAligned n) slot.2 (named.0, (named.1.0, named.1.1, named.1.2))

      apart : (s t : ℕ) (a b : Region)
          → s ≢ t
          → holdings n nodes s ≡ Some a
          → holdings n nodes t ≡ Some b
          → AreApart a b
      apart s t a b other held_a held_b =
          let first = slot_of_region n (node_of_station nodes s) a held_a in
          let second = slot_of_region n (node_of_station nodes t) b held_b in
          subst (λ x. AreApart x b) first.2 (subst (AreApart (region_at n first.0.0)) second.2 (state.apart s t first.0 second.0 other first.1 second.1))

  -- the region of a node that is blocked is not free
  pub blocked_not_free : (s v : ℕ)
      → IsInCube n v
      → IsBlocked v (unpicked s m.0.stations)
      → IsFree (holdings n nodes) (region_at n v)
      → ⊥
  blocked_not_free s v in_cube blocked free =
      found (any_of_all (λ e. (h : ℕ) × (e.phase ≡ Holding h) × (OnPath v h ⊎ OnPath h v)) (λ e. e.phase ≡ phase_of_slot (node_of_station nodes e.station)) (λ e. ⊥) (unpicked s m.0.stations) clash blocked (unpicked_all (λ e. e.phase ≡ phase_of_slot (node_of_station nodes e.station)) s m.0.stations state.phases))
    where
      found : Any (λ e. ⊥) (unpicked s m.0.stations) → ⊥
      found (i, e, within, is, no_one) = no_one

      clash : (e : Entry)
          → (h : ℕ) × (e.phase ≡ Holding h) × (OnPath v h ⊎ OnPath h v)
          → e.phase ≡ phase_of_slot (node_of_station nodes e.station)
          → ⊥
      clash e (h, holds, on) is =
          let slot = slot_of_phase (node_of_station nodes e.station) h (sym is ∙ holds) in
          let apart = free e.station (region_at n slot.0.0) (ap (region_of_slot n) slot.1) in
          let paths = AreApart-paths n v slot.0.0 (region_at n v) (region_at n slot.0.0) (region_named n v in_cube) (region_named n slot.0.0 (state.in_cube e.station slot.0 slot.1)) in
          paths.0 (AreApart-sym (region_at n slot.0.0) (region_at n v) apart) (subst (λ x. OnPath v x ⊎ OnPath x v) (sym slot.2) on)

  -- the region that a station has taken overlaps no held one
  pub off_free : (s v : ℕ) (new : Known)
      → IsInCube n v
      → node_of_station nodes s ≡ None
      → IsMoved s (Holding v) m new
      → IsOffAll new.0.stations
      → IsFree (holdings n nodes) (region_at n v)
  off_free s v new in_cube idle moved off t a held = subst (λ x. AreApart x (region_at n v)) slot.2 (found (any_of_all (λ e. e.station ≡ t) (λ e. AreOffPath (first_of new) e × (e.phase ≡ phase_of_slot (node_of_station nodes e.station))) (λ e. AreApart (region_at n slot.0.0) (region_at n v)) (unpicked s m.0.stations) from there both))
    where
      slot : (w : Node) × (node_of_station nodes t ≡ Some w) × (region_at n w.0 ≡ a)
      slot = slot_of_region n (node_of_station nodes t) a held

      other : t ≢ s
      other same = none_or_some (sym idle ∙ ap (node_of_station nodes) (sym same) ∙ slot.1)

      below : t < count
      below = let there = slot_there nodes t slot.0 slot.1 in let size = state.slot_count in omega (arith, there, size)

      there : Any (λ e. e.station ≡ t) (unpicked s m.0.stations)
      there = let some_here = state.present t below in let same = times_unpicked t s m.0.stations other in entry_there t (unpicked s m.0.stations) (omega (arith, some_here, same))

      both : All (λ e. AreOffPath (first_of new) e
          × (e.phase ≡ phase_of_slot (node_of_station nodes e.station))) (unpicked s m.0.stations)
      both = all_both (AreOffPath (first_of new)) (λ e. e.phase ≡ phase_of_slot (node_of_station nodes e.station)) (λ e. AreOffPath (first_of new) e × (e.phase ≡ phase_of_slot (node_of_station nodes e.station))) (unpicked s m.0.stations) (λ e o p. (o, p))
          (subst (All (AreOffPath (first_of new))) moved.rest off)
          (unpicked_all (λ e. e.phase ≡ phase_of_slot (node_of_station nodes e.station)) s m.0.stations state.phases)

      from : (e : Entry)
          → e.station ≡ t
          → AreOffPath (first_of new) e × (e.phase
          ≡ phase_of_slot (node_of_station nodes e.station))
          → AreApart (region_at n slot.0.0) (region_at n v)
      from e same (apart, is) = AreApart-sym (region_at n v) (region_at n slot.0.0)
          ((AreApart-paths n v slot.0.0 (region_at n v) (region_at n slot.0.0) (region_named n v in_cube) (region_named n slot.0.0 (state.in_cube t slot.0 slot.1))).1
          (apart v slot.0.0 moved.at.phase (is ∙ ap (λ u. phase_of_slot (node_of_station nodes u)) same ∙ ap phase_of_slot slot.1)))

      found : Any (λ e. AreApart (region_at n slot.0.0) (region_at n v)) (unpicked s m.0.stations)
          → AreApart (region_at n slot.0.0) (region_at n v)
      found (i, e, within, is, apart) = apart

-- ---- regions of a level

pub region_of_level : (n k m : ℕ)
    → k ≤ n
    → m < 2 ^ (n - k)
    → region_at n (2 ^ (n - k) + m) ≡ block k m
region_of_level n k m le below = IsNodeOf-one_region n (2 ^ (n - k) + m) (region_at n (2 ^ (n - k) + m)) (block k m) (region_named n (2 ^ (n - k) + m) (node_of_level n k m le below).0) (le, (m, below, refl, refl))

pub no_fit_below : {n count k m : ℕ} {nodes : List (Option Node)} {seat : Known}
    → Represents n count nodes seat
    → (s : ℕ)
    → k ≤ n
    → m ≤ 2 ^ (n - k)
    → AreBlocked (n - k) m (unpicked s seat.0.stations)
    → (i : ℕ)
    → i < m
    → IsFree (holdings n nodes) (block k i)
    → ⊥
no_fit_below {n = n} {k = k} {nodes = nodes} state s le most blocked i below free =
    blocked_not_free state s (2 ^ (n - k) + i) (node_of_level n k i le (omega (arith, below, most))).0 (blocked i below) (subst (IsFree (holdings n nodes)) (sym (region_of_level n k i le (omega (arith, below, most)))) free)

-- ---- the list of slots after one is written

module _ (nodes : List (Option Node)) (s : ℕ) (o : Option Node) where
  written_here : s < length nodes → node_of_station (set nodes s o) s ≡ o
  written_here there = get_or-set_same nodes s o None there

  written_else : (t : ℕ) → t ≢ s → node_of_station (set nodes s o) t ≡ node_of_station nodes t
  written_else t other = get_or-set_other nodes s t o None other

module _ {n count : ℕ} {nodes : List (Option Node)} {old new : Known}
    (state : Represents n count nodes old) (s : ℕ) (there : s < count) (o : Option Node)
    (moved : IsMoved s (phase_of_slot o) old new) where
  within : s < length nodes
  within = let size = state.slot_count in omega (arith, size, there)

  pub after_move : ((v : Node) → o ≡ Some v → IsInCube n v.0
      × IsFree (holdings n (set nodes s None)) (region_at n v.0))
      → Represents n count (set nodes s o) new
  after_move fits = record {
    slot_count = length-set nodes s o ∙ state.slot_count;
    present = λ t below. moved_present moved t (state.present t below);
    phases = moved_all moved (λ e. e.phase ≡ phase_of_slot (node_of_station (set nodes s o) e.station))
        (all_both (λ e. e.phase ≡ phase_of_slot (node_of_station nodes e.station)) (λ e. e.station ≢ s) (λ e. e.phase ≡ phase_of_slot (node_of_station (set nodes s o) e.station)) (unpicked s old.0.stations)
        (λ e is other. is ∙ ap phase_of_slot (sym (written_else nodes s o e.station other)))
        (unpicked_all (λ e. e.phase ≡ phase_of_slot (node_of_station nodes e.station)) s old.0.stations state.phases)
        (none_there s (unpicked s old.0.stations) moved.once))
        (moved.at.phase ∙ ap phase_of_slot (sym (written_here nodes s o within)) ∙ ap (λ t. phase_of_slot (node_of_station (set nodes s o) t)) (sym moved.number));
    in_cube = in_cube;
    apart = apart;
    slots = moved.slots ∙ state.slots;
  }
    where
      own : (v : Node) → node_of_station (set nodes s o) s ≡ Some v → o ≡ Some v
      own v is = sym (written_here nodes s o within) ∙ is

      in_cube : (t : ℕ) (v : Node) → node_of_station (set nodes s o) t ≡ Some v → IsInCube n v.0
      in_cube t v is = elim (cases_eq t s) [
        | inl same ↦ (fits v (own v (ap (node_of_station (set nodes s o)) (sym same) ∙ is))).0
        | inr other ↦ state.in_cube t v (sym (written_else nodes s o t other) ∙ is)
      ]

      -- the other's region and the one that is written
      apart_from : (t : ℕ) (v w : Node)
          → t ≢ s
          → node_of_station (set nodes s o) t ≡ Some v
          → o ≡ Some w
          → AreApart (region_at n v.0) (region_at n w.0)
      apart_from t v w other is is_own = (fits w is_own).1 t (region_at n v.0) (ap (region_of_slot n) (written_else nodes s None t other ∙ sym (written_else nodes s o t other) ∙ is))

      apart : (t u : ℕ) (v w : Node)
          → t ≢ u
          → node_of_station (set nodes s o) t ≡ Some v
          → node_of_station (set nodes s o) u ≡ Some w
          → AreApart (region_at n v.0) (region_at n w.0)
      apart t u v w differ is_t is_u = elim (cases_eq t s) [
        | inl same ↦ AreApart-sym (region_at n w.0) (region_at n v.0) (apart_from u w v (λ e. differ (same ∙ sym e)) is_u (own v (ap (node_of_station (set nodes s o)) (sym same) ∙ is_t)))
        | inr t_other ↦ elim (cases_eq u s) [
          | inl same ↦ apart_from t v w t_other is_t (own w (ap (node_of_station (set nodes s o)) (sym same) ∙ is_u))
          | inr u_other ↦ state.apart t u v w differ (sym (written_else nodes s o t t_other) ∙ is_t) (sym (written_else nodes s o u u_other) ∙ is_u)
        ]
      ]

  pub holds_now : holdings n (set nodes s o) s ≡ region_of_slot n o
  holds_now = ap (region_of_slot n) (written_here nodes s o within)

  pub holds_else : (t : ℕ) → t ≢ s → holdings n (set nodes s o) t ≡ holdings n nodes t
  holds_else t other = ap (region_of_slot n) (written_else nodes s o t other)

-- ---- a take of an idle station

-- a station that holds nothing is not one of those that hold something
idle_free : (n : ℕ) (nodes : List (Option Node)) (s : ℕ) (r : Region)
    → node_of_station nodes s ≡ None
    → IsFree (holdings n nodes) r
    → IsFree (holdings n (set nodes s None)) r
idle_free n nodes s r idle free t a held = elim (cases_eq t s) [
  | inl same ↦ elim (cases_lt s (length nodes)) [
    | inl there ↦ absurd (none_or_some (sym (ap (region_of_slot n) (written_here nodes s None there)) ∙ ap (holdings n (set nodes s None)) (sym same) ∙ held))
    | inr past ↦ absurd (none_or_some (sym (ap (region_of_slot n) (get_or_past (set nodes s None) s None (let size : length (set nodes s None) ≡ length nodes = length-set nodes s None in omega (arith, size, past)))) ∙ ap (holdings n (set nodes s None)) (sym same) ∙ held))
  ]
  | inr other ↦ free t a (sym (ap (region_of_slot n) (written_else nodes s None t other)) ∙ held)
]

module _ {n count k : ℕ} {nodes : List (Option Node)} {old new : Known} (state : Represents n count nodes old) (s : ℕ) (there : s < count) (idle : node_of_station nodes s ≡ None) (le : k ≤ n)
    (node : Node) (moved : IsMoved s (Holding node.0) old new) (first : TakesFirst s (n - k) node.0 old new) where
  level : IsInCube n node.0
  level = subst (IsInCube n) (sym first.node_is) (node_of_level n k first.m le first.there).0

  free : IsFree (holdings n nodes) (region_at n node.0)
  free = off_free state s node.0 new level idle moved first.off

  region : region_at n node.0 ≡ block k first.m
  region = ap (region_at n) first.node_is ∙ region_of_level n k first.m le first.there

  pub taken_state : Represents n count (set nodes s (Some node)) new
  taken_state = after_move state s there (Some node) moved (λ v is. (subst (λ w. IsInCube n w.0) (same_some is) level, subst (λ w. IsFree (holdings n (set nodes s None)) (region_at n w.0)) (same_some is) (idle_free n nodes s (region_at n node.0) idle free)))

  pub taken_fit : IsFirstFit n k (holdings n nodes) first.m
  taken_fit = record {
    in_cube = first.there;
    free = subst (IsFree (holdings n nodes)) region free;
    least = no_fit_below state s le (let below = first.there in omega (arith, below)) first.before;
  }

  pub taken_gives : Gives n s k (holdings n nodes) (holdings n (set nodes s (Some node)))
      (block k first.m)
  taken_gives = record {
    idle = none_slot n (node_of_station nodes s) idle;
    aligned = (le, (first.m, first.there, refl));
    dimension = refl;
    apart = subst (IsFree (holdings n nodes)) region free;
    held = holds_now state s there (Some node) moved ∙ ap Some region;
    others = holds_else state s there (Some node) moved;
  }

pub nothing_fits : {n count k : ℕ} {nodes : List (Option Node)} {seat : Known}
    → Represents n count nodes seat
    → (s : ℕ)
    → k ≤ n
    → AreBlocked (n - k) (2 ^ (n - k)) (unpicked s seat.0.stations)
    → HasNoFit n k (holdings n nodes)
nothing_fits state s le blocked = no_fit_below state s le (omega arith) blocked

-- a refused take leaves the seat as the list says
pub refused_state : {n count : ℕ} {nodes : List (Option Node)} {old new : Known}
    → Represents n count nodes old
    → (s : ℕ)
    → node_of_station nodes s ≡ None
    → IsMoved s Idle old new
    → Represents n count nodes new
refused_state {nodes = nodes} {old = old} state s idle moved = record {
  slot_count = state.slot_count;
  present = λ t below. moved_present moved t (state.present t below);
  phases = moved_all moved (λ e. e.phase ≡ phase_of_slot (node_of_station nodes e.station)) (unpicked_all (λ e. e.phase ≡ phase_of_slot (node_of_station nodes e.station)) s old.0.stations state.phases)
      (moved.at.phase ∙ ap phase_of_slot (sym idle) ∙ ap (λ t. phase_of_slot (node_of_station nodes t)) (sym moved.number));
  in_cube = state.in_cube;
  apart = state.apart;
  slots = moved.slots ∙ state.slots;
}

-- ---- a release

module _ {n count : ℕ} {nodes : List (Option Node)} {old new : Known}
    (state : Represents n count nodes old) (s : ℕ) (there : s < count)
    (moved : IsMoved s Idle old new) where
  pub released_state : Represents n count (set nodes s None) new
  released_state = after_move state s there None moved (λ v is. absurd (none_or_some is))

  pub released : (v : Node)
      → node_of_station nodes s ≡ Some v
      → TakesBack s (holdings n nodes) (holdings n (set nodes s None)) (region_at n v.0)
  released v is = record { held = ap (region_of_slot n) is; idle = holds_now state s there None moved; others = holds_else state s there None moved }

-- a node under the occupied ancestor is blocked
passed_blocked : (why : Why) (w : ℕ) (entries : List Entry)
    → IsUnder why w
    → IfSome (ancestor_of why) (λ at. HasHolder at entries)
    → IsBlocked w entries
passed_blocked InUse w entries under holder = absurd under
passed_blocked Lost w entries under holder = absurd under
passed_blocked (Under at) w entries under holder = under_blocked at.0 w entries under holder

-- the nodes of a level are blocked up to the node that is tried next
pub blocked_more : (low v next : ℕ) (why : Why) (entries : List Entry)
    → NamesAncestor why v
    → IsBlocked v entries
    → IfSome (ancestor_of why) (λ at. HasHolder at entries)
    → IsNodeAfter why v next
    → ((w : ℕ) → low ≤ w → w < v → IsBlocked w entries)
    → (w : ℕ)
    → low ≤ w
    → w < next
    → IsBlocked w entries
blocked_more low v next why entries names blocked holder after had w from before = elim (cases_lt w v) [
  | inl less ↦ had w from less
  | inr past ↦ elim (cases_eq w v) [
    | inl same ↦ subst (λ x. IsBlocked x entries) (sym same) blocked
    | inr other ↦ passed_blocked why w entries (is_between why v w next after names (omega (arith, past, other)) before) holder
  ]
]

-- a station that holds something is one of the machine's
pub held_there : (n : ℕ) (nodes : List (Option Node)) (s : ℕ)
    → IsSome (holdings n nodes s)
    → s < length nodes
held_there n nodes s has = elim (cases_lt s (length nodes)) [ inl there ↦ there | inr past ↦ absurd (not_some (holdings n nodes s) (none_slot n (node_of_station nodes s) (get_or_past nodes s None past)) has) ]

-- ---- the beginning and the end

pub none_of_not_some : {A : Type 0} (o : Option A) → (IsSome o → ⊥) → o ≡ None
none_of_not_some None not = refl
none_of_not_some (Some x) not = absurd (not refl)

slot_none : (n : ℕ) (o : Option Node) → region_of_slot n o ≡ None → o ≡ None
slot_none n None is = refl
slot_none n (Some v) is = absurd (none_or_some (sym is))

-- no station holds a region
pub fresh_state : (n count : ℕ) (nodes : List (Option Node)) (m : Known)
    → nodes ≡ replicate count None
    → ((s : ℕ) → s < count → 0 < times s m.0.stations)
    → All (λ e. e.phase ≡ Idle) m.0.stations
    → m.1 ≡ []
    → Represents n count nodes m
fresh_state n count nodes m is present idle slots = record {
  slot_count = ap length is ∙ length-replicate count None;
  present = present;
  phases = All-weaker (λ e. e.phase ≡ Idle) (λ e. e.phase ≡ phase_of_slot (node_of_station nodes e.station)) (λ e at. at ∙ ap phase_of_slot (sym (none e.station))) m.0.stations idle;
  in_cube = λ s v held. absurd (none_or_some (sym (none s) ∙ held));
  apart = λ s t v w other held_v held_w. absurd (none_or_some (sym (none s) ∙ held_v));
  slots = slots;
}
  where
    none : (s : ℕ) → node_of_station nodes s ≡ None
    none s = ap (λ l. node_of_station l s) is ∙ empty_slots count s

-- all stations are idle then
pub all_idle : {n count : ℕ} {nodes : List (Option Node)} {m : Known}
    → Represents n count nodes m
    → ((s : ℕ) → holdings n nodes s ≡ None)
    → All (λ e. e.phase ≡ Idle) m.0.stations
all_idle {n = n} {nodes = nodes} {m = m} state none = All-weaker (λ e. e.phase ≡ phase_of_slot (node_of_station nodes e.station)) (λ e. e.phase ≡ Idle)
    (λ e is. is ∙ ap phase_of_slot (slot_none n (node_of_station nodes e.station) (none e.station))) m.0.stations state.phases

-- nothing is held past the stations
pub past_none : (n : ℕ) (nodes : List (Option Node)) (s : ℕ)
    → length nodes ≤ s
    → holdings n nodes s ≡ None
past_none n nodes s past = none_slot n (node_of_station nodes s) (get_or_past nodes s None past)
