-- What the words that were read say of the stations of a seat, and of the regions that are held.
use Rattle.std.proofs.Common.{◌≡◌, ℕ, zero, suc, ◌/◌, ◌<◌, ◌≤◌, ◌⊎◌, inl, inr, List, [], ◌∷◌, slice_index, Option, Some, refl, sym, ◌∙◌, ap, subst, arith}
use Rattle.std.specs.Prelude.{All}
use Rattle.std.specs.Int.{bit_at}
use Rattle.std.proofs.lemmas.Bool.{cases_eq}
use Rattle.cube_shape.specs.declared.node.Node.{Node}
use Rattle.cube_shape.specs.Node.{IsInCube, IsNodeOf, OnPath}
use Rattle.cube_shape.proofs.PathLemmas.{OnPath-le, OnPath-parent, OnPath-self, OnPath-trans, OnPath-up, OnPath-zero}
use Rattle.cube_shape.proofs.RegionLemmas.{IsNodeOf-one_node}
use Rattle.cube_core.specs.declared.phase.Phase.{Phase}
use Rattle.cube_core.specs.declared.phase.Phase.TheVariants.{Idle, Looking, Looked, Climbing, Swept, Holding, Leaving, Backing, Arriving, Unmarked, Marked, Retired}
use Rattle.cube_core.specs.Phase.{IsAtRest}
use Rattle.cube_core.specs.Held.{region_at}
use Rattle.cube_core.proofs.RunningLemmas.{region_named}
use Rattle.tree_steps.specs.declared.view.Entry.{Entry}
use Rattle.tree_steps.specs.Rule.{others}
use Rattle.tree_steps.specs.Steps.{Known, IsAt, Walks, begin, first_of}
use Rattle.tree_steps.specs.Alone.{HasHolder, IsAlone, TellsWord, Turns}
use Rattle.tree_steps.proofs.WalkLemmas.{begin_leaves, walk_leaves}
use Rattle.tree_steps.proofs.AloneLemmas.{alone_begun, any_first, any_later, any_of_all, any_others, entry_there, tells_moved, tells_nothing, tells_turned}
use Rattle.cube_tree.specs.Slots.{IsTold, Represents, holdings, node_of_station, phase_of_slot, region_of_slot}
use Rattle.cube_tree.specs.Solo.{IsHeld, TellsHeld}
use Rattle.cube_tree.proofs.FitLemmas.{idle_or_holding, same_holding, slot_of_phase, slot_of_region, slot_there}

-- ---- words that are read again

-- a node is on a path or it is not
path_or_not : (fuel v b : ℕ) → b ≤ fuel → 0 < v → OnPath v b ⊎ (OnPath v b → ⊥)
path_or_not zero v b below positive = inr (λ on. let le = OnPath-le v b on in omega (arith, le, below, positive))
path_or_not (suc fuel) v b below positive = elim (cases_eq v b) [
  | inl same ↦ inl (subst (OnPath v) same (OnPath-self v positive))
  | inr other ↦ elim (path_or_not fuel v (b / 2) (omega (arith, below)) positive) [
    | inl on ↦ inl (OnPath-trans v (b / 2) b on (OnPath-parent b (let le = OnPath-le v (b / 2) on in omega (arith, le, positive))))
    | inr off ↦ inr (λ on. off (OnPath-up v b on other))
  ]
]

-- the first station has moved at a node, and the words on its path are read again
told_after : {n node : ℕ} {words read : List ℕ} {old new : Known} {p q : Phase}
    → IsTold n words old.0.stations
    → IsAt old p
    → IsAt new q
    → others new.0.stations ≡ others old.0.stations
    → ((h : ℕ) → p ≡ Holding h → h ≡ node)
    → ((h : ℕ) → q ≡ Holding h → h ≡ node)
    → ((v : ℕ) → OnPath v node → TellsWord v (slice_index read v) new.0.stations)
    → ((v : ℕ) → (OnPath v node → ⊥) → slice_index read v ≡ slice_index words v)
    → IsTold n read new.0.stations
told_after {n = n} {node = node} {words = words} {read = read} {old = old} {new = new} told was is same before now path else_same = record {
  roll = else_same 0 (λ on. omega (arith, on.0)) ∙ told.roll;
  nodes = λ v in_cube. elim (path_or_not node v node (omega arith) in_cube.0) [
    | inl on ↦ path v on
    | inr off ↦ subst (λ w. TellsWord v w new.0.stations) (sym (else_same v off)) (untouched v in_cube off)
  ];
}
  where
    untouched : (v : ℕ)
        → IsInCube n v
        → (OnPath v node → ⊥)
        → TellsWord v (slice_index words v) new.0.stations
    untouched v in_cube off =
        let had : TellsWord v (slice_index words v) (first_of old ∷ others old.0.stations) = subst (TellsWord v (slice_index words v)) was.there (told.nodes v in_cube) in
        let has : TellsWord v (slice_index words v) (first_of new ∷ others old.0.stations) = tells_moved v (slice_index words v) (first_of old) (first_of new) (others old.0.stations) in_cube.0
        (λ h holds on. off (subst (OnPath v) (before h (sym was.phase ∙ holds)) on)) (λ h holds on. off (subst (OnPath v) (now h (sym is.phase ∙ holds)) on)) had in
        subst (TellsWord v (slice_index words v)) (ap (λ rest. first_of new ∷ rest) (sym same) ∙ sym is.there) has

-- after a walk of the first station from a phase at rest to another. The words on the path are read
-- with a seat like the one after the walk
pub told_read : {n k node : ℕ} {words read : List ℕ} {old mid between new : Known} {p q : Phase}
    (begun : Phase)
    → IsTold n words old.0.stations
    → IsAlone old
    → IsAt old p
    → Walks (begin begun old) mid
    → IsAt mid q
    → IsAtRest q
    → ((h : ℕ) → p ≡ Holding h → h ≡ node)
    → ((h : ℕ) → q ≡ Holding h → h ≡ node)
    → between ≡ mid
    → new ≡ between
    → k ≡ n
    → (IsAlone between → IsAtRest (first_of between).phase → (v : ℕ) → OnPath v node
    → TellsWord v (slice_index read v) between.0.stations)
    → ((v : ℕ) → (OnPath v node → ⊥) → slice_index read v ≡ slice_index words v)
    → IsTold k read new.0.stations
told_read {n = n} {node = node} {read = read} {old = old} {mid = mid} {new = new} begun told alone was walk is rest before now shown same dim path else_same =
    subst (λ x. IsTold x read new.0.stations) (sym dim) (subst (λ (m : Known). IsTold n read m.0.stations) (sym (same ∙ shown))
    (told_after told was is ((walk_leaves walk).others ∙ (begin_leaves old begun).others) before now path_mid else_same))
  where
    path_mid : (v : ℕ) → OnPath v node → TellsWord v (slice_index read v) mid.0.stations
    path_mid = subst (λ (m : Known). IsAlone m → IsAtRest (first_of m).phase → (v : ℕ) → OnPath v node → TellsWord v (slice_index read v) m.0.stations) shown path
        (alone_begun begun old walk alone) (subst IsAtRest (sym is.phase) rest)

-- after a try that leaves the first station idle, if no word is read
pub told_idle : {n : ℕ} {words : List ℕ} {old new : Known} (begun : Phase)
    → IsTold n words old.0.stations
    → IsAt old Idle
    → Walks (begin begun old) new
    → IsAt new Idle
    → IsTold n words new.0.stations
told_idle {words = words} {old = old} {new = new} begun told was walk is =
    told_after {node = 0} told was is ((walk_leaves walk).others ∙ (begin_leaves old begun).others) (λ h e. absurd (idle_or_holding e)) (λ h e. absurd (idle_or_holding e))
    (λ v on. absurd (OnPath-zero v on)) (λ v off. refl)

-- after the record of a station was moved to the front
pub told_turned : {n s : ℕ} {words : List ℕ} {old new : Known}
    → IsTold n words old.0.stations
    → Turns s old new
    → IsTold n words new.0.stations
told_turned {n = n} {s = s} {words = words} {old = old} told turns = subst (λ (m : Known). IsTold n words m.0.stations) (sym turns.seat)
    (record { roll = told.roll; nodes = λ v in_cube. tells_turned v (slice_index words v) s old.0.stations in_cube.0 (told.nodes v in_cube) })

-- if all words are 0 and no station holds a node
pub told_fresh : (n : ℕ) (words : List ℕ) (m : Known)
    → ((v : ℕ) → slice_index words v ≡ 0)
    → All (λ e. e.phase ≡ Idle) m.0.stations
    → IsTold n words m.0.stations
told_fresh n words m unread idle = record {
  roll = unread 0;
  nodes = λ v in_cube. tells_nothing v (slice_index words v) m.0.stations (unread v) (λ h (i, e, within, is, holds). idle_or_holding (sym (subst (λ x. x.phase ≡ Idle) is (idle i e within)) ∙ holds));
}

-- a station that holds the node at which it moves holds no other
pub only_holds : (node h : ℕ) → ◌≡◌ {A = Phase} (Holding node) (Holding h) → h ≡ node
only_holds node h e = sym (same_holding e)

pub idle_holds : (node h : ℕ) → ◌≡◌ {A = Phase} Idle (Holding h) → h ≡ node
idle_holds node h e = absurd (idle_or_holding e)

-- ---- whether a station of the seat holds a node

phase_holds : (p : Phase) (h : ℕ) → (p ≡ Holding h) ⊎ (p ≡ Holding h → ⊥)
phase_holds (Holding v) h = elim (cases_eq v h) [ inl same ↦ inl (ap Holding same) | inr other ↦ inr (λ e. other (same_holding e)) ]
phase_holds Idle h = inr (λ e. cc)
phase_holds (Looking v) h = inr (λ e. cc)
phase_holds (Looked v w) h = inr (λ e. cc)
phase_holds (Climbing v a) h = inr (λ e. cc)
phase_holds (Swept v a) h = inr (λ e. cc)
phase_holds (Leaving v) h = inr (λ e. cc)
phase_holds (Backing v a) h = inr (λ e. cc)
phase_holds (Arriving a) h = inr (λ e. cc)
phase_holds (Unmarked a) h = inr (λ e. cc)
phase_holds (Marked a w left right) h = inr (λ e. cc)
phase_holds Retired h = inr (λ e. cc)

holder_or_not : (h : ℕ) (entries : List Entry) → HasHolder h entries ⊎ (HasHolder h entries → ⊥)
holder_or_not h [] = inr (λ (i, e, within, is, holds). omega (arith, within))
holder_or_not h (e ∷ rest) = elim (phase_holds e.phase h) [
  | inl here ↦ inl (any_first (λ x. x.phase ≡ Holding h) e rest here)
  | inr other ↦ elim (holder_or_not h rest) [
    | inl later ↦ inl (any_later (λ x. x.phase ≡ Holding h) e rest later)
    | inr none ↦ inr (λ has. none (any_others (λ x. x.phase ≡ Holding h) e rest other has))
  ]
]

-- ---- what is held

module _ {n count : ℕ} {nodes : List (Option Node)} {m : Known}
    (state : Represents n count nodes m) where
  named : (s : ℕ) (w : Node) → node_of_station nodes s ≡ Some w → IsNodeOf n w.0 (region_at n w.0)
  named s w is = region_named n w.0 (state.in_cube s w is)

  held_of_holder : (h : ℕ) → HasHolder h m.0.stations → IsHeld n (holdings n nodes) h
  held_of_holder h (i, e, within, is, holds) =
      let slot = slot_of_phase (node_of_station nodes e.station) h (sym (subst (λ x. x.phase ≡ phase_of_slot (node_of_station nodes x.station)) is (state.phases i e within)) ∙ holds) in
      (e.station, region_at n slot.0.0, ap (region_of_slot n) slot.1, subst (λ x. IsNodeOf n x (region_at n slot.0.0)) slot.2 (named e.station slot.0 slot.1))

  holder_of_held : (h : ℕ) → IsHeld n (holdings n nodes) h → HasHolder h m.0.stations
  holder_of_held h (s, r, held, node_of) =
      any_of_all (λ e. e.station ≡ s) (λ e. e.phase ≡ phase_of_slot (node_of_station nodes e.station)) (λ e. e.phase ≡ Holding h) m.0.stations
      (λ e same is. is ∙ ap (λ t. phase_of_slot (node_of_station nodes t)) same ∙ ap phase_of_slot slot.1 ∙ ap Holding node_is)
      (entry_there s m.0.stations (state.present s below)) state.phases
    where
      slot : (w : Node) × (node_of_station nodes s ≡ Some w) × (region_at n w.0 ≡ r)
      slot = slot_of_region n (node_of_station nodes s) r held

      node_is : slot.0.0 ≡ h
      node_is = IsNodeOf-one_node n slot.0.0 h r (subst (IsNodeOf n slot.0.0) slot.2 (named s slot.0 slot.1)) node_of

      below : s < count
      below = let there = slot_there nodes s slot.0 slot.1 in let size = state.slot_count in omega (arith, there, size)

  pub told_held : {words : List ℕ}
      → IsTold n words m.0.stations
      → (v : ℕ)
      → IsInCube n v
      → TellsHeld n (holdings n nodes) v (slice_index words v)
  told_held {words = words} told v in_cube = record {
    zero = (λ is u on held. (told.nodes v in_cube).zero.0 is u on (holder_of_held u held), λ none. (told.nodes v in_cube).zero.1 (λ u on has. none u on (held_of_holder u has)));
    occupied = (
      λ occupied. elim (holder_or_not v m.0.stations) [ inl has ↦ held_of_holder v has | inr none ↦ absurd ((told.nodes v in_cube).unoccupied.1 none occupied) ],
      λ held. elim (cases_eq (bit_at (slice_index words v) 0) 1) [ inl set ↦ set | inr clear ↦ absurd ((told.nodes v in_cube).unoccupied.0 clear (holder_of_held v held)) ],
    );
    sides = λ side u on held. (told.nodes v in_cube).sides side u on (holder_of_held u held);
  }
