-- What a word says of the stations to a seat that has all of them, and why a take with such a seat
-- is refused.
use Rattle.std.proofs.Common.{◌≡◌, ◌≢◌, ℕ, zero, suc, ◌+◌, ◌<◌, ◌≤◌, ◌⊎◌, inl, inr, cond, eqb, eqb-true, Bool, true, false, List, [], ◌∷◌, ◌++◌, refl, sym, ◌∙◌, ap, subst, arith}
use Rattle.std.specs.Prelude.{All, Any}
use Rattle.std.proofs.lemmas.Bool.{cases_eq, cases_lt}
use Rattle.std.proofs.lemmas.List.{get_or_past}
use Rattle.cube_shape.specs.declared.node.Side.{Side}
use Rattle.cube_shape.specs.declared.node.Side.TheVariants.{Left, Right}
use Rattle.cube_shape.specs.Node.{OnPath, child_of, parent_of, side_of}
use Rattle.cube_shape.proofs.PathLemmas.{OnPath-self, OnPath-zero, OnPath-trans, OnPath-parent, parent-left, parent-right, side_of-child}
use Rattle.status_word.specs.Word.{use_of, IsOccupied, HasSide, IsFree, IsInUse}
use Rattle.cube_core.specs.declared.act.Act.{Act}
use Rattle.cube_core.specs.declared.phase.Phase.{Phase}
use Rattle.cube_core.specs.declared.phase.Phase.TheVariants.{Idle, Looking, Looked, Climbing, Swept, Holding, Leaving, Backing, Arriving, Unmarked, Marked, Retired}
use Rattle.cube_core.specs.Phase.{owned, node_held, HasPassed, IsAtRest, IsEngagedAt, IsMarkedAt, Owns}
use Rattle.cube_core.specs.Schedule.{Record, phase_of, word_of}
use Rattle.cube_core.specs.Law.{IsTreeLawful}
use Rattle.cube_core.proofs.RunningLemmas.{lawful_after, initial_stations}
use Rattle.tree_steps.specs.declared.view.Entry.{Entry}
use Rattle.tree_steps.specs.declared.view.View.{View}
use Rattle.tree_steps.specs.declared.view.Size.{Size}
use Rattle.std.proofs.lemmas.List.Elements.{All-nil, All-cons}
use Rattle.tree_steps.specs.Rule.{first, others, times, world_after, IsEntryOf, IsView}
use Rattle.tree_steps.specs.Steps.{Known, first_of, begin, IsAt, Walks}
use Rattle.tree_steps.specs.Alone.{IsAlone, IsBlocked, HasHolder, TellsWord, MeansWord, Learns, picked, unpicked}
use Rattle.tree_steps.proofs.WalkLemmas.{walk_leaves, begin_leaves}

-- ---- a node and its children

parent_of-child : (v : ℕ) (side : Side) → parent_of (child_of v side) ≡ v
parent_of-child v Left = parent-left v
parent_of-child v Right = parent-right v

OnPath-child : (v : ℕ) (side : Side) → 0 < v → OnPath v (child_of v side)
OnPath-child v side positive = subst (λ p. OnPath p (child_of v side)) (parent_of-child v side) (OnPath-parent (child_of v side) (subst (λ p. 0 < p) (sym (parent_of-child v side)) positive))

-- ---- some entry of a list

module _ {X : Type 0} where
  -- what holds for some element, if another fact holds for all
  pub any_of_all : (P Q R : X → Type 0) (xs : List X)
      → ((x : X) → P x → Q x → R x)
      → Any P xs
      → All Q xs
      → Any R xs
  any_of_all P Q R xs both (i, x, within, is, has) all = (i, x, within, is, both x has (subst Q is (all i x within)))

  -- not the first
  pub any_others : (P : X → Type 0) (x : X) (xs : List X) → (P x → ⊥) → Any P (x ∷ xs) → Any P xs
  any_others P x xs none (zero, y, within, is, has) = absurd (none (subst P (sym is) has))
  any_others P x xs none (suc i, y, within, is, has) = (i, y, omega (arith, within), is, has)

  any_none : (P : X → Type 0) (xs : List X) → ((x : X) → P x → ⊥) → Any P xs → ⊥
  any_none P xs none (i, x, within, is, has) = none x has

-- a station that is with the seat has an entry
pub entry_there : (s : ℕ) (entries : List Entry)
    → 0 < times s entries
    → Any (λ e. e.station ≡ s) entries
entry_there s [] some_here = absurd (omega (arith, some_here))
entry_there s (e ∷ rest) some_here = by_test (eqb e.station s) refl some_here (entry_there s rest)
  where
    later : Any (λ x. x.station ≡ s) rest → Any (λ x. x.station ≡ s) (e ∷ rest)
    later (i, x, within, is, has) = (suc i, x, omega (arith, within), is, has)

    by_test : (b : Bool)
        → eqb e.station s ≡ b
        → 0 < cond b 1 0 + times s rest
        → (0 < times s rest → Any (λ x. x.station ≡ s) rest)
        → Any (λ x. x.station ≡ s) (e ∷ rest)
    by_test true is more further = (0, e, omega arith, refl, eqb-true e.station s is)
    by_test false is more further = later (further (omega (arith, more)))

-- ---- some entry of two lists, and of one whose first entry is another

module _ {X : Type 0} (P : X → Type 0) where
  pub any_first : (x : X) (xs : List X) → P x → Any P (x ∷ xs)
  any_first x xs has = (0, x, omega arith, refl, has)

  pub any_later : (x : X) (xs : List X) → Any P xs → Any P (x ∷ xs)
  any_later x xs (i, y, within, is, has) = (suc i, y, omega (arith, within), is, has)

  any_case : (x : X) (xs : List X) → Any P (x ∷ xs) → P x ⊎ Any P xs
  any_case x xs (zero, y, within, is, has) = inl (subst P (sym is) has)
  any_case x xs (suc i, y, within, is, has) = inr (i, y, omega (arith, within), is, has)

  any_right : (xs ys : List X) → Any P ys → Any P (xs ++ ys)
  any_right [] ys has = has
  any_right (x ∷ xs) ys has = any_later x (xs ++ ys) (any_right xs ys has)

  any_left : (xs ys : List X) → Any P xs → Any P (xs ++ ys)
  any_left [] ys (i, y, within, is, has) = absurd (omega (arith, within))
  any_left (x ∷ xs) ys has = elim (any_case x xs has) [
    | inl here ↦ any_first x (xs ++ ys) here
    | inr later ↦ any_later x (xs ++ ys) (any_left xs ys later)
  ]

  any_split : (xs ys : List X) → Any P (xs ++ ys) → Any P xs ⊎ Any P ys
  any_split [] ys has = inr has
  any_split (x ∷ xs) ys has = elim (any_case x (xs ++ ys) has) [
    | inl here ↦ inl (any_first x xs here)
    | inr later ↦ elim (any_split xs ys later) [ inl front ↦ inl (any_later x xs front) | inr back ↦ inr back ]
  ]

-- the record of a station is first, and no record is lost or made
module _ (P : Entry → Type 0) (s : ℕ) where
  pub turned_any : (entries : List Entry)
      → Any P entries
      → Any P (picked s entries ++ unpicked s entries)
  turned_any [] has = has
  turned_any (e ∷ rest) has = by_test (eqb e.station s)
      (turned_any rest) where
        by_test : (b : Bool)
            → (Any P rest → Any P (picked s rest ++ unpicked s rest))
            → Any P (cond b (e ∷ []) (picked s rest) ++ cond b rest (e ∷ unpicked s rest))
        by_test true further = has
        by_test false further = elim (any_case P e rest has) [
          | inl here ↦ any_right P (picked s rest) (e ∷ unpicked s rest) (any_first P e (unpicked s rest) here)
          | inr later ↦ elim (any_split P (picked s rest) (unpicked s rest) (further later)) [
            | inl front ↦ any_left P (picked s rest) (e ∷ unpicked s rest) front
            | inr back ↦ any_right P (picked s rest) (e ∷ unpicked s rest) (any_later P e (unpicked s rest) back)
          ]
        ]

  pub turned_back : (entries : List Entry)
      → Any P (picked s entries ++ unpicked s entries)
      → Any P entries
  turned_back [] has = has
  turned_back (e ∷ rest) has = by_test (eqb e.station s) has (turned_back rest)
    where
      by_test : (b : Bool)
          → Any P (cond b (e ∷ []) (picked s rest) ++ cond b rest (e ∷ unpicked s rest))
          → (Any P (picked s rest ++ unpicked s rest) → Any P rest)
          → Any P (e ∷ rest)
      by_test true had further = had
      by_test false had further = elim (any_split P (picked s rest) (e ∷ unpicked s rest) had) [
        | inl front ↦ any_later P e rest (further (any_left P (picked s rest) (unpicked s rest) front))
        | inr back ↦ elim (any_case P e (unpicked s rest) back) [
          | inl here ↦ any_first P e rest here
          | inr later ↦ any_later P e rest (further (any_right P (picked s rest) (unpicked s rest) later))
        ]
      ]

-- ---- what a word means

module _ (k : Size) (acts : List Act) (v : View) (had : IsView k acts v)
    (alone : v.alone ≡ true) where
  -- what holds for some station's phase holds for an entry's, unless it holds for a retired one
  some_entry : (P : Phase → Type 0)
      → (P Retired → ⊥)
      → (s : ℕ) × P (phase_of (world_after k acts) s)
      → Any (λ e. P e.phase) v.stations
  some_entry P gone (s, has) = elim (cases_lt s k.stations) [
    | inl there ↦
        let once = (had.alone alone).present s there in
        any_of_all (λ e. e.station ≡ s) (IsEntryOf k acts) (λ e. P e.phase) v.stations (λ e same of. subst P (ap (phase_of (world_after k acts)) (sym same) ∙ ap (λ (r : Record). r.phase) of.1) has)
        (entry_there s v.stations (omega (arith, once))) had.stations
    | inr past ↦ absurd (gone (subst P (ap (λ (r : Record). r.phase) (get_or_past (world_after k acts).records s (record { phase = Retired; trail = [] }) (subst (λ count. count ≤ s) (sym (initial_stations k.dim k.stations acts)) past))) has))
  ]

  pub means_word : (node : ℕ)
      → 0 < node
      → MeansWord node (word_of (world_after k acts) node) v.stations
  means_word node positive = record {
    in_use = λ used. some_entry (λ p. IsEngagedAt p node) (λ gone. elim gone [ inl on ↦ OnPath-zero node on | inr on ↦ OnPath-zero node on ]) (law.engaged node positive used);
    occupied = λ occ. some_entry (λ p. Owns p node) (λ gone. omega (arith, positive, gone.1)) ((law.safe.occupied node positive).0 occ);
    marked = λ free other. let stands = law.debts.marked node positive free other in some_entry (λ p. IsMarkedAt p node) (λ gone. omega (arith, positive, gone.1)) (stands.0, stands.1);
    resting = (had.alone alone).resting;
  }
    where
      law : IsTreeLawful (world_after k acts)
      law = lawful_after k.dim k.stations acts

-- ---- stations at rest

engaged_at_rest : (p : Phase) (v : ℕ)
    → IsAtRest p
    → IsEngagedAt p v
    → (h : ℕ) × (p ≡ Holding h) × OnPath v h
engaged_at_rest Idle v rest on = absurd (elim on [ inl low ↦ OnPath-zero v low | inr low ↦ OnPath-zero v low ])
engaged_at_rest (Holding h) v rest on = (h, refl, elim on [ inl low ↦ low | inr low ↦ absurd (OnPath-zero v low) ])
engaged_at_rest Retired v rest on = absurd (elim on [ inl low ↦ OnPath-zero v low | inr low ↦ OnPath-zero v low ])
engaged_at_rest (Looking h) v rest on = absurd rest
engaged_at_rest (Looked h w) v rest on = absurd rest
engaged_at_rest (Climbing h a) v rest on = absurd rest
engaged_at_rest (Swept h a) v rest on = absurd rest
engaged_at_rest (Leaving h) v rest on = absurd rest
engaged_at_rest (Backing h a) v rest on = absurd rest
engaged_at_rest (Arriving a) v rest on = absurd rest
engaged_at_rest (Unmarked a) v rest on = absurd rest
engaged_at_rest (Marked a w left right) v rest on = absurd rest

owns_at_rest : (p : Phase) (v : ℕ) → IsAtRest p → Owns p v → p ≡ Holding v
owns_at_rest Idle v rest owns = absurd (omega (arith, owns.0, owns.1))
owns_at_rest (Holding h) v rest owns = ap Holding owns.1
owns_at_rest Retired v rest owns = absurd (omega (arith, owns.0, owns.1))
owns_at_rest (Looking h) v rest owns = absurd rest
owns_at_rest (Looked h w) v rest owns = absurd rest
owns_at_rest (Climbing h a) v rest owns = absurd rest
owns_at_rest (Swept h a) v rest owns = absurd rest
owns_at_rest (Leaving h) v rest owns = absurd rest
owns_at_rest (Backing h a) v rest owns = absurd rest
owns_at_rest (Arriving a) v rest owns = absurd rest
owns_at_rest (Unmarked a) v rest owns = absurd rest
owns_at_rest (Marked a w left right) v rest owns = absurd rest

marked_at_rest : (p : Phase) (v : ℕ) → IsAtRest p → IsMarkedAt p v → ⊥
marked_at_rest Idle v rest at = omega (arith, at.0, at.1)
marked_at_rest (Holding h) v rest at = omega (arith, at.0, at.1)
marked_at_rest Retired v rest at = omega (arith, at.0, at.1)
marked_at_rest (Looking h) v rest at = absurd rest
marked_at_rest (Looked h w) v rest at = absurd rest
marked_at_rest (Climbing h a) v rest at = absurd rest
marked_at_rest (Swept h a) v rest at = absurd rest
marked_at_rest (Leaving h) v rest at = absurd rest
marked_at_rest (Backing h a) v rest at = absurd rest
marked_at_rest (Arriving a) v rest at = absurd rest
marked_at_rest (Unmarked a) v rest at = absurd rest
marked_at_rest (Marked a w left right) v rest at = absurd rest

held_at_rest : (p : Phase) (v : ℕ)
    → IsAtRest p
    → OnPath v (node_held p)
    → (h : ℕ) × (p ≡ Holding h) × OnPath v h
held_at_rest Idle v rest on = absurd (OnPath-zero v on)
held_at_rest (Holding h) v rest on = (h, refl, on)
held_at_rest Retired v rest on = absurd (OnPath-zero v on)
held_at_rest (Looking h) v rest on = absurd rest
held_at_rest (Looked h w) v rest on = absurd rest
held_at_rest (Climbing h a) v rest on = absurd rest
held_at_rest (Swept h a) v rest on = absurd rest
held_at_rest (Leaving h) v rest on = absurd rest
held_at_rest (Backing h a) v rest on = absurd rest
held_at_rest (Arriving a) v rest on = absurd rest
held_at_rest (Unmarked a) v rest on = absurd rest
held_at_rest (Marked a w left right) v rest on = absurd rest

retired_or_holding : {h : ℕ} → ◌≡◌ {A = Phase} Retired (Holding h) → ⊥
retired_or_holding e = cc

any_fact : {X : Type 0} (F : Type 0) (xs : List X) → Any (λ x. F) xs → F
any_fact F xs (i, x, within, is, has) = has

all_resting : (entries : List Entry)
    → IsAtRest (first entries).phase
    → All (λ e. IsAtRest e.phase) (others entries)
    → All (λ e. IsAtRest e.phase) entries
all_resting [] own rest = All-nil (λ e. IsAtRest e.phase)
all_resting (e ∷ rest) own all = All-cons (λ x. IsAtRest x.phase) e rest own all

-- what a word says if all stations are at rest
module _ (k : Size) (acts : List Act) (v : View) (had : IsView k acts v) (alone : v.alone ≡ true)
    (own : IsAtRest (first v.stations).phase) where
  resting : All (λ e. IsAtRest e.phase) v.stations
  resting = all_resting v.stations own (had.alone alone).resting

  -- an entry's phase is its station's
  phase_of_entry : (e : Entry)
      → IsEntryOf k acts e
      → phase_of (world_after k acts) e.station ≡ e.phase
  phase_of_entry e of = ap (λ (r : Record). r.phase) of.1

  rests : (s : ℕ) → IsAtRest (phase_of (world_after k acts) s)
  rests s = elim (cases_lt s k.stations) [
    | inl there ↦
        let once = (had.alone alone).present s there in
        any_fact (IsAtRest (phase_of (world_after k acts) s)) v.stations
        (any_of_all (λ e. e.station ≡ s) (λ e. IsEntryOf k acts e × IsAtRest e.phase) (λ e. IsAtRest (phase_of (world_after k acts) s)) v.stations
        (λ e same both. subst IsAtRest (sym (phase_of_entry e both.0) ∙ ap (phase_of (world_after k acts)) same) both.1)
        (entry_there s v.stations (omega (arith, once))) (λ i d within. (had.stations i d within, resting i d within)))
    | inr past ↦ subst IsAtRest (sym (ap (λ (r : Record). r.phase) (get_or_past (world_after k acts).records s (record { phase = Retired; trail = [] }) (subst (λ count. count ≤ s) (sym (initial_stations k.dim k.stations acts)) past)))) tt
  ]

  -- a holder is a station, and a station that holds a node has an entry
  holder_is : (h : ℕ)
      → HasHolder h v.stations
      → (s : ℕ) × (phase_of (world_after k acts) s ≡ Holding h)
  holder_is h (i, e, within, is, holds) = (e.station, phase_of_entry e (subst (IsEntryOf k acts) is (had.stations i e within)) ∙ holds)

  is_holder : (s h : ℕ) → phase_of (world_after k acts) s ≡ Holding h → HasHolder h v.stations
  is_holder s h holds = some_entry k acts v had alone (λ p. p ≡ Holding h) retired_or_holding (s, holds)

  pub tells_at_rest : (node : ℕ)
      → 0 < node
      → TellsWord node (word_of (world_after k acts) node) v.stations
  tells_at_rest node positive = record { zero = (no_holder, is_zero); unoccupied = (λ free has. free (owner has), λ none occupied. none (holder occupied)); sides = sided }
    where
      law : IsTreeLawful (world_after k acts)
      law = lawful_after k.dim k.stations acts

      no_holder : word_of (world_after k acts) node ≡ 0
          → (h : ℕ)
          → OnPath node h
          → HasHolder h v.stations
          → ⊥
      no_holder is h on has =
          let station = holder_is h has in
          (law.at_rest rests node positive).0 (ap use_of is) station.0 (subst (OnPath node) (sym (ap node_held station.1)) on)

      is_free : ((h : ℕ) → OnPath node h → HasHolder h v.stations → ⊥)
          → IsFree (word_of (world_after k acts) node)
      is_free none = (law.at_rest rests node positive).1 (λ s on.
          let held = held_at_rest (phase_of (world_after k acts) s) node (rests s) on in none held.0 held.2 (is_holder s held.0 held.1))

      is_zero : ((h : ℕ) → OnPath node h → HasHolder h v.stations → ⊥)
          → word_of (world_after k acts) node ≡ 0
      is_zero none = elim (cases_eq (word_of (world_after k acts) node) 0) [
        | inl is ↦ is
        | inr other ↦
            let stands = law.debts.marked node positive (is_free none) other in
            absurd (marked_at_rest (phase_of (world_after k acts) stands.0) node (rests stands.0) stands.1)
      ]

      holder : IsOccupied (word_of (world_after k acts) node) → HasHolder node v.stations
      holder occupied =
          let station = (law.safe.occupied node positive).0 occupied in
          is_holder station.0 node (owns_at_rest (phase_of (world_after k acts) station.0) node (rests station.0) station.1)

      owner : HasHolder node v.stations → IsOccupied (word_of (world_after k acts) node)
      owner has =
          let station = holder_is node has in
          (law.safe.occupied node positive).1 (station.0, (positive, ap owned station.1))

      sided : (side : Side) (h : ℕ)
          → OnPath (child_of node side) h
          → HasHolder h v.stations
          → HasSide side (word_of (world_after k acts) node)
      sided side h on has =
          let station = holder_is h has in
          let passed : HasPassed (phase_of (world_after k acts) station.0) (child_of node side) = subst (λ p. HasPassed p (child_of node side)) (sym station.1) (on, subst (λ p. 0 < p) (sym (parent_of-child node side)) positive) in
          let there : HasSide (side_of (child_of node side)) (word_of (world_after k acts) (parent_of (child_of node side))) = law.safe.sides station.0 (child_of node side) passed in
          subst (λ x. HasSide x (word_of (world_after k acts) node)) (side_of-child node side)
          (subst (λ p. HasSide (side_of (child_of node side)) (word_of (world_after k acts) p)) (parent_of-child node side) there)

-- ---- words that say the same of two lists

pub tells_same : (v w : ℕ) (es fs : List Entry)
    → 0 < v
    → ((h : ℕ) → OnPath v h → HasHolder h es → HasHolder h fs)
    → ((h : ℕ) → OnPath v h → HasHolder h fs → HasHolder h es)
    → TellsWord v w es
    → TellsWord v w fs
tells_same v w es fs positive forth back tells = record {
  zero = (λ is h on has. tells.zero.0 is h on (back h on has), λ none. tells.zero.1 (λ h on has. none h on (forth h on has)));
  unoccupied = (λ free has. tells.unoccupied.0 free (back v (OnPath-self v positive) has), λ none. tells.unoccupied.1 (λ has. none (forth v (OnPath-self v positive) has)));
  sides = λ side h on has. tells.sides side h on (back h (OnPath-trans v (child_of v side) h (OnPath-child v side positive) on) has);
}

pub tells_turned : (v w s : ℕ) (entries : List Entry)
    → 0 < v
    → TellsWord v w entries
    → TellsWord v w (picked s entries ++ unpicked s entries)
tells_turned v w s entries positive = tells_same v w entries (picked s entries ++ unpicked s entries) positive
    (λ h on. turned_any (λ e. e.phase ≡ Holding h) s entries) (λ h on. turned_back (λ e. e.phase ≡ Holding h) s entries)

-- a first entry that holds nothing under v, in place of another such entry
pub tells_moved : (v w : ℕ) (a b : Entry) (rest : List Entry)
    → 0 < v
    → ((h : ℕ) → a.phase ≡ Holding h → OnPath v h → ⊥)
    → ((h : ℕ) → b.phase ≡ Holding h → OnPath v h → ⊥)
    → TellsWord v w (a ∷ rest)
    → TellsWord v w (b ∷ rest)
tells_moved v w a b rest positive not_a not_b = tells_same v w (a ∷ rest) (b ∷ rest) positive
    (λ h on has. any_later (λ e. e.phase ≡ Holding h) b rest (any_others (λ e. e.phase ≡ Holding h) a rest (λ holds. not_a h holds on) has))
    (λ h on has. any_later (λ e. e.phase ≡ Holding h) a rest (any_others (λ e. e.phase ≡ Holding h) b rest (λ holds. not_b h holds on) has))

-- a word that is 0, if no station holds a node
pub tells_nothing : (v w : ℕ) (entries : List Entry)
    → w ≡ 0
    → ((h : ℕ) → HasHolder h entries → ⊥)
    → TellsWord v w entries
tells_nothing v w entries is none = record {
  zero = (λ _ h on. none h, λ _. is);
  unoccupied = (λ _. none v, λ _ occupied. unset (subst IsOccupied is occupied));
  sides = λ side h on has. absurd (none h has);
}
  where
    unset : IsOccupied 0 → ⊥
    unset e = cc

-- ---- why a take is refused

-- what holds for an entry and not for the first one holds for another
module _ {m : Known} {p : Phase} (at : IsAt m p) (P : Phase → Type 0) (none : P p → ⊥) where
  other_entry : Any (λ e. P e.phase) m.0.stations → Any (λ e. P e.phase) (others m.0.stations)
  other_entry some_entry = any_others (λ e. P e.phase) (first_of m) (others m.0.stations) (λ has. none (subst P at.phase has)) (subst (Any (λ e. P e.phase)) at.there some_entry)

-- a station that owns nothing and is to clear nothing is engaged nowhere
engaged_nowhere : (v : ℕ) → (OnPath v 0 ⊎ OnPath v 0) → ⊥
engaged_nowhere v on = elim on [ inl low ↦ OnPath-zero v low | inr low ↦ OnPath-zero v low ]

in_use_blocked : {m : Known} {p : Phase} {v found : ℕ}
    → IsAt m p
    → (IsEngagedAt p v → ⊥)
    → MeansWord v found m.0.stations
    → IsInUse found
    → IsBlocked v (others m.0.stations)
in_use_blocked {m = m} {v = v} at none means used = any_of_all (λ e. IsEngagedAt e.phase v) (λ e. IsAtRest e.phase) (λ e. (h : ℕ) × (e.phase ≡ Holding h) × (OnPath v h ⊎ OnPath h v)) (others m.0.stations)
    (λ e engaged rest. let held = engaged_at_rest e.phase v rest engaged in (held.0, held.1, inl held.2))
    (other_entry at (λ p. IsEngagedAt p v) none (means.in_use used)) means.resting

-- a word that is in use where the first station looks
pub look_blocked : {m after expected : Known} {v found : ℕ}
    → IsAt m Idle
    → 0 < v
    → Learns v found m after expected
    → IsAlone m
    → IsInUse found
    → IsBlocked v (others m.0.stations)
look_blocked {v = v} at positive learns alone used = in_use_blocked at (engaged_nowhere v) (learns.word alone positive) used

-- a free word is 0 if no station is marked there
free_is_zero : {m : Known} {p : Phase} {v found : ℕ}
    → IsAt m p
    → (IsMarkedAt p v → ⊥)
    → MeansWord v found m.0.stations
    → IsFree found
    → found ≡ 0
free_is_zero {m = m} {v = v} {found = found} at none means free = elim (cases_eq found 0) [
  | inl is ↦ is
  | inr other ↦ absurd (any_none (λ e. ⊥) (others m.0.stations) (λ e no_one. no_one)
      (any_of_all (λ e. IsMarkedAt e.phase v) (λ e. IsAtRest e.phase) (λ e. ⊥) (others m.0.stations) (λ e marked rest. marked_at_rest e.phase v rest marked)
      (other_entry at (λ p. IsMarkedAt p v) none (means.marked free other)) means.resting))
]

pub look_zero : {m after expected : Known} {v found : ℕ}
    → IsAt m Idle
    → 0 < v
    → Learns v found m after expected
    → IsAlone m
    → IsFree found
    → found ≡ 0
look_zero at positive learns alone free = free_is_zero at (λ marked. omega (arith, marked.0, marked.1)) (learns.word alone positive) free

-- another word than 0 where the first station claims
pub claim_blocked : {m after expected : Known} {v seen found : ℕ}
    → IsAt m (Looked v seen)
    → 0 < v
    → Learns v found m after expected
    → IsAlone m
    → seen ≡ 0
    → found ≢ seen
    → IsBlocked v (others m.0.stations)
claim_blocked {m = m} {v = v} {found = found} at positive learns alone none differs = elim (cases_eq (use_of found) 0) [
  | inl free ↦ absurd (differs (free_is_zero at (λ marked. omega (arith, marked.0, marked.1)) (learns.word alone positive) free ∙ sym none))
  | inr used ↦ in_use_blocked at (engaged_nowhere v) (learns.word alone positive) used
]

-- an occupied word where it raises
pub raise_holder : {m after expected : Known} {v a found : ℕ}
    → IsAt m (Swept v a)
    → 0 < a
    → a < v
    → Learns a found m after expected
    → IsAlone m
    → IsOccupied found
    → HasHolder a (others m.0.stations)
raise_holder {m = m} {a = a} at positive below learns alone occupied =
    let means = learns.word alone positive in
    any_of_all (λ e. Owns e.phase a) (λ e. IsAtRest e.phase) (λ e. e.phase ≡ Holding a) (others m.0.stations)
    (λ e owns rest. owns_at_rest e.phase a rest owns)
    (other_entry at (λ p. Owns p a) (λ owns. omega (arith, below, owns.1)) (means.occupied occupied)) means.resting

-- a node under one that a station holds is blocked
pub under_blocked : (a v : ℕ) (entries : List Entry)
    → OnPath a v
    → HasHolder a entries
    → IsBlocked v entries
under_blocked a v entries on (i, e, within, is, holds) = (i, e, within, is, (a, holds, inr on))

-- ---- walks of the first station

pub alone_after : {old between : Known} → Walks old between → IsAlone old → IsAlone between
alone_after walk alone = (walk_leaves walk).alone ∙ alone

-- what holds of the other stations held of them before
pub others_before : (P : List Entry → Type 0) {old between : Known}
    → Walks old between
    → P (others between.0.stations)
    → P (others old.0.stations)
others_before P walk has = subst P (walk_leaves walk).others has

-- after a beginning
pub alone_begun : (p : Phase) (old : Known) {between : Known}
    → Walks (begin p old) between
    → IsAlone old
    → IsAlone between
alone_begun p old walk alone = (walk_leaves walk).alone ∙ (begin_leaves old p).alone ∙ alone

pub others_begun : (P : List Entry → Type 0) (p : Phase) (old : Known) {between : Known}
    → Walks (begin p old) between
    → P (others between.0.stations)
    → P (others old.0.stations)
others_begun P p old walk has = subst P ((walk_leaves walk).others ∙ (begin_leaves old p).others) has
