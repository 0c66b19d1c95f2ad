-- A load that shows what a word says, and the words of a path.
use Rattle.std.proofs.Common.{◌≡◌, ◌≢◌, ℕ, ◌/◌, ◌<◌, inl, inr, List, get_or, length, set, replicate, slice_index, refl, sym, ◌∙◌, ap, subst, arith}
use Rattle.std.proofs.lemmas.Bool.{cases_eq, cases_lt}
use Rattle.std.proofs.lemmas.List.{get_or-replicate, get_or_past, get_or-set_same, get_or-set_other, length-replicate}
use Rattle.tree_steps.specs.declared.view.Entry.{Entry}
use mathlib.Core.Option.{some}
use lib.ListN.{get_elem?}
use Rattle.atomic_table.specs.Table.{State as Table, Allows}
use Rattle.cube_shape.specs.Node.{OnPath}
use Rattle.cube_shape.proofs.PathLemmas.{OnPath-le, OnPath-linear, OnPath-up}
use Rattle.cube_core.specs.Phase.{IsAtRest}
use Rattle.tree_steps.specs.declared.view.View.{View}
use Rattle.tree_steps.specs.declared.view.Size.{Size}
use Rattle.tree_steps.specs.Rule.{IsView, IsRuled}
use Rattle.tree_steps.specs.Steps.{Known, first_of}
use Rattle.tree_steps.specs.Alone.{IsAlone, TellsWord}
use Rattle.tree_steps.proofs.AloneLemmas.{tells_at_rest}
use Rattle.tree_steps.proofs.SeatLemmas.{loads_word}

pub reads : (k : Size) (slots id : ℕ) (m : Known) (node : ℕ)
    → Allows (IsRuled k) slots id m node (λ w. w)
    (λ found after. (after ≡ m) × (IsAlone m → IsAtRest (first_of m).phase → 0 < node
    → TellsWord node found m.0.stations))
reads k slots id m node = loads_word k slots id m.0 m.1 node (λ _. m.0) (λ found after. (after ≡ m) × (IsAlone m → IsAtRest (first_of m).phase → 0 < node → TellsWord node found m.0.stations)) (λ found s. refl) known
  where
    known : (t : Table (Unit {0}) View) (ruled : IsRuled k t)
        → get_elem? t.views id ≡ some m.0
        → IsView k ruled.acts m.0
        → IsView k ruled.acts m.0 × ((m ≡ m)
        × (IsAlone m → IsAtRest (first_of m).phase → 0 < node
        → TellsWord node (get_or t.words node 0) m.0.stations))
    known t ruled me had = (
      had,
      (refl, λ alone rest positive. subst (λ w. TellsWord node w m.0.stations) (ap (λ ws. get_or ws node 0) (sym ruled.words)) (tells_at_rest k ruled.acts m.0 had alone rest node positive)),
    )

-- nodes v and at are on one path; if v is below the parent of at and is not at, it is below at
pub path_below : (v at node : ℕ) → OnPath v node → OnPath at node → at / 2 < v → v ≢ at → at < v
path_below v at node on_v on_at above other = elim (cases_lt at v) [
  | inl below ↦ below
  | inr from ↦
      let up = OnPath-le v (at / 2) (OnPath-up v at (OnPath-linear v at node on_v on_at from) other) in
      absurd (omega (arith, up, above))
]

-- a word that was read is written at its node
module _ (room : List ℕ) (at node word : ℕ) (entries : List Entry) where
  pub path_read : at < length room
      → OnPath at node
      → TellsWord at word entries
      → ((v : ℕ) → OnPath v node → at < v → TellsWord v (slice_index room v) entries)
      → (v : ℕ)
      → OnPath v node
      → at / 2 < v
      → TellsWord v (slice_index (set room at word) v) entries
  path_read there on_at tells below v on_v above = elim (cases_eq v at) [
    | inl here ↦ subst (λ x. TellsWord v x entries) (sym (ap (slice_index (set room at word)) here ∙ same)) (subst (λ x. TellsWord x word entries) (sym here) tells)
    | inr other ↦ subst (λ x. TellsWord v x entries) (sym (get_or-set_other room at v word 0 other)) (below v on_v (path_below v at node on_v on_at above other))
  ]
    where
      same : ◌≡◌ {A = ℕ} (get_or (set room at word) at 0) word
      same = get_or-set_same room at word 0 there

  pub others_read : OnPath at node
      → (v : ℕ)
      → (OnPath v node → ⊥)
      → slice_index (set room at word) v ≡ slice_index room v
  others_read on_at v off = get_or-set_other room at v word 0 (λ here. off (subst (λ x. OnPath x node) (sym here) on_at))

pub zero_words : (count v : ℕ) → ◌≡◌ {A = ℕ} (get_or (replicate count 0) v 0) 0
zero_words count v = elim (cases_lt v count) [
  | inl below ↦ get_or-replicate count v 0 0 below
  | inr past ↦ let size = length-replicate {A = ℕ} count 0 in get_or_past (replicate count 0) v 0 (omega (arith, size, past))
]
