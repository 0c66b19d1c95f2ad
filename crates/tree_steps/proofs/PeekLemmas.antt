-- A peek changes no word, and nothing of a seat except what its first station notes.
use Rattle.std.proofs.Common.{◌≡◌, ℕ, List, [], ◌∷◌, Bool, get_or, refl, sym, ap, subst}
use Rattle.std.specs.Prelude.{All}
use Rattle.std.proofs.lemmas.List.Elements.{All-cons, All-head, All-tail}
use mathlib.Core.Option.{some}
use lib.ListN.{get_elem?}
use Rattle.atomic_table.specs.Table.{State as Table, Allows}
use Rattle.cube_core.specs.declared.act.Act.{Act}
use Rattle.cube_core.specs.declared.phase.Phase.{Phase}
use Rattle.cube_core.specs.Phase.{IsAtRest}
use Rattle.tree_steps.specs.declared.view.Entry.{Entry}
use Rattle.tree_steps.specs.declared.view.View.{View}
use Rattle.tree_steps.specs.declared.view.Size.{Size}
use Rattle.tree_steps.specs.Rule.{first, others, times, IsEntryOf, WasSeen, WasWord, AreAll, IsView, IsRuled}
use Rattle.tree_steps.specs.Steps.{Known, first_of, put_first, with_peeks, peek_at, IsAt}
use Rattle.tree_steps.proofs.EventLemmas.{by_parts}
use Rattle.tree_steps.proofs.WalkLemmas.{LeavesRest}
use Rattle.tree_steps.proofs.SeatLemmas.{loads_word}

-- ---- the entries of a seat after a peek

-- the entries, the first of which notes what was found at a node
abbrev peeked : ℕ → ℕ → List Entry → List Entry
peeked node found entries = put_first (with_peeks (record { node = node; word = found } ∷ []) (first entries)) entries

times_peeked : (s node found : ℕ) (entries : List Entry)
    → times s (peeked node found entries) ≡ times s entries
times_peeked s node found [] = refl
times_peeked s node found (e ∷ rest) = refl

others_peeked : (node found : ℕ) (entries : List Entry)
    → others (peeked node found entries) ≡ others entries
others_peeked node found [] = refl
others_peeked node found (e ∷ rest) = refl

entries_peeked : (k : Size) (acts : List Act) (node found : ℕ) (entries : List Entry)
    → WasWord k acts node found
    → All (IsEntryOf k acts) entries
    → All (IsEntryOf k acts) (peeked node found entries)
entries_peeked k acts node found [] was all = all
entries_peeked k acts node found (e ∷ rest) was all =
    let mine = All-head (IsEntryOf k acts) e rest all in
    All-cons (IsEntryOf k acts) (with_peeks (record { node = node; word = found } ∷ []) e) rest
    (mine.0, mine.1, All-cons (WasSeen k acts) (record { node = node; word = found }) e.peeks was mine.2)
    (All-tail (IsEntryOf k acts) e rest all)

all_peeked : (count node found : ℕ) (entries : List Entry)
    → AreAll count entries
    → AreAll count (peeked node found entries)
all_peeked count node found entries all = record {
  present = λ s below. subst (λ t. t ≡ 1) (sym (times_peeked s node found entries)) (all.present s below);
  resting = subst (All (λ e. IsAtRest e.phase)) (sym (others_peeked node found entries)) all.resting;
}

-- ---- what the step of the table requires

pub peeks : (k : Size) (slots id : ℕ) (m : Known) (node : ℕ)
    → Allows (IsRuled k) slots id m node (λ w. w) (λ found after. after ≡ peek_at node found m)
peeks k slots id m node = loads_word k slots id m.0 m.1 node (λ found. (peek_at node found m).0) (λ found after. after ≡ peek_at node found m) (λ found s. times_peeked s node found m.0.stations) known
  where
    known : (t : Table (Unit {0}) View) (ruled : IsRuled k t)
        → get_elem? t.views id ≡ some m.0
        → IsView k ruled.acts m.0
        → IsView k ruled.acts (peek_at node (get_or t.words node 0) m).0
        × (peek_at node (get_or t.words node 0) m ≡ peek_at node (get_or t.words node 0) m)
    known t ruled me had = (
      record {
        stations = entries_peeked k ruled.acts node (get_or t.words node 0) m.0.stations was had.stations;
        loads = had.loads;
        alone = λ marked. all_peeked k.stations node (get_or t.words node 0) m.0.stations (had.alone marked);
      },
      refl,
    ) where
      was : WasWord k ruled.acts node (get_or t.words node 0)
      was = record { later = []; earlier = ruled.acts; split = refl; found = ap (λ ws. get_or ws node 0) (sym ruled.words) }

-- ---- the seat after it

peek_leaves_parts : (es : List Entry) (loads : List ℕ) (alone : Bool) (c : List (ℕ × Unit {0}))
    (node found : ℕ)
    → LeavesRest (record { stations = es; loads = loads; alone = alone }, c)
    (peek_at node found (record { stations = es; loads = loads; alone = alone }, c))
peek_leaves_parts [] loads alone c node found = record { station = refl; others = refl; loads = refl; alone = refl; slots = refl }
peek_leaves_parts (e ∷ rest) loads alone c node found = record { station = refl; others = refl; loads = refl; alone = refl; slots = refl }

pub peek_leaves : {m new : Known} (node found : ℕ) → new ≡ peek_at node found m → LeavesRest m new
peek_leaves {m = m} node found is = subst (LeavesRest m) (sym is) (peek_leaves_parts m.0.stations m.0.loads m.0.alone m.1 node found)

-- the first station is in the same phase, and has noted what was found
pub at_after_peek : {m new : Known} {p : Phase}
    → IsAt m p
    → (node found : ℕ)
    → new ≡ peek_at node found m
    → IsAt new p
at_after_peek {m = m} {p = p} at node found is = subst (λ x. IsAt x p) (sym is)
    (subst (λ q. IsAt (peek_at node found m) q) at.phase (by_parts (λ x. IsAt (peek_at node found x) (first_of x).phase) m at.there (record { there = refl; phase = refl })))

pub entry_after_peek : {m new : Known} {p : Phase}
    → IsAt m p
    → (node found : ℕ)
    → new ≡ peek_at node found m
    → first_of new ≡ with_peeks (record { node = node; word = found } ∷ []) (first_of m)
entry_after_peek {m = m} {new = new} at node found is = subst (λ x. first_of x ≡ with_peeks (record { node = node; word = found } ∷ []) (first_of m)) (sym is)
    (by_parts (λ x. first_of (peek_at node found x) ≡ with_peeks (record { node = node; word = found } ∷ []) (first_of x)) m at.there refl)
