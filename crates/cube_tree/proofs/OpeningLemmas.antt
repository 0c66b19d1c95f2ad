-- The first seat is cut into one for each station.
use Rattle.std.proofs.Common.{◌≡◌, ℕ, zero, suc, ◌+◌, ◌-◌, ◌<◌, ◌≤◌, inl, inr, false, cond, eq-eqb, List, [], ◌∷◌, ◌++◌, map, refl, sym, ◌∙◌, ap, subst, arith}
use Rattle.std.proofs.lemmas.Bool.{cases_eq}
use Rattle.cube_core.specs.declared.phase.Phase.TheVariants.{Idle}
use Rattle.tree_steps.specs.Rule.{first, times, idle_entry, idle_entries}
use Rattle.tree_steps.specs.Steps.{Known, without_first, only_first}
use Rattle.cube_tree.specs.Seats.{IsSeatOf, IsBare}
use Rattle.cube_tree.specs.Ends.{HasAll}
use Rattle.cube_tree.specs.Handles.{station_entry}
use Rattle.cube_tree.specs.declared.handles.TreeStation.{TreeStation}

-- a seat with this many idle stations, from a number on
abbrev pub idle_seat : ℕ → ℕ → Known
idle_seat a count = (record { stations = idle_entries a count; loads = []; alone = false }, [])

next_count : (a count : ℕ) → a < count → count - a ≡ suc (count - (a + 1))
next_count a count below = omega arith

-- what is left after a cut, and what is cut
pub cut_rest : (a count : ℕ) (m : Known)
    → a < count
    → m ≡ idle_seat a (count - a)
    → (without_first m.0, m.1) ≡ idle_seat (a + 1) (count - (a + 1))
cut_rest a count m below is =
    ap (λ (x : Known). (without_first x.0, x.1)) (is ∙ ap (idle_seat a) (next_count a count below)) ∙ ap (λ b. idle_seat b (count - (a + 1))) (next a)
  where
    next : (b : ℕ) → suc b ≡ b + 1
    next b = omega arith

pub cut_seat : (a count : ℕ) (m new : Known)
    → a < count
    → m ≡ idle_seat a (count - a)
    → new ≡ (only_first m.0, [])
    → (IsSeatOf a Idle new) × (first new.0.stations ≡ idle_entry a)
cut_seat a count m new below is cut = subst (λ (x : Known). (IsSeatOf a Idle x) × (first x.0.stations ≡ idle_entry a))
    (sym (cut ∙ ap (λ (x : Known). (only_first x.0, [])) (is ∙ ap (idle_seat a) (next_count a count below))))
    (record { one = refl; slots = refl; no_loads = refl; number_is = refl; phase_is = refl }, refl)

pub bare_seat : (count : ℕ) (m : Known)
    → m ≡ idle_seat count (count - count)
    → IsBare m × (m.0.loads ≡ [])
bare_seat count m is = subst (λ (x : Known). IsBare x × (x.0.loads ≡ [])) (sym (is ∙ ap (idle_seat count) (none count))) (record { bare = refl; slots = refl }, refl)
  where
    none : (c : ℕ) → c - c ≡ 0
    none c = omega arith

-- one station more
idle_more : (a count : ℕ)
    → idle_entries a (suc count) ≡ idle_entries a count ++ idle_entry (a + count) ∷ []
idle_more a zero = ap (λ b. idle_entry b ∷ []) (same a)
  where
    same : (b : ℕ) → b ≡ b + 0
    same b = omega arith
idle_more a (suc count) = ap (λ es. idle_entry a ∷ es) (idle_more (suc a) count ∙ ap (λ b. idle_entries (suc a) count ++ idle_entry b ∷ []) (moved a count))
  where
    moved : (b c : ℕ) → suc b + c ≡ b + suc c
    moved b c = omega arith

map_more : (l : List TreeStation) (s : TreeStation)
    → map station_entry (l ++ s ∷ []) ≡ map station_entry l ++ station_entry s ∷ []
map_more [] s = refl
map_more (t ∷ l) s = ap (λ es. station_entry t ∷ es) (map_more l s)

pub dealt_more : (l : List TreeStation) (s : TreeStation) (number : ℕ)
    → map station_entry l ≡ idle_entries 0 number
    → station_entry s ≡ idle_entry number
    → map station_entry (l ++ s ∷ []) ≡ idle_entries 0 (number + 1)
dealt_more l s number dealt is =
    map_more l s ∙ ap (λ es. es ++ station_entry s ∷ []) dealt ∙ ap (λ e. idle_entries 0 number ++ e ∷ []) (is ∙ ap idle_entry (zero_more number)) ∙ sym (idle_more 0 number) ∙ ap (idle_entries 0) (next number)
  where
    zero_more : (b : ℕ) → b ≡ 0 + b
    zero_more b = omega arith

    next : (b : ℕ) → suc b ≡ b + 1
    next b = omega arith

-- each station is there
idle_there : (s a count : ℕ) → a ≤ s → s < a + count → 0 < times s (idle_entries a count)
idle_there s a zero from below = absurd (omega (arith, from, below))
idle_there s a (suc count) from below = elim (cases_eq a s) [
  | inl same ↦ let here : times s (idle_entries a (suc count)) ≡ 1 + times s (idle_entries (suc a) count) = ap (λ t. cond t 1 0 + times s (idle_entries (suc a) count)) (eq-eqb a s same) in omega (arith, here)
  | inr other ↦ let later = idle_there s (suc a) count (omega (arith, from, other)) (omega (arith, below)) in omega (arith, later)
]

pub dealt_all : (count : ℕ) (l : List TreeStation)
    → map station_entry l ≡ idle_entries 0 count
    → HasAll count l
dealt_all count l is s below = subst (λ es. 0 < times s es) (sym is) (idle_there s 0 count (omega arith) (omega (arith, below)))
