-- Which stations are missing in the roll, and that all have retired.
use Rattle.std.proofs.Common.{◌≡◌, ℕ, ◌+◌, ◌-◌, ◌^◌, ◌<◌, ◌≤◌, inl, inr, min, true, false, cond, eqb, Bool, List, [], ◌∷◌, ◌++◌, map, length, bit_and, refl, sym, ◌∙◌, ap, subst, arith, eqb-true}
use Rattle.std.specs.Prelude.{All, Any}
use Rattle.std.specs.Int.{bit_at, bit_not, w64}
use Rattle.std.proofs.lemmas.Bool.{cases_eq, cases_lt}
use Rattle.std.proofs.lemmas.Nat.Bits.{bit_at-lt, bit_at_and, bit_at_ones, bit_at_ones_above, bit_at_not, bit_at-zero}
use Rattle.std.proofs.lemmas.List.Elements.{All-nil, All-cons, All-head, All-tail, All-append}
use Rattle.status_word.specs.Word.{IsSet}
use Rattle.std.specs.List.{AllByRecursion}
use Rattle.ghost_history.specs.Sums.{total, is_at}
use Rattle.ghost_history.proofs.SumLemmas.{everyone}
use Rattle.cube_shape.specs.declared.limits.TheConstants.{MAX_STATIONS}
use Rattle.cube_core.specs.declared.phase.Phase.TheVariants.{Idle}
use Rattle.tree_steps.specs.declared.view.Entry.{Entry}
use Rattle.tree_steps.specs.Rule.{times}
use Rattle.tree_steps.specs.Steps.{Known, first_of, KeepsLoad, HasWholeRoll, joined}
use Rattle.tree_steps.specs.Alone.{AreAllAtRest}
use Rattle.tree_steps.proofs.RuleLemmas.{times-append}
use Rattle.tree_steps.specs.Once.{AreOnce}
use Rattle.cube_tree.specs.InnerEnds.{AreThere, IsGone}
use Rattle.cube_tree.specs.Ends.{HasNumberBelow, IsMissing, IsWhole}
use Rattle.tree_steps.proofs.AloneLemmas.{any_of_all, entry_there}
use Rattle.cube_tree.specs.Handles.{station_entry}
use Rattle.cube_tree.specs.declared.handles.TreeStation.{TreeStation}
use Rattle.cube_tree.specs.Seats.{IsSeatOf}
use Rattle.cube_tree.specs.InnerSolo.{IsGoneBelow}
use Rattle.cube_tree.proofs.HandleLemmas.{HasRetired}
use Rattle.cube_tree.proofs.MovedLemmas.{all_both}

-- the bits of all stations, without those of the roll
pub missing_bits : (n roll all missing : ℕ)
    → n ≤ MAX_STATIONS
    → roll < 2 ^ 64
    → all ≡ 2 ^ n - 1
    → missing ≡ bit_and all (bit_not w64 roll)
    → IsMissing n roll missing
missing_bits n roll all missing few small ones is s = elim (cases_lt s n) [
  | inl below ↦
      let bit = bit_at_not w64 roll s small (omega arith) in let one : bit_at all s ≡ 1 = ap (λ a. bit_at a s) ones ∙ bit_at_ones n s below in let two = bit_at-lt roll s in
      (λ set. (below, λ has. omega (arith, sum, bit, one, set, has)), λ (_, clear). there clear (omega (arith, sum, bit, one)) two)
  | inr past ↦
      let none : bit_at all s ≡ 0 = ap (λ a. bit_at a s) ones ∙ bit_at_ones_above n s past in
      (λ set. absurd (omega (arith, sum, none, set)), λ (below, _). absurd (omega (arith, past, below)))
]
  where
    sum : bit_at missing s ≡ min (bit_at all s) (bit_at (bit_not w64 roll) s)
    sum = ap (λ m. bit_at m s) is ∙ bit_at_and all (bit_not w64 roll) s

    there : (IsSet roll s → ⊥)
        → bit_at missing s ≡ 1 - bit_at roll s
        → bit_at roll s < 2
        → IsSet missing s
    there clear bit two = elim (cases_eq (bit_at roll s) 1) [ inl has ↦ absurd (clear has) | inr other ↦ omega (arith, bit, two, other) ]

-- if none is missing, the roll has the bit of each
pub none_missing : (n roll missing : ℕ) → IsMissing n roll missing → missing ≡ 0 → IsWhole n roll
none_missing n roll missing exact none s below = elim (cases_eq (bit_at roll s) 1) [
  | inl has ↦ has
  | inr clear ↦
      let set : bit_at missing s ≡ 1 = (exact s).1 (below, clear) in let zero_bit : bit_at missing s ≡ 0 = ap (λ m. bit_at m s) none ∙ bit_at-zero s in
      absurd (omega (arith, set, zero_bit))
]

-- the load of a seat
pub whole_roll : {count found : ℕ} {m new : Known}
    → KeepsLoad m found new
    → IsWhole count found
    → HasWholeRoll count new
whole_roll {found = found} {m = m} load whole = record { roll = found; earlier = m.0.loads; loaded = ap (λ (x : Known). x.0.loads) load.kept; whole = whole }

-- ---- all stations have retired

-- each station that is with the seat and has retired has a bit
pub bit_of : (found s : ℕ) (entries : List Entry)
    → All (λ e. IsGone e → IsSet found e.station) entries
    → All IsGone entries
    → 0 < times s entries
    → IsSet found s
bit_of found s [] bits gone some = absurd (omega arith)
bit_of found s (e ∷ rest) bits gone some = turn (bit_of found s rest (All-tail (λ x. IsGone x → IsSet found x.station) e rest bits) (All-tail IsGone e rest gone)) (eqb e.station s) refl some
  where
    turn : (0 < times s rest → IsSet found s)
        → (t : Bool)
        → eqb e.station s ≡ t
        → 0 < cond t 1 0 + times s rest
        → IsSet found s
    turn later true is more = subst (IsSet found) (eqb-true e.station s is) (All-head (λ x. IsGone x → IsSet found x.station) e rest bits (All-head IsGone e rest gone))
    turn later false is more = later (omega (arith, more))

pub bits_of : (count found : ℕ) (m new : Known)
    → KeepsLoad m found new
    → All IsGone m.0.stations
    → ((s : ℕ) → s < count → 0 < times s m.0.stations)
    → IsWhole count found
bits_of count found m new load gone all s below = bit_of found s m.0.stations load.bits gone (all s below)

-- one station more that has retired
pub gone_more : {number : ℕ} (m own new : Known)
    → HasRetired number own
    → new ≡ (joined m.0 own.0, m.1)
    → All IsGone m.0.stations
    → All IsGone new.0.stations
gone_more m own new retired is gone = subst (λ (x : Known). All IsGone x.0.stations) (sym is)
    (All-append IsGone m.0.stations own.0.stations gone (subst (All IsGone) (sym retired.one) (All-cons IsGone retired.entry [] retired.phase_is (All-nil IsGone))))

-- one station more that is idle
pub idle_more : {number : ℕ} (m own new : Known)
    → IsSeatOf number Idle own
    → new ≡ (joined m.0 own.0, m.1)
    → All (λ e. e.phase ≡ Idle) m.0.stations
    → All (λ e. e.phase ≡ Idle) new.0.stations
idle_more m own new seat is idle = subst (λ (x : Known). All (λ e. e.phase ≡ Idle) x.0.stations) (sym is)
    (All-append (λ e. e.phase ≡ Idle) m.0.stations own.0.stations idle (subst (All (λ e. e.phase ≡ Idle)) (sym seat.one) (All-cons (λ e. e.phase ≡ Idle) (first_of own) [] seat.phase_is (All-nil (λ e. e.phase ≡ Idle)))))

map_append : (l : List TreeStation) (x : TreeStation)
    → map station_entry (l ++ x ∷ []) ≡ map station_entry l ++ station_entry x ∷ []
map_append [] x = refl
map_append (y ∷ l) x = ap (λ es. station_entry y ∷ es) (map_append l x)

-- a station that was in the list is with the seat
pub there_more : {number : ℕ} (s : ℕ) (m own new : Known) (before after : List TreeStation)
    (x : TreeStation) (entry : Entry)
    → own.0.stations ≡ entry ∷ []
    → entry.station ≡ number
    → new ≡ (joined m.0 own.0, m.1)
    → before ≡ after ++ x ∷ []
    → (station_entry x).station ≡ number
    → times s new.0.stations + times s (map station_entry after)
    ≡ times s m.0.stations + times s (map station_entry before)
there_more {number = number} s m own new before after x entry one number_is is popped same =
    let first : times s new.0.stations ≡ times s m.0.stations + times s own.0.stations = ap (λ (y : Known). times s y.0.stations) is ∙ times-append s m.0.stations own.0.stations in
    let own_is : times s own.0.stations ≡ cond (eqb number s) 1 0 + 0 = ap (times s) one ∙ ap (λ a. cond (eqb a s) 1 0 + 0) number_is in
    let list : times s (map station_entry before) ≡ times s (map station_entry after) + times s (station_entry x ∷ []) = ap (λ l. times s (map station_entry l)) popped ∙ ap (times s) (map_append after x) ∙ times-append s (map station_entry after) (station_entry x ∷ []) in
    let last : times s (station_entry x ∷ []) ≡ cond (eqb number s) 1 0 + 0 = ap (λ a. cond (eqb a s) 1 0 + 0) same in
    omega (arith, first, own_is, list, last)

pub all_more : {number : ℕ} (s : ℕ) (m own new : Known) (before after : List TreeStation)
    (x : TreeStation) (entry : Entry)
    → own.0.stations ≡ entry ∷ []
    → entry.station ≡ number
    → new ≡ (joined m.0 own.0, m.1)
    → before ≡ after ++ x ∷ []
    → (station_entry x).station ≡ number
    → 0 < times s m.0.stations + times s (map station_entry before)
    → 0 < times s new.0.stations + times s (map station_entry after)
all_more s m own new before after x entry one number_is is popped same had =
    let sums = there_more s m own new before after x entry one number_is is popped same in omega (arith, had, sums)

-- no station is left in the list
pub none_left : (l : List TreeStation) (s n most : ℕ)
    → length l ≡ 0
    → n + times s (map station_entry l) ≡ most
    → n ≡ most
none_left [] s n most empty sum = omega (arith, sum)
none_left (x ∷ l) s n most empty sum = absurd (omega (arith, empty))

-- as many stations as there are, none of them twice, are all of them
as_total : (s : ℕ) (l : List TreeStation)
    → times s (map station_entry l) ≡ total (λ x. is_at s (station_entry x).station) l
as_total s [] = refl
as_total s (x ∷ l) = ap (λ n. cond (eqb (station_entry x).station s) 1 0 + n) (as_total s l)

each_below : (count : ℕ) (l : List TreeStation)
    → All (HasNumberBelow count) l
    → AllByRecursion (λ x. (station_entry x).station < count) l
each_below count [] all = tt
each_below count (x ∷ l) all = (All-head (HasNumberBelow count) x l all, each_below count l (All-tail (HasNumberBelow count) x l all))

pub everyone_there : (count : ℕ) (l : List TreeStation) (m : Known)
    → All (HasNumberBelow count) l
    → length l ≡ count
    → AreThere l m
    → AreOnce m.0.stations
    → (s : ℕ)
    → s < count
    → 0 < times s m.0.stations
everyone_there count l m below long there once s within =
    let one = everyone (λ (x : TreeStation). (station_entry x).station) count l (each_below count l below) (λ k. omega (arith, as_total k l, there k, once k)) long s within in
    omega (arith, one, as_total s l, there s)

-- ---- all stations of one seat have retired, one after another

pub whole_of_gone : (count found : ℕ) (m : Known)
    → AreAllAtRest count m
    → All (IsGoneBelow count) m.0.stations
    → All (λ e. IsGone e → IsSet found e.station) m.0.stations
    → IsWhole count found
whole_of_gone count found m all gone bits s below = found_in (any_of_all (λ e. e.station ≡ s) (λ e. IsGoneBelow count e × (IsGone e → IsSet found e.station)) (λ e. IsSet found s) m.0.stations
    (λ e same (is_gone, bit). subst (IsSet found) same (bit (is_gone.0 (omega (arith, same, below)))))
    (entry_there s m.0.stations (all.present s below))
    (all_both (IsGoneBelow count) (λ e. IsGone e → IsSet found e.station) (λ e. IsGoneBelow count e × (IsGone e → IsSet found e.station)) m.0.stations (λ e g b. (g, b)) gone bits))
  where
    found_in : Any (λ e. IsSet found s) m.0.stations → IsSet found s
    found_in (i, e, within, is, set) = set
