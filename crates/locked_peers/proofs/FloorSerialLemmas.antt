-- Any lists of aligned blocks are the grants of the stations in some legal history of the machine.
-- In it each block is taken and released at once, one after the other.
use Rattle.std.proofs.Common.{◌≡◌, ◌≢◌, ℕ, zero, suc, ◌+◌, ◌<◌, ◌≤◌, false, ne_eqb, inl, inr, Some, None, List, [], ◌∷◌, ◌++◌, length, get_or, refl, sym, ap, subst, ◌∙◌, arith}
use Rattle.std.proofs.lemmas.Bool.{eq-eqb, cases_eq}
use Rattle.std.proofs.lemmas.List.{append_assoc, append-nil}
use Rattle.cube_shape.specs.declared.region.Region.{Region}
use Rattle.cube_shape.specs.Region.{IsAligned}
use Rattle.locked_peers.specs.declared.floor_view.Size.{Size}
use Rattle.locked_peers.specs.declared.floor_view.StationRecord.{StationRecord}
use Rattle.locked_peers.specs.InnerFloor.Deed.{Deed, gets, frees, is_by, station_after, station_part, held_after, IsLegal}
use Rattle.locked_peers.proofs.FloorDeedLemmas.{part_own, part_other}

abbrev AllAligned : ℕ → List Region → Type 0
AllAligned n [] = Unit {0}
AllAligned n (r ∷ rs) = IsAligned n r × AllAligned n rs

abbrev grants_in : List Deed → ℕ → List Region
grants_in h s = (station_part h s).grants

-- The station gets the block, and releases it.
abbrev turn : ℕ → Region → List Deed → List Deed
turn s r h = frees s r ∷ gets s r ∷ h

-- A legal history after which nothing is held.
record IsOver (size : Size) (h : List Deed) : Type 0 where
  legal : IsLegal size h
  idle : (k : ℕ) → held_after h k ≡ None

off : (s t : ℕ) (r : Region) → t ≢ s → is_by (gets s r) t ≡ false
off s t r other = ne_eqb s t (λ e. other (sym e))

turn_other : (s t : ℕ) (r : Region) (h : List Deed)
    → t ≢ s
    → station_part (turn s r h) t ≡ station_part h t
turn_other s t r h other = part_other (frees s r) (gets s r ∷ h) t (off s t r other) ∙ part_other (gets s r) h t (off s t r other)

got : (s : ℕ) (r : Region) (h : List Deed)
    → station_part (gets s r ∷ h) s ≡ station_after (gets s r) (station_part h s)
got s r h = part_own (gets s r) h s (eq-eqb s s refl)

turn_own : (s : ℕ) (r : Region) (h : List Deed)
    → station_part (turn s r h) s ≡ station_after (frees s r)
    (station_after (gets s r) (station_part h s))
turn_own s r h = part_own (frees s r) (gets s r ∷ h) s (eq-eqb s s refl) ∙ ap (station_after (frees s r)) (got s r h)

turn_over : (size : Size) (s : ℕ) (r : Region) (h : List Deed)
    → s < size.stations
    → IsAligned size.dim r
    → IsOver size h
    → IsOver size (turn s r h)
turn_over size s r h there aligned k = record {
  legal = (
    (
      there,
      record {
        held = ap (λ (z : StationRecord). z.holds) (got s r h);
        idle = ap (λ (z : StationRecord). z.holds) (turn_own s r h);
        others = λ t other. ap (λ (z : StationRecord). z.holds) (part_other (frees s r) (gets s r ∷ h) t (off s t r other));
      },
    ),
    (
      (
        there,
        record {
          idle = k.idle s;
          aligned = aligned;
          dimension = refl;
          apart = λ t a held. absurd (none_held a (sym (k.idle t) ∙ held));
          held = ap (λ (z : StationRecord). z.holds) (got s r h);
          others = λ t other. ap (λ (z : StationRecord). z.holds) (part_other (gets s r) h t (off s t r other));
        },
      ),
      k.legal,
    ),
  );
  idle = λ t. elim (cases_eq t s) [
    | inl same ↦ subst (λ i. held_after (turn s r h) i ≡ None) (sym same) (ap (λ (z : StationRecord). z.holds) (turn_own s r h))
    | inr other ↦ ap (λ (z : StationRecord). z.holds) (turn_other s t r h other) ∙ k.idle t
  ];
}
  where
    none_held : (a : Region) → None ≡ Some a → ⊥
    none_held a e = cc

-- One station after the other.
abbrev served : ℕ → List Region → List Deed → List Deed
served s [] h = h
served s (r ∷ rs) h = served s rs (turn s r h)

served_over : (size : Size) (s : ℕ) (rs : List Region) (h : List Deed)
    → s < size.stations
    → AllAligned size.dim rs
    → IsOver size h
    → IsOver size (served s rs h)
served_over size s [] h there aligned k = k
served_over size s (r ∷ rs) h there aligned k = served_over size s rs (turn s r h) there aligned.1 (turn_over size s r h there aligned.0 k)

served_own : (s : ℕ) (rs : List Region) (h : List Deed)
    → grants_in (served s rs h) s ≡ grants_in h s ++ rs
served_own s [] h = sym (append-nil (grants_in h s))
served_own s (r ∷ rs) h = served_own s rs (turn s r h) ∙ ap (λ (z : StationRecord). z.grants ++ rs) (turn_own s r h) ∙ append_assoc (grants_in h s) (r ∷ []) rs

served_other : (s t : ℕ) (rs : List Region) (h : List Deed)
    → t ≢ s
    → station_part (served s rs h) t ≡ station_part h t
served_other s t [] h other = refl
served_other s t (r ∷ rs) h other = served_other s t rs (turn s r h) other ∙ turn_other s t r h other

-- All stations, the first with the number `first`.
abbrev serial : ℕ → List (List Region) → List Deed
serial first [] = []
serial first (rs ∷ rest) = served first rs (serial (suc first) rest)

abbrev AllListsAligned : ℕ → List (List Region) → Type 0
AllListsAligned n [] = Unit {0}
AllListsAligned n (rs ∷ rest) = AllAligned n rs × AllListsAligned n rest

serial_over : (size : Size) (first : ℕ) (all : List (List Region))
    → first + length all ≤ size.stations
    → AllListsAligned size.dim all
    → IsOver size (serial first all)
serial_over size first [] few aligned = record { legal = tt; idle = λ k. refl }
serial_over size first (rs ∷ rest) few aligned = served_over size first rs (serial (suc first) rest) (omega arith) aligned.0 (serial_over size (suc first) rest (omega arith) aligned.1)

-- Only the stations from this number upwards have grants.
serial_before : (first t : ℕ) (all : List (List Region))
    → t < first
    → grants_in (serial first all) t ≡ []
serial_before first t [] below = refl
serial_before first t (rs ∷ rest) below = ap (λ (z : StationRecord). z.grants) (served_other first t rs (serial (suc first) rest) (differ below)) ∙ serial_before (suc first) t rest (omega arith)
  where
    differ : t < first → t ≢ first
    differ less same = omega arith

serial_grants : (first i : ℕ) (all : List (List Region))
    → i < length all
    → grants_in (serial first all) (first + i) ≡ get_or all i []
serial_grants first i [] there = absurd (omega arith)
serial_grants first zero (rs ∷ rest) there = ap (grants_in (served first rs (serial (suc first) rest))) (same first) ∙ served_own first rs (serial (suc first) rest) ∙ ap (λ l. l ++ rs) (serial_before (suc first) first rest (omega arith))
  where
    same : (a : ℕ) → a + 0 ≡ a
    same a = omega arith
serial_grants first (suc i) (rs ∷ rest) there =
    ap (λ (z : StationRecord). z.grants) (served_other first (first + suc i) rs (serial (suc first) rest) (differ first i))
    ∙ ap (grants_in (serial (suc first) rest)) (next first i) ∙ serial_grants (suc first) i rest (omega arith)
  where
    differ : (a b : ℕ) → a + suc b ≢ a
    differ a b e = omega arith

    next : (a b : ℕ) → a + suc b ≡ suc a + b
    next a b = omega arith

-- There is such a history for all grants that are aligned.
pub whole : (size : Size) (all : List (List Region))
    → length all ≤ size.stations
    → AllListsAligned size.dim all
    → (h : List Deed) × IsLegal size h
    × ((i : ℕ) → i < length all → grants_in h i ≡ get_or all i [])
    × ((k : ℕ) → held_after h k ≡ None)
whole size all few aligned =
    let over = serial_over size 0 all (omega (arith, few)) aligned in
    (serial 0 all, over.legal, (λ i there. ap (grants_in (serial 0 all)) (from_none i) ∙ serial_grants 0 i all there), over.idle)
  where
    from_none : (i : ℕ) → i ≡ 0 + i
    from_none i = omega arith
