-- Places whose contents are taken out, the first one first.
use Rattle.std.proofs.Common.{◌≡◌, ℕ, suc, ◌<◌, Option, Some, None, IsSome, true≢false, List, [], ◌∷◌, ◌++◌, length, get_or, refl, sym, ap, ◌∙◌, append_assoc, arith}
use Rattle.std.specs.List.{All}
use Rattle.std.proofs.lemmas.List.Elements.{All-from_get_or}
use Rattle.cubejobs_lanes.specs.Kept.{kept_by}
use Rattle.cubejobs_lanes.specs.Places.{AreFullBelow}

pub some_is : {T : Type 0} (place : Option T) → IsSome place → (kept : T) × (place ≡ Some kept)
some_is (Some kept) is = (kept, refl)
some_is None is = absurd (true≢false (sym is))

-- the content of the first place goes to the end of what is gone
pub goes_over : {T R : Type 0} (f : T → R) (gone more all : List R) (place : Option T) (kept : T) (places left : List (Option T))
    → gone ++ kept_by f places ≡ all → places ≡ place ∷ left → place ≡ Some kept → more ≡ gone ++ f kept ∷ []
    → more ++ kept_by f left ≡ all
goes_over f gone more all place kept places left so_far items is pushed =
    ap (λ ys. ys ++ kept_by f left) pushed ∙ (append_assoc gone (f kept ∷ []) (kept_by f left)
    ∙ (ap (λ p. gone ++ kept_by f (p ∷ left)) (sym is) ∙ (ap (λ xs. gone ++ kept_by f xs) (sym items) ∙ so_far)))

-- full places have as many contents
pub kept_count : {T R : Type 0} (f : T → R) (places : List (Option T)) → AreFullBelow (length places) places
    → length (kept_by f places) ≡ length places
kept_count f [] full = refl
kept_count f (Some kept ∷ places) full = ap suc (kept_count f places (λ i below. full (suc i) (omega (arith, below))))
kept_count f (None ∷ places) full = absurd (true≢false (sym (full 0 (omega arith))))

abbrev pub IsKept : {T : Type 0} → (T → Type 0) → Option T → Type 0
IsKept {T} P place = (kept : T) × (place ≡ Some kept) × P kept

is_kept : {T : Type 0} (P : T → Type 0) (Q : ℕ → T → Type 0) (places : List (Option T)) → ((i : ℕ) (kept : T) → Q i kept → P kept)
    → ((i : ℕ) (kept : T) → get_or places i None ≡ Some kept → Q i kept) → AreFullBelow (length places) places
    → (i : ℕ) → i < length places → IsKept P (get_or places i None)
is_kept P Q places weaker are full i below =
    let some = some_is (get_or places i None) (full i below) in (some.0, some.1, weaker i some.0 (are i some.0 some.1))

-- if each place is full or empty with this property, full places all have it
pub all_full : {T : Type 0} (P : T → Type 0) (Q : ℕ → T → Type 0) (places : List (Option T)) → ((i : ℕ) (kept : T) → Q i kept → P kept)
    → ((i : ℕ) (kept : T) → get_or places i None ≡ Some kept → Q i kept) → AreFullBelow (length places) places
    → All (IsKept P) places
all_full P Q places weaker are full = All-from_get_or (λ place. IsKept P place) places None (λ i below. is_kept P Q places weaker are full i below)
