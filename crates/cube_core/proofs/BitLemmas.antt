-- More of what the writes of the events do to the tests of a word.
use Rattle.std.proofs.Common.{◌≡◌, ◌≢◌, ℕ, ◌<◌, inl, inr, Bool, true, false, bit_and, sym, ◌∙◌, arith, lit<}
use Rattle.std.specs.Prelude.{◌↔◌}
use Rattle.std.proofs.lemmas.Bool.{true≢false}
use Rattle.std.proofs.lemmas.Nat.{and_mask, and_le_r}
use Rattle.std.proofs.Math.Nat.{mod-eq_of_lt}
use Rattle.cube_shape.specs.declared.node.Side.{Side}
use Rattle.cube_shape.specs.declared.node.Side.TheVariants.{Left, Right}
use Rattle.status_word.specs.Word.{side_bit, mark_bit, IsSet, IsOccupied, IsMarked, use_of, IsInUse, with_side, with_mark, kept_bits, cleared}
use Rattle.status_word.proofs.WordLemmas.{IsSet-and_left, IsInUse-cases, IsOccupied-in_use, HasSide-in_use, with_side-has, with_side-others, with_mark-keeps, with_mark-others, cleared-occupied, cleared-left, cleared-right}

pub side_bit-low : (side : Side) → side_bit side < 3
side_bit-low Left = lit< tt
side_bit-low Right = lit< tt

-- ---- words with no bit but those of use

use_of-small : (w : ℕ) → w < 8 → use_of w ≡ w
use_of-small w small = and_mask w 3 ∙ mod-eq_of_lt small

pub use_of-twice : (w : ℕ) → use_of (use_of w) ≡ use_of w
use_of-twice w = use_of-small (use_of w) (omega (arith, and_le_r w 7))

pub use_of-cleared : (w : ℕ) (left right : Bool)
    → use_of (cleared w left right) ≡ cleared w left right
use_of-cleared w false false = use_of-small (bit_and w 7) (omega (arith, and_le_r w 7))
use_of-cleared w true false = use_of-small (bit_and w 5) (omega (arith, and_le_r w 5))
use_of-cleared w false true = use_of-small (bit_and w 3) (omega (arith, and_le_r w 3))
use_of-cleared w true true = use_of-small (bit_and w 1) (omega (arith, and_le_r w 1))

-- ---- words in use

-- a word with the bits of use of another is in use if the other is
pub IsInUse-more : (x y : ℕ) → ((i : ℕ) → i < 3 → IsSet x i → IsSet y i) → IsInUse x → IsInUse y
IsInUse-more x y more in_use = elim (IsInUse-cases x in_use) [
  | inl occupied ↦ IsOccupied-in_use y (more 0 (lit< tt) occupied)
  | inr (inl left) ↦ HasSide-in_use Left y (more 1 (lit< tt) left)
  | inr (inr right) ↦ HasSide-in_use Right y (more 2 (lit< tt) right)
]

pub IsInUse-use_of : (w : ℕ) → IsInUse (use_of w) ↔ IsInUse w
IsInUse-use_of w = (λ used free. used (use_of-twice w ∙ free), λ used free. used (sym (use_of-twice w) ∙ free))

-- a mark changes no bit of use
mark_far : (s i : ℕ) → i < 3 → i ≢ mark_bit s
mark_far s i low is = omega arith

pub with_mark-use : (s w i : ℕ) → i < 3 → IsSet (with_mark s w) i ↔ IsSet w i
with_mark-use s w i low = (with_mark-others s w i (mark_far s i low), with_mark-keeps s w i)

pub IsInUse-with_mark : (s w : ℕ) → IsInUse (with_mark s w) ↔ IsInUse w
IsInUse-with_mark s w = (IsInUse-more (with_mark s w) w (λ i low. (with_mark-use s w i low).0), IsInUse-more w (with_mark s w) (λ i low. (with_mark-use s w i low).1))

pub IsInUse-with_side : (side : Side) (w : ℕ) → IsInUse (with_side side w)
IsInUse-with_side side w = HasSide-in_use side (with_side side w) (with_side-has side w)

-- nor does a side change a mark
pub with_side-marks : (side : Side) (w s : ℕ) → IsMarked s (with_side side w) → IsMarked s w
with_side-marks side w s marked = with_side-others side w (mark_bit s) (λ is. far (side_bit-low side) is) marked
  where
    far : side_bit side < 3 → mark_bit s ≡ side_bit side → ⊥
    far low is = omega arith

-- the mark of another station
pub with_mark-other : (s t w : ℕ) → t ≢ s → IsMarked t (with_mark s w) → IsMarked t w
with_mark-other s t w other marked = with_mark-others s w (mark_bit t) (λ is. other (omega arith)) marked

-- ---- words that a Clear writes

pub cleared-had : (w : ℕ) (left right : Bool) (i : ℕ) → IsSet (cleared w left right) i → IsSet w i
cleared-had w left right i set = IsSet-and_left w (kept_bits left right) i set

-- a word without OCC is free once it loses both sides
pub cleared-none : (w : ℕ) → (IsOccupied w → ⊥) → IsInUse (cleared w true true) → ⊥
cleared-none w unoccupied in_use = elim (IsInUse-cases (cleared w true true) in_use) [
  | inl occupied ↦ unoccupied ((cleared-occupied w true true).0 occupied)
  | inr (inl left) ↦ true≢false ((cleared-left w true true).0 left).1
  | inr (inr right) ↦ true≢false ((cleared-right w true true).0 right).1
]
