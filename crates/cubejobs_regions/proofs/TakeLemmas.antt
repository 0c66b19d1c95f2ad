-- What a refused take found, as the handle keeps it.
use Rattle.std.proofs.Common.{◌≡◌, ◌≢◌, ℕ, Bool, true, false, List, arith, refl, subst, sym}
use Rattle.cube_shape.specs.declared.region.Region.{Region}
use Rattle.bitmap_tree.specs.declared.view.Note.{Note}
use Rattle.cubejobs_regions.specs.Takes.{FoundInUse, FoundNoRoom}

pub no_room_at : (n m k contended : ℕ) (old new : List Note) → n ≡ m → new ≡ old
    → FoundNoRoom n k contended old → FoundNoRoom m k contended new
no_room_at n m k contended old new same kept found =
    subst (λ d. FoundNoRoom d k contended new) same (subst (FoundNoRoom n k contended) (sym kept) found)

pub in_use_at : (n m : ℕ) (block : Region) (contended : ℕ) (old new : List Note) → n ≡ m → new ≡ old
    → FoundInUse n block contended old → FoundInUse m block contended new
in_use_at n m block contended old new same kept found =
    subst (λ d. FoundInUse d block contended new) same (subst (FoundInUse n block contended) (sym kept) found)

-- whether a take was disturbed, as a number
abbrev pub count_of : Bool → ℕ
count_of true = 1
count_of false = 0

pub told : (disturbed : Bool) (P Q : Type 0) → (disturbed ≡ false → P) → (disturbed ≡ true → Q)
    → (count_of disturbed ≡ 0 → P) × (count_of disturbed ≢ 0 → Q)
told true P Q calm lost = (λ none. absurd (omega (arith, none)), λ _. lost refl)
told false P Q calm lost = (λ _. calm refl, λ some. absurd (some refl))
