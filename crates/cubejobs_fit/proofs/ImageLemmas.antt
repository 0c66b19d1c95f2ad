-- What follows of an image: held blocks are aligned, and a free block has a free processor.
use Rattle.std.proofs.Common.{◌≡◌, ℕ, ◌*◌, ◌+◌, ◌-◌, ◌^◌, ◌<◌, ◌≤◌, List, subst, arith}
use Rattle.std.proofs.lemmas.Nat.{pow_pos}
use Rattle.cube_shape.specs.declared.region.Region.{Region}
use Rattle.cube_shape.specs.Region.{Covers, IsAligned, block}
use Rattle.cube_shape.specs.Machine.{HasNoFit, Holdings, IsFirstFit, IsLawful}
use Rattle.cube_shape.specs.Falling.{IsFreeProcessor, IsFull, IsHeld}
use Rattle.cube_shape.proofs.RegionLemmas.{IsAligned-block, IsAligned-end}
use Rattle.fit_tree.specs.declared.head.Head.{Head}
use Rattle.fit_tree.specs.Fit.{HoldsBlock}
use Rattle.fit_tree.specs.Image.{IsImage, fit_in}
use Rattle.fit_tree.proofs.ImageLemmas.{Represents-in}
use Rattle.cubejobs_fit.specs.Answers.{HasSize, held_of}

pub size_of : (n : ℕ) (head : Head) (rooms : List ℕ) → IsImage n head rooms → HasSize n rooms
size_of n head rooms image = (image.sound.dim_in_limits, image.room_count)

pub lawful : (n : ℕ) (head : Head) (rooms : List ℕ) → IsImage n head rooms → IsLawful n (held_of n rooms)
lawful n head rooms image = (Represents-in n rooms image.sound).lawful

pub held_aligned : (n : ℕ) (head : Head) (rooms : List ℕ) (r : Region)
    → IsImage n head rooms
    → HoldsBlock (fit_in n rooms) r
    → IsAligned n r
held_aligned n head rooms r image is = (lawful n head rooms image).aligned r.base r is

pub held_below : (n p : ℕ) (head : Head) (rooms : List ℕ)
    → IsImage n head rooms
    → IsHeld (held_of n rooms) p
    → p < 2 ^ n
held_below n p head rooms image held =
    let end : held.1.base + 2 ^ held.1.dim ≤ 2 ^ n = IsAligned-end n held.1 ((lawful n head rooms image).aligned held.0 held.1 held.2) in
    omega (arith, end, held.3.1)

only_one : (p q : ℕ) → Covers (block 0 p) q → q ≡ p
only_one p q inside = omega (arith, inside.0, inside.1)

pub room_for_one : (n p : ℕ) (held : Holdings)
    → HasNoFit n 0 held
    → p < 2 ^ n
    → IsFreeProcessor held p
    → ⊥
room_for_one n p held none below free =
    let whole : n ≡ n - 0 = omega arith in
    none p (subst (λ d. p < 2 ^ d) whole below) (λ t a is q in_a in_p. free t a is (subst (λ x. Covers a x) (only_one p q in_p) in_a))

pub full_has_no_fit : (n k m : ℕ) (held : Holdings)
    → k ≤ n
    → IsFull n held
    → IsFirstFit n k held m
    → ⊥
full_has_no_fit n k m held fits full first =
    let some : 0 < 2 ^ k = pow_pos k in
    let end : m * 2 ^ k + 2 ^ k ≤ 2 ^ n = IsAligned-end n (block k m) (IsAligned-block n k m fits first.in_cube) in
    full (m * 2 ^ k) (omega (arith, some, end)) (λ s a is covers. first.free s a is (m * 2 ^ k) covers (omega arith, omega (arith, some)))
