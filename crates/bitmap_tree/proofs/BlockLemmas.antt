-- Takes of one block: the units around it, and what a claim and an opening change.
use Rattle.std.proofs.Common.{inl, inr, ◌≡◌, ◌≢◌, ℕ, ◌+◌, ◌-◌, ◌*◌, ◌/◌, ◌%◌, ◌^◌, ◌<◌, ◌≤◌, max, bit_and, bit_or, List, [], ◌∷◌, refl, sym, ◌∙◌, ap, subst, arith}
use Rattle.std.specs.Int.{bit_at}
use Rattle.std.proofs.lemmas.Bool.{cases_lt}
use Rattle.std.proofs.lemmas.Nat.{pow_pos, pow-add}
use Rattle.std.proofs.Math.Nat.{mul-div_cancel, div-div-eq-div-mul}
use Rattle.cube_shape.specs.declared.region.Region.{Region}
use Rattle.cube_shape.specs.Region.{block, IsAligned}
use Rattle.bitmap_tree.specs.declared.no_block.NoBlock.{NoBlock}
use Rattle.bitmap_tree.specs.declared.no_block.NoBlock.TheVariants.{Full}
use Rattle.bitmap_tree.specs.declared.view.Note.{Note}
use Rattle.bitmap_tree.specs.declared.view.Run.{Run}
use Rattle.bitmap_tree.specs.Rule.{first_word, has, run, word_count}
use Rattle.bitmap_tree.specs.InnerRule.{times}
use Rattle.bitmap_tree.specs.Layout.{Known}
use Rattle.bitmap_tree.specs.InnerSteps.{note}
use Rattle.bitmap_tree.specs.InnerLayout.{IsIn}
use Rattle.bitmap_tree.specs.Layout.{run_of, unit_around}
use Rattle.bitmap_tree.specs.InnerTrail.{IsSetIn, Shows, StepsOn, left_by}
use Rattle.bitmap_tree.specs.Trail.{WasClaimed, WasReleased, WasSet, WasTaken}
use Rattle.bitmap_tree.specs.InnerTrail.{KeepsRight}
use Rattle.bitmap_tree.specs.Trail.{Clears}
use Rattle.bitmap_tree.proofs.AloneLemmas.{clear_right, steps_wider}
use Rattle.bitmap_tree.proofs.FreeLemmas.{around_number, around_own, block_in, first_order, level_end}
use Rattle.bitmap_tree.proofs.LayoutLemmas.{base_in, block_run, fits_here, word_below, word_there}
use Rattle.bitmap_tree.proofs.MaskLemmas.{has_here, mask_bit, set_bit}
use Rattle.bitmap_tree.proofs.StepLemmas.{minus_bits}
use Rattle.bitmap_tree.proofs.TrailLemmas.{blocked_run, blocked_seen}

-- ---- what a step changed

pub claimed_run : (w o k found mask : ℕ) (rest trail : List Note)
    → trail ≡ note w found (bit_or found mask) ∷ rest
    → mask ≡ 2 ^ (o + 2 ^ k) - 2 ^ o
    → o + 2 ^ k ≤ 64
    → bit_and found (2 ^ (o + 2 ^ k) - 2 ^ o) ≡ 0
    → WasClaimed (run (64 * w + o) (2 ^ k)) trail
claimed_run w o k found mask rest trail is is_mask within clear =
    let more : 0 < 2 ^ k = pow_pos k in
    subst (WasClaimed (run (64 * w + o) (2 ^ k))) (sym is) (
      omega (arith, within, more),
      inl (λ q at.
          let bit : bit_at (bit_or found mask) (q % 64) ≡ bit_at (bit_or found (2 ^ (o + 2 ^ k) - 2 ^ o)) (q % 64) = ap (λ m. bit_at (bit_or found m) (q % 64)) is_mask in
          omega (arith, bit, set_bit found o (2 ^ k) (q % 64) clear, has_here w o (2 ^ k) q at)),
    )

pub claimed_open : (n f x mask : ℕ) (r : Region) (rest trail : List Note)
    → trail ≡ note (f + x / 64) 18446744073709551615 mask ∷ rest
    → f ≡ first_word (n / 6 - r.dim / 6)
    → x ≡ r.base / 2 ^ (6 * (r.dim / 6))
    → mask ≡ 2 ^ (x % 64 + 2 ^ (r.dim % 6)) - 2 ^ (x % 64)
    → WasClaimed (run_of n r) trail
claimed_open n f x mask r rest trail is is_f is_x is_mask =
    let at_run = block_run n f x r is_f is_x in
    subst (WasClaimed (run_of n r)) (sym is) (subst (λ z. WasClaimed z (note (f + x / 64) 18446744073709551615 mask ∷ rest)) at_run (
      omega arith,
      inr (
        refl,
        λ q at.
            let bit : bit_at mask (q % 64) ≡ bit_at (2 ^ (x % 64 + 2 ^ (r.dim % 6)) - 2 ^ (x % 64)) (q % 64) = ap (λ m. bit_at m (q % 64)) is_mask in
            omega (arith, bit, mask_bit (x % 64) (2 ^ (r.dim % 6)) (q % 64), has_here (f + x / 64) (x % 64) (2 ^ (r.dim % 6)) q at),
      ),
    ))

-- a release of the bits of a block
pub cleared_note : (n f x mask found : ℕ) (r : Region) (runs : List Run) (before trail : List Note)
    → IsIn n r.dim r
    → runs ≡ run_of n r ∷ []
    → f ≡ first_word (n / 6 - r.dim / 6)
    → x ≡ r.base / 2 ^ (6 * (r.dim / 6))
    → mask ≡ 2 ^ (x % 64 + 2 ^ (r.dim % 6)) - 2 ^ (x % 64)
    → mask < 18446744073709551616
    → found < 18446744073709551616
    → ((q : ℕ) → q / 64 ≡ f + x / 64 → times q runs ≤ bit_at found (q % 64))
    → trail ≡ note (f + x / 64) found (found - mask) ∷ before
    → ((run_of n r).base / 64 ≡ f + x / 64)
    × Clears (run_of n r) (note (f + x / 64) found (found - mask))
cleared_note n f x mask found r runs before trail inside is is_f is_x is_mask wide small there at_trail =
    let at_run = block_run n f x r is_f is_x in
    let bit_is : (q : ℕ) → q / 64 ≡ f + x / 64 → has q (run_of n r) ≡ bit_at mask (q % 64) = λ q at.
    let of_run : has q (run (64 * (f + x / 64) + x % 64) (2 ^ (r.dim % 6))) ≡ has q (run_of n r) = ap (has q) at_run in
    let of_mask : bit_at mask (q % 64) ≡ bit_at (2 ^ (x % 64 + 2 ^ (r.dim % 6)) - 2 ^ (x % 64)) (q % 64) = ap (λ m. bit_at m (q % 64)) is_mask in
    sym of_run ∙ has_here (f + x / 64) (x % 64) (2 ^ (r.dim % 6)) q at ∙ sym (mask_bit (x % 64) (2 ^ (r.dim % 6)) (q % 64)) ∙ sym of_mask in
    let less : (j : ℕ) → j < 64 → bit_at mask j ≤ bit_at found j = λ j low.
    let word : (64 * (f + x / 64) + j) / 64 ≡ f + x / 64 = omega (arith, low) in
    let place : (64 * (f + x / 64) + j) % 64 ≡ j = omega (arith, low) in
    let held : times (64 * (f + x / 64) + j) runs ≡ times (64 * (f + x / 64) + j) (run_of n r ∷ []) = ap (times (64 * (f + x / 64) + j)) is in
    let in_mask = bit_is (64 * (f + x / 64) + j) word in
    let mask_at : bit_at mask ((64 * (f + x / 64) + j) % 64) ≡ bit_at mask j = ap (bit_at mask) place in
    let found_at : bit_at found ((64 * (f + x / 64) + j) % 64) ≡ bit_at found j = ap (bit_at found) place in
    sum_one (has (64 * (f + x / 64) + j) (run_of n r)) (times (64 * (f + x / 64) + j) runs) (bit_at found ((64 * (f + x / 64) + j) % 64)) (bit_at mask ((64 * (f + x / 64) + j) % 64)) (bit_at found j) (bit_at mask j) held (there (64 * (f + x / 64) + j) word) in_mask mask_at found_at in (
      ap (λ (z : Run). z.base / 64) (sym at_run) ∙ in_word (f + x / 64) x,
      (λ q at.
          let place : q % 64 < 64 = omega arith in
          minus_bits mask found (q % 64) wide small less place ∙ ap (λ z. bit_at (found - mask) (q % 64) + z) (sym (bit_is q at))),
    )
  where
    sum_one : (h t g m f k : ℕ) → t ≡ h + 0 → t ≤ g → h ≡ m → m ≡ k → g ≡ f → k ≤ f
    sum_one h t g m f k is less same mask found = omega (arith, is, less, same, mask, found)

    in_word : (w x : ℕ) → (64 * w + x % 64) / 64 ≡ w
    in_word w x = omega arith

pub cleared_run : (n f x mask found : ℕ) (r : Region) (runs : List Run) (before trail : List Note)
    → IsIn n r.dim r
    → runs ≡ run_of n r ∷ []
    → f ≡ first_word (n / 6 - r.dim / 6)
    → x ≡ r.base / 2 ^ (6 * (r.dim / 6))
    → mask ≡ 2 ^ (x % 64 + 2 ^ (r.dim % 6)) - 2 ^ (x % 64)
    → mask < 18446744073709551616
    → found < 18446744073709551616
    → ((q : ℕ) → q / 64 ≡ f + x / 64 → times q runs ≤ bit_at found (q % 64))
    → trail ≡ note (f + x / 64) found (found - mask) ∷ before
    → WasReleased (run_of n r) before trail
cleared_run n f x mask found r runs before trail inside is is_f is_x is_mask wide small there at_trail =
    let cleared = cleared_note n f x mask found r runs before trail inside is is_f is_x is_mask wide small there at_trail in
    subst (WasReleased (run_of n r) before) (sym at_trail) (inl (cleared.0, cleared.1, refl))

-- a release is a right step
pub released_right : (n : ℕ) (r : Region) (old new : Known) (x : Note)
    → IsAligned n r
    → new.0.trail ≡ x ∷ old.0.trail
    → ((run_of n r).base / 64 ≡ x.word) × Clears (run_of n r) x
    → KeepsRight n old new
released_right n r old new x aligned is cleared = clear_right n r old new x aligned is cleared.0 cleared.1

-- a claim by the bits of a block
pub claimed_block : (n f x : ℕ) (r : Region) (trail : List Note)
    → f ≡ first_word (n / 6 - r.dim / 6)
    → x ≡ r.base / 2 ^ (6 * (r.dim / 6))
    → WasClaimed (run (64 * (f + x / 64) + x % 64) (2 ^ (r.dim % 6))) trail
    → WasClaimed (run_of n r) trail
claimed_block n f x r trail is_f is_x claimed = subst (λ z. WasClaimed z trail) (block_run n f x r is_f is_x) claimed

-- a bit of the block was found set
pub block_seen : (n f x mask found : ℕ) (r : Region) (trail : List Note)
    → IsIn n r.dim r
    → f ≡ first_word (n / 6 - r.dim / 6)
    → x ≡ r.base / 2 ^ (6 * (r.dim / 6))
    → mask ≡ 2 ^ (x % 64 + 2 ^ (r.dim % 6)) - 2 ^ (x % 64)
    → Shows (f + x / 64) found trail
    → bit_and found mask ≢ 0
    → WasTaken n trail r
block_seen n f x mask found r trail inside is_f is_x is_mask shows taken = subst (λ z. (q : ℕ) × (0 < has q z) × WasSet trail q) (block_run n f x r is_f is_x)
    (blocked_seen trail (f + x / 64) (x % 64) (2 ^ (r.dim % 6)) found shows (fits_here n r.dim x r inside is_x) (λ none. taken (ap (bit_and found) is_mask ∙ none)))

pub block_set : (n f x mask found : ℕ) (r : Region) (left : ℕ → ℕ)
    → IsIn n r.dim r
    → f ≡ first_word (n / 6 - r.dim / 6)
    → x ≡ r.base / 2 ^ (6 * (r.dim / 6))
    → mask ≡ 2 ^ (x % 64 + 2 ^ (r.dim % 6)) - 2 ^ (x % 64)
    → left (f + x / 64) ≡ found
    → bit_and found mask ≢ 0
    → IsSetIn left (run_of n r)
block_set n f x mask found r left inside is_f is_x is_mask is taken = subst (IsSetIn left) (block_run n f x r is_f is_x)
    (blocked_run left (f + x / 64) (x % 64) (2 ^ (r.dim % 6)) found is (fits_here n r.dim x r inside is_x) (λ none. taken (ap (bit_and found) is_mask ∙ none)))

-- the word of a block is one of the machine
pub block_word : (n f : ℕ) (r : Region)
    → IsIn n r.dim r
    → f ≡ first_word (n / 6 - r.dim / 6)
    → f + r.base / 2 ^ (6 * (r.dim / 6)) / 64 < word_count n
block_word n f r inside is_f =
    let fits = inside.fits in
    let there = word_there n (r.dim / 6) (r.base / 2 ^ (6 * (r.dim / 6)) / 64) (word_below n (r.dim / 6) r.base (omega (arith, fits)) (base_in n r.dim r inside)) in
    subst (λ y. y + r.base / 2 ^ (6 * (r.dim / 6)) / 64 < word_count n) (sym is_f) there

-- ---- the units around a block

-- the block of a dimension around a processor is one of the machine
pub at_in : (n d p : ℕ) (r : Region) → r ≡ block d (p / 2 ^ d) → d ≤ n → p < 2 ^ n → IsIn n r.dim r
at_in n d p r is fits within = subst (λ (x : Region). IsIn n x.dim x) (sym is) (block_in n d (p / 2 ^ d) fits (around_number n d p fits within))

-- a unit around a block lies in the unit above
pub round_up : (b d e : ℕ) → e ≡ d + 6 → b / 2 ^ d * 2 ^ d / 2 ^ e ≡ b / 2 ^ e
round_up b d e is =
    let value : b / 2 ^ d * 2 ^ d / 2 ^ d ≡ b / 2 ^ d = mul-div_cancel (b / 2 ^ d) (pow_pos d) in
    let size : 2 ^ e ≡ 2 ^ d * 64 = ap (λ x. 2 ^ x) is ∙ pow-add 2 d 6 in
    let two : (z : ℕ) → z / 2 ^ e ≡ z / 2 ^ d / 64 = λ z. ap (λ x. z / x) size ∙ sym (div-div-eq-div-mul z (2 ^ d) 64) in
    two (b / 2 ^ d * 2 ^ d) ∙ ap (λ x. x / 64) value ∙ sym (two b)

pub round_own : (b d : ℕ) → b / 2 ^ d * 2 ^ d / 2 ^ d ≡ b / 2 ^ d
round_own b d = mul-div_cancel (b / 2 ^ d) (pow_pos d)

-- the unit around a block, where it is one of a level above
pub around_unit : (s : ℕ) (r unit : Region)
    → unit ≡ unit_around s r
    → r.dim / 6 < unit.dim / 6
    → (unit.dim % 6 ≡ 0) × (r.base / 2 ^ unit.dim ≡ unit.base / 2 ^ unit.dim)
around_unit s r unit is above =
    let dim_is : unit.dim ≡ max r.dim (6 * s) = ap (λ (x : Region). x.dim) is in
    let base_is : unit.base ≡ r.base / 2 ^ max r.dim (6 * s) * 2 ^ max r.dim (6 * s) = ap (λ (x : Region). x.base) is in
    let base_at : unit.base ≡ r.base / 2 ^ unit.dim * 2 ^ unit.dim = base_is ∙ ap (λ d. r.base / 2 ^ d * 2 ^ d) (sym dim_is) in
    (omega (arith, dim_is, above), sym (ap (λ z. z / 2 ^ unit.dim) base_at ∙ round_own r.base unit.dim))

-- and where it is not, it is the block
pub around_self : (s : ℕ) (r unit : Region)
    → r.base % 2 ^ r.dim ≡ 0
    → unit ≡ unit_around s r
    → r.dim / 6 ≤ s
    → unit.dim / 6 ≤ r.dim / 6
    → unit ≡ r
around_self s r unit begins is low high =
    let dim_is : unit.dim ≡ max r.dim (6 * s) = ap (λ (x : Region). x.dim) is in
    is ∙ around_own s r begins (omega (arith, dim_is, low, high))

-- an aligned block lies in the machine
pub in_aligned : (n : ℕ) (r : Region) → IsAligned n r → IsIn n r.dim r
in_aligned n r aligned = subst (λ (x : Region). IsIn n x.dim x) (sym aligned.1.2) (block_in n r.dim aligned.1.0 aligned.0 aligned.1.1)

-- ---- the way up

-- the bits of the unit around a block lie in words of its level
around_word : (n s q : ℕ) (r : Region)
    → r.dim / 6 ≤ s
    → 0 < has q (run_of n (unit_around s r))
    → first_word (n / 6 - s) ≤ q / 64
around_word n s q r low in_run =
    let level : max r.dim (6 * s) / 6 ≡ s = omega (arith, low) in
    let same : first_word (n / 6 - max r.dim (6 * s) / 6) ≡ first_word (n / 6 - s) = ap (λ l. first_word (n / 6 - l)) level in
    omega (arith, in_run, same)

-- one level more was seen set
pub set_next : (n level w : ℕ) (r : Region) (why more both : NoBlock) (old new : Known)
    → level ≤ n / 6
    → w < first_word (n / 6 + 1 - level)
    → StepsOn w (w + 1) old new
    → (both ≡ Full → (why ≡ Full) × (more ≡ Full))
    → (why ≡ Full
    → (s : ℕ)
    → r.dim / 6 ≤ s
    → s < level
    → IsSetIn (left_by old.0.trail) (run_of n (unit_around s r)))
    → (more ≡ Full → IsSetIn (left_by new.0.trail) (run_of n (unit_around level r)))
    → both ≡ Full
    → (s : ℕ)
    → r.dim / 6 ≤ s
    → s < level + 1
    → IsSetIn (left_by new.0.trail) (run_of n (unit_around s r))
set_next n level w r why more both old new top there steps parts before here full s low less = elim (cases_lt s level) [
  | inl earlier ↦
      let t = before (parts full).0 s low earlier in
      let order : first_word (n / 6 + 1 - level) ≤ first_word (n / 6 - s) = first_order (n / 6 + 1 - level) (n / 6 - s) (omega (arith, earlier, top)) in
      let place = around_word n s t.0 r low t.1 in
      let same = steps.elsewhere (t.0 / 64) (inr (omega (arith, order, place, there))) in
      (t.0, t.1, ap (λ x. bit_at x (t.0 % 64)) same ∙ t.2)
  | inr last ↦
      let same : level ≡ s = omega (arith, last, less) in
      subst (λ x. IsSetIn (left_by new.0.trail) (run_of n (unit_around x r))) same (here (parts full).1)
]

pub seen_next : (n level : ℕ) (r : Region) (why more both : NoBlock) (old new : Known) (w : ℕ)
    → StepsOn w (w + 1) old new
    → (both ≡ Full → (why ≡ Full) × (more ≡ Full))
    → (why ≡ Full
    → (s : ℕ)
    → r.dim / 6 ≤ s
    → s < level
    → WasTaken n old.0.trail (unit_around s r))
    → (more ≡ Full → WasTaken n new.0.trail (unit_around level r))
    → both ≡ Full
    → (s : ℕ)
    → r.dim / 6 ≤ s
    → s < level + 1
    → WasTaken n new.0.trail (unit_around s r)
seen_next n level r why more both old new w steps parts before here full s low less = elim (cases_lt s level) [
  | inl earlier ↦ let t = before (parts full).0 s low earlier in (t.0, t.1, steps.keeps t.0 t.2)
  | inr last ↦
      let same : level ≡ s = omega (arith, last, less) in
      subst (λ x. WasTaken n new.0.trail (unit_around x r)) same (here (parts full).1)
]

-- the word of the unit around a block comes before those of the level below
pub path_word : (n level : ℕ) (r unit : Region)
    → unit ≡ unit_around level r
    → IsIn n unit.dim unit
    → r.dim / 6 ≤ level
    → level ≤ n / 6
    → first_word (n / 6 - unit.dim / 6) + unit.base / 2 ^ (6 * (unit.dim / 6)) / 64 < first_word
    (n / 6 + 1 - level)
path_word n level r unit is inside low top =
    let dim_is : unit.dim ≡ max r.dim (6 * level) = ap (λ (x : Region). x.dim) is in
    let at : level ≡ unit.dim / 6 = omega (arith, dim_is, low) in
    let fits = inside.fits in
    let there = word_below n (unit.dim / 6) unit.base (omega (arith, fits)) (base_in n unit.dim unit inside) in
    subst (λ l. first_word (n / 6 - unit.dim / 6) + unit.base / 2 ^ (6 * (unit.dim / 6)) / 64 < first_word (n / 6 + 1 - l)) (sym at)
    (level_end n (unit.dim / 6) (unit.base / 2 ^ (6 * (unit.dim / 6)) / 64) (omega (arith, at, top)) there)

-- the steps on one word of a level from one up
pub path_steps : (n low level w : ℕ) (old new : Known)
    → low ≤ level
    → w < first_word (n / 6 + 1 - level)
    → StepsOn w (w + 1) old new
    → StepsOn 0 (first_word (n / 6 + 1 - low)) old new
path_steps n low level w old new least there steps =
    let order : first_word (n / 6 + 1 - level) ≤ first_word (n / 6 + 1 - low) = first_order (n / 6 + 1 - level) (n / 6 + 1 - low) (omega (arith, least)) in
    steps_wider w (w + 1) 0 (first_word (n / 6 + 1 - low)) old new (omega arith) (omega (arith, order, there)) steps
