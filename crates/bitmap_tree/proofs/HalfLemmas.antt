-- The halves of a block: their bits, and the word under a unit.
use Rattle.std.proofs.Common.{inl, inr, ◌≡◌, ◌≢◌, ℕ, ◌+◌, ◌-◌, ◌*◌, ◌/◌, ◌%◌, ◌^◌, ◌<◌, ◌≤◌, [], ◌∷◌, refl, sym, ◌∙◌, ap, ap₂, subst, arith, mul_assoc, add-mul}
use Rattle.std.proofs.lemmas.Bool.{cases_lt}
use Rattle.std.proofs.lemmas.Nat.{one_shl, pow_pos, pow-add, div-add-mod'}
use Rattle.cube_shape.specs.declared.limits.TheConstants.{MAX_BITMAP_DIM}
use Rattle.std.proofs.Math.Nat.{mul-div_cancel}
use Rattle.std.proofs.Math.Pow.{pow_mono}
use Rattle.cube_shape.specs.declared.region.Region.{Region}
use Rattle.bitmap_tree.specs.declared.view.Run.{Run}
use Rattle.bitmap_tree.specs.Rule.{first_word, run, word_count}
use Rattle.bitmap_tree.specs.InnerSteps.{AreNext, Fills, Opens, first_over, first_under, glued, glued_runs, lower_first, only_upper, upper_first, with_lower}
use Rattle.bitmap_tree.specs.Layout.{Known}
use Rattle.bitmap_tree.specs.Layout.{AreHalves, HasRun, lower_half, place_in, run_of, upper_half, whole_of}
use Rattle.bitmap_tree.specs.InnerLayout.{IsIn, both_halves}
use Rattle.bitmap_tree.proofs.LayoutLemmas.{base_in, dim_split, multiple, opens_run, under_base, under_unit, unit_below, units, unit_run, word_there}

double : (k : ℕ) → 0 < k → 2 ^ k ≡ 2 * 2 ^ (k - 1)
double k more = let parts : k ≡ 1 + (k - 1) = omega (arith, more) in ap (λ e. 2 ^ e) parts ∙ pow-add 2 1 (k - 1)

-- ---- halves that lie in the word of the block

pub same_word : (n : ℕ) (r : Region) → r.dim % 6 ≢ 0 → ◌≡◌ {A = Run} (run_of n r) (both_halves n r)
same_word n r other =
    let level : r.dim / 6 ≡ (r.dim - 1) / 6 = omega (arith, other) in
    let rest : r.dim % 6 - 1 ≡ (r.dim - 1) % 6 = omega (arith, other) in
    let size : 2 ^ (r.dim % 6) ≡ 2 * 2 ^ ((r.dim - 1) % 6) = double (r.dim % 6) (omega (arith, other)) ∙ ap (λ e. 2 * 2 ^ e) rest in
    ap₂ (λ l L. run (place_in n l r.base) L) level size

-- ---- halves that fill the word under the block

-- the level of the word under the block
level_under : (r : Region)
    → r.dim % 6 ≡ 0
    → 0 < r.dim
    → (r.dim ≡ 6 * (r.dim / 6 - 1) + 6) × ((r.dim - 1) / 6 ≡ r.dim / 6 - 1) × ((r.dim - 1) % 6 ≡ 5)
level_under r whole more = (omega (arith, whole, more), omega (arith, whole, more), omega (arith, whole, more))

-- the unit over a word, and the bits of the word
unit_is : (n f w : ℕ) (r : Region)
    → IsIn n r.dim r
    → r.dim % 6 ≡ 0
    → 0 < r.dim
    → f ≡ first_word (n / 6 - (r.dim / 6 - 1))
    → w ≡ r.base / 2 ^ r.dim
    → (◌≡◌ {A = Run} (run_of n r) (run (f + w - 1) 1)) × (0 < f + w)
    × (◌≡◌ {A = Run} (both_halves n r) (run (64 * (f + w)) 64))
unit_is n f w r inside whole more is_f is_w =
    let under = level_under r whole more in
    let fits = inside.fits in
    let low : r.dim / 6 - 1 < n / 6 = omega (arith, fits, under.0) in
    let is_w_at : w ≡ r.base / 2 ^ (6 * (r.dim / 6 - 1) + 6) = is_w ∙ ap (λ d. r.base / 2 ^ d) under.0 in
    let word : place_in n (r.dim / 6 - 1 + 1) r.base + 1 ≡ f + w = under_unit n (r.dim / 6 - 1) r.base f w low is_f is_w_at in
    let begins : r.base % 2 ^ (6 * (r.dim / 6 - 1) + 6) ≡ 0 = ap (λ d. r.base % 2 ^ d) (sym under.0) ∙ inside.begins in
    let first : 64 * (f + w) ≡ place_in n (r.dim / 6 - 1) r.base = under_base n (r.dim / 6 - 1) r.base f w begins is_f is_w_at in
    let unit : ◌≡◌ {A = Run} (run_of n r) (run (place_in n (r.dim / 6 - 1 + 1) r.base) 1) = ap (λ d. run_of n (record { base = r.base; dim = d })) under.0 ∙ unit_run n (r.dim / 6 - 1) r.base in
    let at : place_in n (r.dim / 6 - 1 + 1) r.base ≡ f + w - 1 = omega (arith, word) in
    let size : 2 * 2 ^ ((r.dim - 1) % 6) ≡ 64 = ap (λ e. 2 * 2 ^ e) under.2 in (
      unit ∙ ap (λ x. run x 1) at,
      omega (arith, word),
      ap₂ (λ l L. run (place_in n l r.base) L) under.1 size ∙ ap (λ x. run x 64) (sym first),
    )

-- the word under the block is one of the machine
pub half_word : (n f : ℕ) (r : Region)
    → IsIn n r.dim r
    → r.dim % 6 ≡ 0
    → 0 < r.dim
    → f ≡ first_word (n / 6 - (r.dim / 6 - 1))
    → f + r.base / 2 ^ r.dim < word_count n
half_word n f r inside whole more is_f =
    let under = level_under r whole more in
    let fits = inside.fits in
    let low : r.dim / 6 - 1 < n / 6 = omega (arith, fits, under.0) in
    let there = unit_below n (r.dim / 6 - 1) r.base low (base_in n r.dim r inside) in
    let same : r.base / 2 ^ r.dim < 2 ^ (n - 6 * (r.dim / 6 - 1) - 6) = subst (λ d. r.base / 2 ^ d < 2 ^ (n - 6 * (r.dim / 6 - 1) - 6)) (sym under.0) there in
    subst (λ x. x + r.base / 2 ^ r.dim < word_count n) (sym is_f) (word_there n (r.dim / 6 - 1) (r.base / 2 ^ r.dim) same)

pub opens_half : (n f w : ℕ) (r : Region) (m : Known)
    → IsIn n r.dim r
    → r.dim % 6 ≡ 0
    → 0 < r.dim
    → f ≡ first_word (n / 6 - (r.dim / 6 - 1))
    → w ≡ r.base / 2 ^ r.dim
    → m.0.runs ≡ run_of n r ∷ []
    → Opens (f + w) 18446744073709551615 m.0.runs (first_under m.0.runs)
opens_half n f w r m inside whole more is_f is_w is =
    let unit = unit_is n f w r inside whole more is_f is_w in
    let runs : m.0.runs ≡ run (f + w - 1) 1 ∷ [] = is ∙ ap (λ x. x ∷ []) unit.0 in
    let next : f + w - 1 + 1 ≡ f + w = omega (arith, unit.1) in
    let known : Opens (f + w - 1 + 1) 18446744073709551615 (run (f + w - 1) 1 ∷ []) (run (64 * (f + w - 1 + 1) + 0) 64 ∷ []) = opens_run (f + w - 1) 0 64 (omega arith) in
    let plain : 64 * (f + w - 1 + 1) + 0 ≡ 64 * (f + w - 1 + 1) = omega arith in
    let at_next : Opens (f + w - 1 + 1) 18446744073709551615 (run (f + w - 1) 1 ∷ []) (first_under (run (f + w - 1) 1 ∷ [])) = subst (λ x. Opens (f + w - 1 + 1) 18446744073709551615 (run (f + w - 1) 1 ∷ []) (run x 64 ∷ [])) plain known in
    let at_word : Opens (f + w) 18446744073709551615 (run (f + w - 1) 1 ∷ []) (first_under (run (f + w - 1) 1 ∷ [])) = subst (λ x. Opens x 18446744073709551615 (run (f + w - 1) 1 ∷ []) (first_under (run (f + w - 1) 1 ∷ []))) next at_next in
    subst (λ rs. Opens (f + w) 18446744073709551615 rs (first_under rs)) (sym runs) at_word

pub opened_half : (n f w : ℕ) (r : Region) (m now : Known)
    → IsIn n r.dim r
    → r.dim % 6 ≡ 0
    → 0 < r.dim
    → f ≡ first_word (n / 6 - (r.dim / 6 - 1))
    → w ≡ r.base / 2 ^ r.dim
    → HasRun (run_of n r) m
    → now.0.runs ≡ first_under m.0.runs
    → now.1 ≡ m.1
    → HasRun (both_halves n r) now
opened_half n f w r m now inside whole more is_f is_w has_run opened slots =
    let unit = unit_is n f w r inside whole more is_f is_w in
    let runs : m.0.runs ≡ run (f + w - 1) 1 ∷ [] = has_run.0 ∙ ap (λ x. x ∷ []) unit.0 in
    let next : 64 * (f + w - 1 + 1) ≡ 64 * (f + w) = omega (arith, unit.1) in
    (opened ∙ ap first_under runs ∙ ap (λ x. run x 64 ∷ []) next ∙ ap (λ x. x ∷ []) (sym unit.2), slots ∙ has_run.1)

fills_word : (w : ℕ) → 0 < w → Fills w (run (64 * w) 64 ∷ []) (run (w - 1) 1 ∷ [])
fills_word w more = record {
  some = more;
  here = λ q at. (omega (arith, at), omega (arith, at, more));
  above = omega (arith, more);
  there = λ q other no_unit. omega (arith, other, no_unit, more);
}

pub fills_half : (n f w : ℕ) (r : Region) (m : Known)
    → IsIn n r.dim r
    → r.dim % 6 ≡ 0
    → 0 < r.dim
    → f ≡ first_word (n / 6 - (r.dim / 6 - 1))
    → w ≡ r.base / 2 ^ r.dim
    → m.0.runs ≡ both_halves n r ∷ []
    → Fills (f + w) m.0.runs (first_over m.0.runs)
fills_half n f w r m inside whole more is_f is_w is =
    let unit = unit_is n f w r inside whole more is_f is_w in
    let runs : m.0.runs ≡ run (64 * (f + w)) 64 ∷ [] = is ∙ ap (λ x. x ∷ []) unit.2 in
    let at : f + w - 1 ≡ 64 * (f + w) / 64 - 1 = omega arith in
    let known : Fills (f + w) (run (64 * (f + w)) 64 ∷ []) (first_over (run (64 * (f + w)) 64 ∷ [])) = subst (λ x. Fills (f + w) (run (64 * (f + w)) 64 ∷ []) (run x 1 ∷ [])) at (fills_word (f + w) unit.1) in
    subst (λ rs. Fills (f + w) rs (first_over rs)) (sym runs) known

pub shut_half : (n f w : ℕ) (r : Region) (m now : Known)
    → IsIn n r.dim r
    → r.dim % 6 ≡ 0
    → 0 < r.dim
    → f ≡ first_word (n / 6 - (r.dim / 6 - 1))
    → w ≡ r.base / 2 ^ r.dim
    → HasRun (both_halves n r) m
    → now.0.runs ≡ first_over m.0.runs
    → now.1 ≡ m.1
    → HasRun (run_of n r) now
shut_half n f w r m now inside whole more is_f is_w has_run shut slots =
    let unit = unit_is n f w r inside whole more is_f is_w in
    let runs : m.0.runs ≡ run (64 * (f + w)) 64 ∷ [] = has_run.0 ∙ ap (λ x. x ∷ []) unit.2 in
    let at : 64 * (f + w) / 64 - 1 ≡ f + w - 1 = omega arith in
    (shut ∙ ap first_over runs ∙ ap (λ x. run x 1 ∷ []) at ∙ ap (λ x. x ∷ []) (sym unit.0), slots ∙ has_run.1)

-- ---- each half

pub half_in : (n : ℕ) (r : Region)
    → IsIn n r.dim r
    → 0 < r.dim
    → IsIn n (r.dim - 1) (lower_half r) × IsIn n (r.dim - 1) (upper_half r)
half_in n r inside more =
    let two : 2 ^ r.dim ≡ 2 * 2 ^ (r.dim - 1) = double r.dim more in
    let parts : r.base / 2 ^ r.dim * 2 ^ r.dim + r.base % 2 ^ r.dim ≡ r.base = div-add-mod' r.base (2 ^ r.dim) in
    let rows : r.base / 2 ^ r.dim * 2 * 2 ^ (r.dim - 1) ≡ r.base / 2 ^ r.dim * 2 ^ r.dim = mul_assoc (r.base / 2 ^ r.dim) 2 (2 ^ (r.dim - 1)) ∙ ap (λ z. r.base / 2 ^ r.dim * z) (sym two) in
    let lower : r.base ≡ r.base / 2 ^ r.dim * 2 * 2 ^ (r.dim - 1) = omega (arith, rows, parts, inside.begins) in
    let sum : (r.base / 2 ^ r.dim * 2 + 1) * 2 ^ (r.dim - 1) ≡ r.base / 2 ^ r.dim * 2 * 2 ^ (r.dim - 1) + 1 * 2 ^ (r.dim - 1) = add-mul (r.base / 2 ^ r.dim * 2) 1 (2 ^ (r.dim - 1)) in
    let upper : r.base + 2 ^ (r.dim - 1) ≡ (r.base / 2 ^ r.dim * 2 + 1) * 2 ^ (r.dim - 1) = omega (arith, sum, lower) in
    let fits = inside.fits in
    let within = inside.within in (
      record {
        dimension = refl;
        begins = ap (λ z. z % 2 ^ (r.dim - 1)) lower ∙ multiple (r.base / 2 ^ r.dim * 2) (r.dim - 1);
        within = omega (arith, within, two);
        fits = omega (arith, fits);
      },
      record {
        dimension = refl;
        begins = ap (λ z. z % 2 ^ (r.dim - 1)) upper ∙ multiple (r.base / 2 ^ r.dim * 2 + 1) (r.dim - 1);
        within = omega (arith, within, two);
        fits = omega (arith, fits);
      },
    )

-- the place of the upper half
pub upper_place : (n base k : ℕ)
    → base % 2 ^ k ≡ 0
    → place_in n (k / 6) (base + 2 ^ k) ≡ place_in n (k / 6) base + 2 ^ (k % 6)
upper_place n base k begins =
    let whole = (units base k begins).0 in
    let sum : (base / 2 ^ (6 * (k / 6)) + 2 ^ (k % 6)) * 2 ^ (6 * (k / 6)) ≡ base / 2 ^ (6 * (k / 6)) * 2 ^ (6 * (k / 6)) + 2 ^ (k % 6) * 2 ^ (6 * (k / 6)) = add-mul (base / 2 ^ (6 * (k / 6))) (2 ^ (k % 6)) (2 ^ (6 * (k / 6))) in
    let is : base + 2 ^ k ≡ (base / 2 ^ (6 * (k / 6)) + 2 ^ (k % 6)) * 2 ^ (6 * (k / 6)) = omega (arith, sum, whole, dim_split k) in
    let value : (base + 2 ^ k) / 2 ^ (6 * (k / 6)) ≡ base / 2 ^ (6 * (k / 6)) + 2 ^ (k % 6) = ap (λ z. z / 2 ^ (6 * (k / 6))) is ∙ mul-div_cancel (base / 2 ^ (6 * (k / 6)) + 2 ^ (k % 6)) (pow_pos (6 * (k / 6))) in
    omega (arith, value)

-- the base of the upper half, as the code has it
pub half_base : (r : Region) (n : ℕ)
    → n ≤ MAX_BITMAP_DIM
    → r.dim ≤ n
    → r.base + 1 * 2 ^ (r.dim - 1) % 18446744073709551616 ≡ r.base + 2 ^ (r.dim - 1)
half_base r n small fits = ap (λ x. r.base + x) (one_shl (r.dim - 1) 64 (omega (arith, small, fits)))

half_len : (L : ℕ) → (2 * L / 2 ≡ L) × (2 * L - 2 * L / 2 ≡ L)
half_len L = (omega arith, omega arith)

pub lower_run : (n : ℕ) (r : Region) (m now : Known)
    → HasRun (both_halves n r) m
    → now ≡ (with_lower m.0, m.1)
    → HasRun (run_of n (lower_half r)) now
lower_run n r m now has_run kept =
    let L : ℕ = 2 ^ ((r.dim - 1) % 6) in
    let runs : now.0.runs ≡ run (place_in n ((r.dim - 1) / 6) r.base) (2 * 2 ^ ((r.dim - 1) % 6) / 2) ∷ [] = ap (λ (x : Known). x.0.runs) kept ∙ ap lower_first has_run.0 in
    (runs ∙ ap (λ L. run (place_in n ((r.dim - 1) / 6) r.base) L ∷ []) (half_len (2 ^ ((r.dim - 1) % 6))).0, ap (λ (x : Known). x.1) kept ∙ has_run.1)

pub upper_run : (n : ℕ) (r : Region) (m other : Known)
    → IsIn n r.dim r
    → 0 < r.dim
    → HasRun (both_halves n r) m
    → other ≡ (only_upper m.0, [])
    → HasRun (run_of n (upper_half r)) other
upper_run n r m other inside more has_run cut =
    let begins = (half_in n r inside more).0.begins in
    let len = half_len (2 ^ ((r.dim - 1) % 6)) in
    let runs : other.0.runs ≡ run (place_in n ((r.dim - 1) / 6) r.base + 2 * 2 ^ ((r.dim - 1) % 6) / 2) (2 * 2 ^ ((r.dim - 1) % 6) - 2 * 2 ^ ((r.dim - 1) % 6) / 2) ∷ [] = ap (λ (x : Known). x.0.runs) cut ∙ ap upper_first has_run.0 in
    let at : place_in n ((r.dim - 1) / 6) r.base + 2 * 2 ^ ((r.dim - 1) % 6) / 2 ≡ place_in n ((r.dim - 1) / 6) (r.base + 2 ^ (r.dim - 1)) = omega (arith, len.0, upper_place n r.base (r.dim - 1) begins) in
    (runs ∙ ap₂ (λ b L. run b L ∷ []) at len.1, ap (λ (x : Known). x.1) cut)

-- ---- two halves

pub whole_in : (n : ℕ) (a b : Region)
    → IsIn n a.dim a
    → IsIn n b.dim b
    → AreHalves a b
    → IsIn n (a.dim + 1) (whole_of a)
whole_in n a b inside_a inside_b halves =
    let two : 2 ^ (a.dim + 1) ≡ 2 * 2 ^ a.dim = let back : a.dim + 1 - 1 ≡ a.dim = omega arith in double (a.dim + 1) (omega arith) ∙ ap (λ e. 2 * 2 ^ e) back in
    let size : 2 ^ b.dim ≡ 2 ^ a.dim = ap (λ e. 2 ^ e) halves.alike in
    let within : a.base + 2 ^ (a.dim + 1) ≤ 2 ^ n = omega (arith, two, size, halves.next, inside_b.within) in
    record {
      dimension = refl;
      begins = halves.even;
      within = within;
      fits = elim (cases_lt n (a.dim + 1)) [
        | inl less ↦
            let most : 2 ^ n ≤ 2 ^ a.dim = pow_mono (omega (arith, less)) in
            let more : 0 < 2 ^ a.dim = pow_pos a.dim in
            absurd (omega (arith, most, more, within, two))
        | inr fits ↦ fits
      ];
    }

pub next_runs : (n : ℕ) (a b : Region) (v w : Known)
    → IsIn n a.dim a
    → AreHalves a b
    → v.0.runs ≡ run_of n a ∷ []
    → w.0.runs ≡ run_of n b ∷ []
    → AreNext v.0.runs w.0.runs
next_runs n a b v w inside halves is_a is_b =
    let same : run_of n b ≡ run (place_in n (a.dim / 6) (a.base + 2 ^ a.dim)) (2 ^ (a.dim % 6)) = ap₂ (λ x d. run_of n (record { base = x; dim = d })) halves.next halves.alike in
    let next : place_in n (b.dim / 6) b.base ≡ place_in n (a.dim / 6) a.base + 2 ^ (a.dim % 6) = ap (λ (r : Run). r.base) same ∙ upper_place n a.base a.dim inside.begins in
    subst (λ rs. AreNext rs w.0.runs) (sym is_a) (subst (λ rs. AreNext (run_of n a ∷ []) rs) (sym is_b) next)

pub glued_run : (n : ℕ) (a b : Region) (v w now : Known)
    → AreHalves a b
    → HasRun (run_of n a) v
    → HasRun (run_of n b) w
    → now ≡ (glued v.0 w.0, v.1)
    → HasRun (both_halves n (whole_of a)) now
glued_run n a b v w now halves has_a has_b is =
    let back : a.dim ≡ a.dim + 1 - 1 = omega arith in
    let len : 2 ^ (b.dim % 6) ≡ 2 ^ (a.dim % 6) = ap (λ d. 2 ^ (d % 6)) halves.alike in
    let sum : 2 ^ (a.dim % 6) + 2 ^ (b.dim % 6) ≡ 2 * 2 ^ (a.dim % 6) = omega (arith, len) in
    let runs : now.0.runs ≡ run (place_in n (a.dim / 6) a.base) (2 ^ (a.dim % 6) + 2 ^ (b.dim % 6)) ∷ [] = ap (λ (x : Known). x.0.runs) is ∙ ap₂ glued_runs has_a.0 has_b.0 in
    (runs ∙ ap (λ L. run (place_in n (a.dim / 6) a.base) L ∷ []) sum ∙ ap (λ d. run (place_in n (d / 6) a.base) (2 * 2 ^ (d % 6)) ∷ []) back, ap (λ (x : Known). x.1) is ∙ has_a.1)
