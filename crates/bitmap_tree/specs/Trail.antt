-- What the steps of a call found.
use Rattle.std.specs.Prelude.{◌≡◌, cond, ◌==◌, ℕ, ◌+◌, ◌-◌, ◌*◌, ◌/◌, ◌%◌, ◌^◌, ◌<◌, ◌≤◌, ◌⊎◌, max, List, [], ◌∷◌}
use Rattle.std.specs.Int.{bit_at}
use Rattle.cube_shape.specs.declared.region.Region.{Region}
use Rattle.cube_shape.specs.Region.{block, IsAligned}
use Rattle.bitmap_tree.specs.declared.view.Note.{Note}
use Rattle.bitmap_tree.specs.declared.view.Run.{Run}
use Rattle.bitmap_tree.specs.Rule.{has}
use Rattle.bitmap_tree.specs.Layout.{run_of, unit_around}

-- a step found the bit of the place q set
abbrev pub WasSet : List Note → ℕ → Type 0
WasSet [] q = ⊥
WasSet (n ∷ ns) q = ((n.word ≡ q / 64) × (bit_at n.found (q % 64) ≡ 1)) ⊎ WasSet ns q

-- a bit of the region was found set: a unit of it was held, or opened to the level below, or its
-- word was shut
abbrev pub WasTaken : ℕ → List Note → Region → Type 0
WasTaken n trail r = (q : ℕ) × (0 < has q (run_of n r)) × WasSet trail q

-- of each region of dimension k of the machine of dimension n a bit was found set
abbrev pub WasEachTaken : ℕ → ℕ → List Note → Type 0
WasEachTaken n k trail = (m : ℕ) → m < 2 ^ (n - k) → WasTaken n trail (block k m)

-- No region of dimension k was found free: of each a bit was found set, and in each level above the
-- bit of each unit. So where a region's bits were set for its word was shut, the unit over the word
-- was found set too.
abbrev pub WasRefused : ℕ → ℕ → List Note → Type 0
WasRefused n k trail =
    (level : ℕ) → k / 6 ≤ level → level ≤ n / 6 → WasEachTaken n (max k (6 * level)) trail

-- The block was not found free. A bit of it was found set, and so was the bit of the unit around it
-- in each level above.
abbrev pub WasBlockTaken : ℕ → Region → List Note → Type 0
WasBlockTaken n r trail =
    (level : ℕ) → r.dim / 6 ≤ level → level ≤ n / 6 → WasTaken n trail (unit_around level r)

-- ---- what the steps left

-- No other call made a step between. The words are as the steps of this call left them, and each
-- step found what the step before it on its word had left.
abbrev pub IsAlone : (ℕ → ℕ) → List Note → Type 0
IsAlone words [] = Unit {0}
IsAlone words (n ∷ ns) =
    (words n.word ≡ n.left) × IsAlone (λ w. cond (w == n.word) n.found (words w)) ns

-- another call made a step between these
abbrev pub WasDisturbed : List Note → Type 0
WasDisturbed trail = (words : ℕ → ℕ) → IsAlone words trail → ⊥

-- the bits of the run were set and are clear, and no other bit of the word changed
abbrev pub Clears : Run → Note → Type 0
Clears r n = (q : ℕ) → q / 64 ≡ n.word → bit_at n.found (q % 64) ≡ bit_at n.left (q % 64) + has q r

-- the first step after an older trail was on the word of the run, and cleared it
abbrev pub WasReleased : Run → List Note → List Note → Type 0
WasReleased r before [] = ⊥
WasReleased r before (n ∷ ns) =
    ((r.base / 64 ≡ n.word) × Clears r n × (ns ≡ before)) ⊎ WasReleased r before ns

-- ---- what a step changed

-- the bits of the run were clear and are set, and no other bit of the word changed
abbrev pub Claims : Run → Note → Type 0
Claims r n = (q : ℕ) → q / 64 ≡ n.word → bit_at n.left (q % 64) ≡ bit_at n.found (q % 64) + has q r

-- the word was shut, and is open with the bits of the run alone
abbrev pub OpensWith : Run → Note → Type 0
OpensWith r n =
    (n.found ≡ 18446744073709551615)
    × ((q : ℕ) → q / 64 ≡ n.word → bit_at n.left (q % 64) ≡ has q r)

-- the newest step was on the word of the run, and claimed it, or opened the word with it
abbrev pub WasClaimed : Run → List Note → Type 0
WasClaimed r [] = ⊥
WasClaimed r (n ∷ ns) = (r.base / 64 ≡ n.word) × (Claims r n ⊎ OpensWith r n)

-- The step changed nothing. Or it claimed, opened or cleared the bits of an aligned block in its
-- word. Or it shut the word, which was empty.
abbrev pub IsRightStep : ℕ → Note → Type 0
IsRightStep n x =
    (x.left ≡ x.found)
    ⊎ ((r : Region)
    × IsAligned n r
    × ((run_of n r).base / 64 ≡ x.word)
    × (Claims (run_of n r) x ⊎ OpensWith (run_of n r) x ⊎ Clears (run_of n r) x))
    ⊎ ((x.found ≡ 0) × (x.left ≡ 18446744073709551615))

-- Each step of a trail is right.
abbrev pub AreRightSteps : ℕ → List Note → Type 0
AreRightSteps n [] = Unit {0}
AreRightSteps n (x ∷ xs) = IsRightStep n x × AreRightSteps n xs

-- the steps after an older trail changed nothing
abbrev pub OnlyLooked : List Note → List Note → Type 0
OnlyLooked before [] = before ≡ []
OnlyLooked before (x ∷ xs) =
    (x ∷ xs ≡ before) ⊎ ((x.left ≡ x.found) × OnlyLooked before xs)
