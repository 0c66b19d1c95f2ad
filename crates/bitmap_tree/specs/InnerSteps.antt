-- What the steps of the table say, and how its seats are cut and joined.
use Rattle.std.specs.Prelude.{◌≡◌, ◌≢◌, ℕ, zero, suc, ◌+◌, ◌-◌, ◌*◌, ◌/◌, ◌%◌, ◌<◌, ◌≤◌, min, List, [], ◌∷◌, ◌++◌}
use mathlib.Core.Option.{Option, some, none}
use Rattle.atomic_table.specs.Table.{Step}
use Rattle.ghost_history.specs.Lists.{first_of, rest_of}
use Rattle.bitmap_tree.specs.declared.view.Run.{Run}
use Rattle.bitmap_tree.specs.declared.view.Note.{Note}
use Rattle.bitmap_tree.specs.declared.view.View.{View}
use Rattle.std.specs.Int.{bit_at}
use Rattle.bitmap_tree.specs.Layout.{Known}
use Rattle.bitmap_tree.specs.Rule.{run}
use Rattle.bitmap_tree.specs.InnerRule.{times}

-- a step found this in a word, and left that there
abbrev pub note : ℕ → ℕ → ℕ → Note
note word found left = record { word = word; found = found; left = left }

-- the seat with these runs, once a step has found this in a word and left that there
abbrev pub after : List Run → ℕ → ℕ → ℕ → Known → Known
after runs word found left m =
    (record { runs = runs; trail = note word found left ∷ m.0.trail; permits = m.0.permits }, m.1)

abbrev pub Telling : Type 1
Telling = Step Run → Known → ℕ → Known → Type 0

-- a new seat has an empty run
abbrev pub enters : Telling
enters step before found now =
    now
    ≡ (record { runs = run 0 0 ∷ []; trail = note step.word found found ∷ []; permits = 0 }, [])

-- a load with which a call begins: what earlier calls found is forgotten
abbrev pub begins : Telling
begins step before found now =
    now
    ≡ (
      record {
        runs = before.0.runs;
        trail = note step.word found found ∷ [];
        permits = before.0.permits;
      },
      before.1,
    )

-- a load changes no run
abbrev pub loads : Telling
loads step before found now = now ≡ after before.0.runs step.word found found before

-- the run that is said takes the place of the first one
abbrev pub said_first : Option Run → List Run → List Run
said_first (some r) runs = r ∷ rest_of runs
said_first none runs = runs

-- the exchange was won where it found what it was to find
abbrev pub claims : Telling
claims step before found now =
    (found ≡ step.first
    → now ≡ after (said_first step.said before.0.runs) step.word found step.second before)
    × (found ≢ step.first → now ≡ after before.0.runs step.word found found before)

-- the exchange is won, whatever happens
abbrev pub opens_word : Telling
opens_word step before found now =
    (found ≡ step.first)
    × (now ≡ after (said_first step.said before.0.runs) step.word found step.second before)

-- what a run is left with once its part in a word, and all after it, is cleared
abbrev pub cut_at : ℕ → Run → Run
cut_at word r = run r.base (64 * word - r.base)

abbrev pub cut_first : ℕ → List Run → List Run
cut_first word [] = []
cut_first word (r ∷ rs) = cut_at word r ∷ rs

abbrev pub clears : Telling
clears step before found now =
    (now ≡ after (cut_first step.word before.0.runs) step.word found (found - step.first) before)
    × ((q : ℕ) → q / 64 ≡ step.word → times q before.0.runs ≤ bit_at found (q % 64))

-- the place of the unit, this number of levels up, in which a place lies
abbrev pub up : ℕ → ℕ → ℕ
up zero q = q
up (suc d) q = up d (q / 64 - 1)

-- the place has at least this number of levels above it
abbrev pub IsUnder : ℕ → ℕ → Type 0
IsUnder zero q = Unit {0}
IsUnder (suc d) q = (0 < q / 64) × IsUnder d (q / 64 - 1)

-- No place is in two runs, and no place under one that is in a run
pub record AreRunsApart (runs : List Run) : Type 0 where
  pub once : (q : ℕ) → times q runs ≤ 1
  pub under : (d q : ℕ) → IsUnder (suc d) q → 0 < times (up (suc d) q) runs → times q runs ≡ 0

abbrev pub tells_apart : Telling
tells_apart step before found now =
    (now ≡ after before.0.runs step.word found found before) × AreRunsApart before.0.runs

-- the bits of the word under the unit of the first run, in its place
abbrev pub first_under : List Run → List Run
first_under [] = []
first_under (r ∷ rs) = run (64 * (r.base + 1)) 64 ∷ rs

-- a load of the word under a unit: the seat has its bits instead of the unit
abbrev pub opens_whole : Telling
opens_whole step before found now =
    now ≡ after (first_under before.0.runs) step.word found found before

-- the unit over the word of the first run, in its place
abbrev pub first_over : List Run → List Run
first_over [] = []
first_over (r ∷ rs) = run (r.base / 64 - 1) 1 ∷ rs

-- a load of a word of which the seat has all bits: it has the unit instead
abbrev pub shuts_whole : Telling
shuts_whole step before found now =
    now ≡ after (first_over before.0.runs) step.word found found before

-- ---- seats are cut and joined

abbrev pub without_first : View → View
without_first v = record { runs = rest_of v.runs; trail = v.trail; permits = v.permits - 1 }

abbrev pub only_first : View → View
only_first v = record { runs = first_of v.runs; trail = []; permits = min v.permits 1 }

abbrev pub joined : View → View → View
joined v w = record { runs = v.runs ++ w.runs; trail = v.trail; permits = v.permits + w.permits }

abbrev pub spent : View
spent = record { runs = []; trail = []; permits = 0 }

-- the first run without its upper half
abbrev pub lower_first : List Run → List Run
lower_first [] = []
lower_first (r ∷ rs) = run r.base (r.len / 2) ∷ rs

-- the upper half of the first run, alone
abbrev pub upper_first : List Run → List Run
upper_first [] = []
upper_first (r ∷ rs) = run (r.base + r.len / 2) (r.len - r.len / 2) ∷ []

abbrev pub with_lower : View → View
with_lower v = record { runs = lower_first v.runs; trail = v.trail; permits = v.permits - 1 }

abbrev pub only_upper : View → View
only_upper v = record { runs = upper_first v.runs; trail = []; permits = min v.permits 1 }

-- the first runs of two lists as one run, if they are next to each other, and all others
abbrev pub glued_runs : List Run → List Run → List Run
glued_runs [] bs = bs
glued_runs (a ∷ rs) [] = a ∷ rs
glued_runs (a ∷ rs) (b ∷ bs) = run a.base (a.len + b.len) ∷ (rs ++ bs)

-- the first run of the second list begins where that of the first ends
abbrev pub AreNext : List Run → List Run → Type 0
AreNext [] bs = ⊥
AreNext (a ∷ rs) [] = ⊥
AreNext (a ∷ rs) (b ∷ bs) = b.base ≡ a.base + a.len

abbrev pub glued : View → View → View
glued v w =
    record { runs = glued_runs v.runs w.runs; trail = v.trail; permits = v.permits + w.permits }

abbrev pub without_permit : View → View
without_permit v = record { runs = v.runs; trail = v.trail; permits = v.permits - 1 }

abbrev pub one_permit : View → View
one_permit v = record { runs = run 0 0 ∷ []; trail = []; permits = min v.permits 1 }

-- ---- what a step asks

-- in the word that becomes `new`, each bit changes as the runs of the seat do; elsewhere the runs
-- have what they had
pub record Changes (i old new : ℕ) (before now : List Run) : Type 0 where
  pub here : (q : ℕ)
      → q / 64 ≡ i
      → times q now + bit_at old (q % 64) ≡ times q before + bit_at new (q % 64)
  pub there : (q : ℕ) → q / 64 ≢ i → times q now ≡ times q before

-- The seat has the unit over a word that is shut, and opens the word. Of it it has the bits that
-- are set in `new`.
pub record Opens (i new : ℕ) (before now : List Run) : Type 0 where
  pub some : 0 < i
  pub unit : 0 < times (i - 1) before
  pub above : times (i - 1) now + 1 ≡ times (i - 1) before
  pub here : (q : ℕ) → q / 64 ≡ i → times q now ≡ times q before + bit_at new (q % 64)
  pub there : (q : ℕ) → q / 64 ≢ i → q ≢ i - 1 → times q now ≡ times q before

-- An open word in which no bit is set is shut, and the seat gets the unit over it.
pub record Shuts (i : ℕ) (before now : List Run) : Type 0 where
  pub some : 0 < i
  pub above : times (i - 1) now ≡ times (i - 1) before + 1
  pub there : (q : ℕ) → q ≢ i - 1 → times q now ≡ times q before

-- The seat has each bit of the word, and gets the unit over it instead.
pub record Fills (i : ℕ) (before now : List Run) : Type 0 where
  pub some : 0 < i
  pub here : (q : ℕ) → q / 64 ≡ i → (0 < times q before) × (times q now + 1 ≡ times q before)
  pub above : times (i - 1) now ≡ times (i - 1) before + 1
  pub there : (q : ℕ) → q / 64 ≢ i → q ≢ i - 1 → times q now ≡ times q before

-- the bits that the mask has in the word are those that the first of the runs has there, and it has
-- none after them
pub record Loses (i mask : ℕ) (runs : List Run) : Type 0 where
  pub here : (q : ℕ) → q / 64 ≡ i → times q (cut_first i runs) + bit_at mask (q % 64) ≡ times q runs
  pub there : (q : ℕ) → q / 64 ≢ i → times q (cut_first i runs) ≡ times q runs
