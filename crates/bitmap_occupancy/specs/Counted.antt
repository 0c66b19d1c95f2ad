-- A count of the words of a machine as a trail read them.
use Rattle.std.specs.Prelude.{◌≡◌, ℕ, ◌+◌, ◌-◌, ◌*◌, ◌/◌, ◌^◌, ◌<◌, ◌≤◌, List, [], length}
use Rattle.bitmap_tree.specs.Reads.{reads_of, AreSeen}
use Rattle.bitmap_tree.specs.Rule.{first_word, word_count}
use Rattle.bitmap_tree.specs.Trail.{OnlyLooked}
use Rattle.bitmap_tree.specs.declared.view.Note.{Note}
use Rattle.bitmap_occupancy.specs.declared.summary.Occupancy.{Occupancy}
use Rattle.bitmap_occupancy.specs.Summary.{IsOccupancy}

-- The steps of the trail are loads. They read each word of each level once, and no other word
-- twice. The occupancy is that of any machine with the words that they found.
pub record IsCountOf (n : ℕ) (trail : List Note) (occupancy : Occupancy) : Type 0 where
  pub looked : OnlyLooked [] trail
  pub once : (w : ℕ) → reads_of w trail ≤ 1
  pub each : (level m : ℕ) → level ≤ n / 6 → m < 2 ^ (n - 6 * level - 6)
      → reads_of (first_word (n / 6 - level) + m) trail ≡ 1
  pub counts : (words : List ℕ) → length words ≡ word_count n → AreSeen trail words
      → IsOccupancy n words occupancy
