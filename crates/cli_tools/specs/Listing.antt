-- The list of all messages of a collective, in the order of their numbers.
use Rattle.std.specs.Prelude.{◌≡◌, ℕ, ◌^◌, ◌<◌, List, length, slice_index_or}
use Rattle.collectives.specs.Messages.{IsMessage, message_number}
use Rattle.collectives.specs.declared.shape.Shape.{Shape}
use Rattle.collectives.specs.declared.shape.Shape.TheVariants.{Broadcast, Reduce, AllReduce, Scan}
use Rattle.cli_tools.specs.declared.rows.MessageRow.{MessageRow}

-- A collective of the shape on `2^k` places may have this root. The root of a broadcast or of a
-- reduction is the rank of a place. The others have none, which is written as 0.
abbrev pub IsRoot : Shape → ℕ → ℕ → Type 0
IsRoot Broadcast k root = root < 2 ^ k
IsRoot Reduce k root = root < 2 ^ k
IsRoot AllReduce k root = root ≡ 0
IsRoot Scan k root = root ≡ 0

-- The row has the message of this number, and no other message has that number.
pub record HasNumber (shape : Shape) (k root number : ℕ) (row : MessageRow) : Type 0 where
  pub is : IsMessage shape k root row.message
  pub has : message_number shape k root row.message ≡ number
  pub alone : (other : MessageRow)
      → IsMessage shape k root other.message
      → message_number shape k root other.message ≡ number
      → other.message ≡ row.message

-- The rows have all messages of the collective, in the order of their numbers. The number of each
-- message is that of its row.
pub record AreMessages (shape : Shape) (k root : ℕ) (rows : List MessageRow) : Type 0 where
  pub each : (number : ℕ) (none : MessageRow)
      → number < length rows
      → HasNumber shape k root number (slice_index_or rows number none)
  pub all : (row : MessageRow)
      → IsMessage shape k root row.message
      → message_number shape k root row.message < length rows
