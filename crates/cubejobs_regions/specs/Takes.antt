-- What a take changes in the handle of a block.
use Rattle.std.specs.Prelude.{◌≡◌, ◌≢◌, ℕ, ◌≤◌, List, Option, length, slice_index, Some}
use Rattle.cube_shape.specs.declared.region.Region.{Region}
use Rattle.cube_shape.specs.Region.{IsAligned}
use Rattle.bitmap_tree.specs.Alone.{HasNoBlock, IsInUse}
use Rattle.bitmap_tree.specs.Bounds.{block_steps, exact_steps}
use Rattle.bitmap_tree.specs.Layout.{run_of}
use Rattle.bitmap_tree.specs.Trail.{AreRightSteps, IsAlone, WasBlockTaken, WasClaimed, WasDisturbed, WasRefused}
use Rattle.bitmap_tree.specs.declared.view.Note.{Note}
use Rattle.cubejobs_regions.specs.declared.answer.Answer.{Answer}
use Rattle.cubejobs_regions.specs.declared.block_handle.BlockHandle.{BlockHandle}
use Rattle.cubejobs_regions.specs.declared.codes.TheConstants.{DONE, NOT_NOW}
use Rattle.cubejobs_regions.specs.declared.machine.Machine.{Machine}
use Rattle.cubejobs_regions.specs.Answers.{region_at, region_of, NamesNone}
use Rattle.cubejobs_regions.specs.Handle.{refusal_of_take}
use Rattle.cubejobs_regions.specs.Holding.{IsHoldOf}
use Rattle.cubejobs_regions.specs.Holds.{hold_of, hold_trail, Hold}
use Rattle.cubejobs_regions.specs.Machine.{dim_of_machine, OnMachine}

-- The machine has a block of this dimension that begins at this processor.
abbrev pub HasBlock : ℕ → ℕ → Machine → Type 0
HasBlock base dim machine = IsAligned (dim_of_machine machine) (region_at base dim)

-- The handle holds the block of the answer, which is one of the machine. The newest of at most
-- `most` steps claimed it.
pub record IsTaken (most : ℕ) (machine : Machine) (new : BlockHandle) (answer : Answer) :
    Type 0 where
  pub hold : Hold
  pub is : hold_of new ≡ Some hold
  pub of_machine : IsHoldOf machine hold
  pub region : region_of answer ≡ hold.region
  pub aligned : IsAligned (dim_of_machine machine) hold.region
  pub claimed : WasClaimed (run_of (dim_of_machine machine) hold.region) (hold_trail hold)
  pub steps : AreRightSteps (dim_of_machine machine) (hold_trail hold)
  pub few : length (hold_trail hold) ≤ most

-- What each take answers, of at most this number of steps by the dimension of the machine. A block
-- is in the new handle, or it holds what the old one held. Only a take that gave up a word says so.
pub record IsAnsweredBy (most : ℕ → ℕ) (thread : Option Machine) (old new : BlockHandle)
    (answer : Answer) : Type 0 where
  pub barred : refusal_of_take thread old ≢ DONE → answer.code ≡ refusal_of_take thread old
  pub taken : answer.code ≡ DONE
      → OnMachine (λ machine. IsTaken (most (dim_of_machine machine)) machine new answer) thread
  pub same : answer.code ≢ DONE → hold_of new ≡ hold_of old
  pub none : answer.code ≢ DONE → NamesNone answer
  pub quiet : answer.code ≢ NOT_NOW → answer.contended ≡ 0
  pub one : answer.contended ≤ 1

-- A take on a machine of dimension `n` looked at each word before it was refused. Where it gave up
-- no word, it found a bit of each block of dimension `k` set. Where it gave one up, another call
-- made a step. And if none did, no block of the dimension is free.
pub record FoundNoRoom (n k contended : ℕ) (trail : List Note) : Type 0 where
  pub no_room : contended ≡ 0 → WasRefused n k trail
  pub disturbed : contended ≢ 0 → WasDisturbed trail
  pub alone : (words : List ℕ) → IsAlone (slice_index words) trail
      → HasNoBlock n k words
  pub few : length trail ≤ exact_steps n

-- The same for a take of one block, of which a part was found in use.
pub record FoundInUse (n : ℕ) (block : Region) (contended : ℕ) (trail : List Note) : Type 0 where
  pub taken : contended ≡ 0 → WasBlockTaken n block trail
  pub disturbed : contended ≢ 0 → WasDisturbed trail
  pub alone : (words : List ℕ) → IsAlone (slice_index words) trail
      → IsInUse n words block
  pub few : length trail ≤ block_steps n
