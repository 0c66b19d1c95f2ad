-- The end of a machine: which stations have retired, and what is left.
use Rattle.std.specs.Prelude.{◌≡◌, ℕ, ◌+◌, ◌^◌, ◌<◌, ◌↔◌, List, ◌∷◌, map, vec_len, slice_index}
use Rattle.status_word.specs.Word.{IsSet}
use Rattle.tree_steps.specs.Rule.{times}
use Rattle.cube_tree.specs.declared.handles.TreeStation.{TreeStation}
use Rattle.cube_tree.specs.declared.handles.FreeMachine.{FreeMachine}
use Rattle.cube_tree.specs.Handles.{station_entry}

-- Each station below the count is in the list.
abbrev pub HasAll : ℕ → List TreeStation → Type 0
HasAll count stations = (s : ℕ) → s < count → 0 < times s (map station_entry stations)

-- The number of the station is below the count.
abbrev pub HasNumberBelow : ℕ → TreeStation → Type 0
HasNumberBelow count station = (station_entry station).station < count

-- The stations below the count whose bit a load of the roll found clear.
abbrev pub IsMissing : ℕ → ℕ → ℕ → Type 0
IsMissing count roll missing = (s : ℕ) → IsSet missing s ↔ ((s < count) × (IsSet roll s → ⊥))

-- A load of the roll found the bit of each station below the count.
abbrev pub IsWhole : ℕ → ℕ → Type 0
IsWhole count roll = (s : ℕ) → s < count → IsSet roll s

-- The dimension of a closed machine.
abbrev pub machine_dim : FreeMachine → ℕ
machine_dim machine = machine.dim

-- The words of a closed machine.
abbrev pub machine_words : FreeMachine → List ℕ
machine_words machine = machine.words.items

-- What the loads of the roll of a closed machine found, the newest first.
abbrev pub machine_loads : FreeMachine → List ℕ
machine_loads machine = machine.seat.me.0.loads

-- The last load of the roll, after those `before`, found the bit of each station below the count.
-- What it found is word 0 of the machine.
pub record ClosedByRoll (count : ℕ) (before : List ℕ) (machine : FreeMachine) : Type 0 where
  pub roll : ℕ
  pub loads : machine_loads machine ≡ roll ∷ before
  pub whole : IsWhole count roll
  pub word : slice_index (machine_words machine) 0 ≡ roll

-- Every block of the machine of dimension `n` is free. There is a word for each node and for the
-- roll, and that of each node is 0.
pub record IsWhollyFree (n : ℕ) (machine : FreeMachine) : Type 0 where
  pub dim : machine_dim machine ≡ n
  pub count : vec_len machine.words ≡ 2 ^ (n + 1)
  pub nodes : (node : ℕ) → 0 < node → slice_index (machine_words machine) node ≡ 0
