-- What is known of a store of two files.
use Rattle.std.specs.Prelude.{ℕ, List, Option, None, Some, bytes_eq, if◌then◌else◌}

-- A store of two files in memory. One is read, the other is written. Each has a name and its bytes.
pub record TwoFilesOf : Type 0 where
  pub input : List ℕ
  pub read : List ℕ
  pub output : List ℕ
  pub written : List ℕ

-- The bytes of the file of this name. Nothing is known of a file that is neither of the two.
abbrev pub bytes_in : TwoFilesOf → List ℕ → Option (List ℕ)
bytes_in files name =
    if bytes_eq name files.input then Some files.read else if bytes_eq name files.output then Some
    files.written else None
