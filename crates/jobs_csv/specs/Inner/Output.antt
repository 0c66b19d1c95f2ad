-- The bytes of a line that is written, and the fields that they spell, for the proofs of rows.
use Rattle.std.specs.Prelude.{◌≡◌, ℕ, ◌==◌, List, [], ◌∷◌, ◌++◌, if◌then◌else◌}
use Rattle.std.specs.List.{flat_map}

-- The fields that commas end, if these bytes of the first one are read already. Bytes with no comma
-- after them are no field.
abbrev pub fields_after : List ℕ → List ℕ → List (List ℕ)
fields_after begun [] = []
fields_after begun (byte ∷ bytes) =
    if byte == 44 then begun ∷ fields_after [] bytes else fields_after (begun ++ byte ∷ []) bytes

-- The fields that commas end.
abbrev pub fields_in : List ℕ → List (List ℕ)
fields_in bytes = fields_after [] bytes

-- The fields with a comma after each.
abbrev pub with_commas : List (List ℕ) → List ℕ
with_commas fields = flat_map (λ field. field ++ 44 ∷ []) fields

-- The bytes are fields with a comma after each, and what follows begins a further field.
pub record IsEnded (bytes : List ℕ) : Type 0 where
  pub all : bytes ≡ with_commas (fields_in bytes)
  pub more : (next : List ℕ) → fields_in (bytes ++ next) ≡ fields_in bytes ++ fields_in next
