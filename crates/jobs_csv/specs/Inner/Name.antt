-- How a name is stored: followed by zeros, 16 bytes in all. The two lemmas are for the model of a
-- name.
use Rattle.std.specs.Prelude.{◌≡◌, ℕ, suc, zero, ◌≤◌, ◌-◌, ◌||◌, Bool, true, List, [], ◌∷◌, ◌++◌, length, take, drop}
use Rattle.std.specs.Char.{is_ascii_digit, is_ascii_lowercase}
use Rattle.std.proofs.Common.{ap, sym, subst, ◌∙◌, take-append-drop, length-take-le}
use Rattle.jobs_csv.specs.Name.{is_name}

-- Whether the byte is a small letter or a digit.
abbrev pub is_name_byte : ℕ → Bool
is_name_byte byte = is_ascii_lowercase byte || is_ascii_digit byte

-- A list of `n` zeros.
unfoldable pub zeros : ℕ → List ℕ
zeros zero = []
zeros (suc n) = 0 ∷ zeros n

-- The first `len` of 16 bytes are a name, and the others are zeros.
pub record IsPadded (len : ℕ) (bytes : List ℕ) : Type 0 where
  pub size : length bytes ≡ 16
  pub within : len ≤ 16
  pub name : is_name (take len bytes) ≡ true
  pub padding : drop len bytes ≡ zeros (16 - len)

-- The text of the name has the length `len`.
pub same_len : (len : ℕ) (bytes : List ℕ) → IsPadded len bytes → length (take len bytes) ≡ len
same_len len bytes h = length-take-le len bytes (subst (λ n. len ≤ n) (sym h.size) h.within)

-- The text and its zeros are all the bytes.
pub same_bytes : (len : ℕ) (bytes : List ℕ)
    → IsPadded len bytes
    → take len bytes ++ zeros (16 - length (take len bytes)) ≡ bytes
same_bytes len bytes h =
    ap (λ n. take len bytes ++ zeros (16 - n)) (same_len len bytes h)
    ∙ ap (λ more. take len bytes ++ more) (sym h.padding)
    ∙ take-append-drop len bytes
