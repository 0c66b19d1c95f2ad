-- The rows of the messages so far.
use Rattle.std.proofs.Common.{◌≡◌, ℕ, ◌^◌, ◌<◌, List, [], ◌∷◌, ◌++◌, length, slice_index_or, inl, inr, sym, subst, ◌∙◌, arith}
use Rattle.std.proofs.Math.Pow.{pow_pos}
use Rattle.std.proofs.lemmas.Bool.{cases_lt}
use Rattle.std.proofs.lemmas.List.{get_or_append_left, get_or_push, length_push}
use Rattle.collectives.specs.declared.shape.Shape.{Shape}
use Rattle.collectives.specs.declared.shape.Shape.TheVariants.{Broadcast, Reduce, AllReduce, Scan}
use Rattle.cli_tools.specs.Listing.{HasNumber, IsRoot}
use Rattle.cli_tools.specs.declared.rows.MessageRow.{MessageRow}

-- each row has the message of its number
pub record AreNumbered (shape : Shape) (k root : ℕ) (rows : List MessageRow) : Type 0 where
  pub each : (number : ℕ) (none : MessageRow)
      → number < length rows
      → HasNumber shape k root number (slice_index_or rows number none)

-- one message more
pub one_more : (shape : Shape) (k root number : ℕ) (rows : List MessageRow) (row : MessageRow)
    → length rows ≡ number
    → AreNumbered shape k root rows
    → HasNumber shape k root number row
    → AreNumbered shape k root (rows ++ row ∷ [])
one_more shape k root number rows row count before last = record {
  each = λ n none lt. elim (cases_lt n (length rows)) [
    | inl below ↦ subst (HasNumber shape k root n) (sym (get_or_append_left rows (row ∷ []) none n below)) (before.each n none below)
    | inr past ↦
        let same : length rows ≡ n = omega (arith, length_push rows row, lt) in
        subst (HasNumber shape k root n) (sym (get_or_push rows row none n same)) (subst (λ (m : ℕ). HasNumber shape k root m row) (sym count ∙ same) last)
  ];
}

-- a root is the rank of a place
pub root_below : (shape : Shape) (k root : ℕ) → IsRoot shape k root → root < 2 ^ k
root_below Broadcast k root is = is
root_below Reduce k root is = is
root_below AllReduce k root is = omega (arith, is, pow_pos k)
root_below Scan k root is = omega (arith, is, pow_pos k)
