-- The bytes of a line, field after field.
use Rattle.std.proofs.Common.{◌≡◌, ℕ, suc, ◌-◌, ◌≤◌, ◌==◌, Bool, false, List, [], ◌∷◌, ◌++◌, length, take, if◌then◌else◌, refl, sym, ap, ◌∙◌, append-nil, append_assoc, arith}
use Rattle.std.specs.List.{join_with_byte}
use Rattle.std.proofs.lemmas.List.{flat_map_more, length-append}
use Rattle.std.proofs.Math.Seq.{take-append_seam}
use Rattle.std.proofs.lemmas.Bool.Decides.{nat_tests}
use Rattle.csv.specs.Writing.{default_writer, needs_byte}
use Rattle.jobs_csv.specs.Inner.Output.{IsEnded, fields_after, fields_in, with_commas}
use Rattle.jobs_csv.specs.Text.{IsPlainField, line_of}

-- no byte of a plain field is a comma
no_comma : (byte : ℕ) → needs_byte default_writer byte ≡ false → (byte == 44) ≡ false
no_comma byte plain = grind (arith, nat_tests)

-- a plain field ends at the comma after it
field_ends : (begun field rest : List ℕ)
    → IsPlainField field
    → fields_after begun (field ++ 44 ∷ rest) ≡ (begun ++ field) ∷ fields_in rest
field_ends begun [] rest plain = ap (λ (f : List ℕ). f ∷ fields_in rest) (sym (append-nil begun))
field_ends begun (byte ∷ field) rest plain =
    let more : IsPlainField field = record { each = λ k d lt. plain.each (suc k) d (omega (arith, lt)) } in
    ap (λ (ends : Bool). if ends then begun ∷ fields_in (field ++ 44 ∷ rest) else fields_after (begun ++ byte ∷ []) (field ++ 44 ∷ rest)) (no_comma byte (plain.each 0 byte (omega arith)))
    ∙ field_ends (begun ++ byte ∷ []) field rest more
    ∙ ap (λ (f : List ℕ). f ∷ fields_in rest) (append_assoc begun (byte ∷ []) field)

-- a line with no field
pub none_ended : IsEnded []
none_ended = record { all = refl; more = λ next. refl }

-- the fields with one more
pub field_pushed : (line field : List ℕ)
    → IsPlainField field
    → IsEnded line
    → fields_in (line ++ (field ++ 44 ∷ [])) ≡ fields_in line ++ field ∷ []
field_pushed line field plain ended = ended.more (field ++ 44 ∷ []) ∙ ap (λ (more : List (List ℕ)). fields_in line ++ more) (field_ends [] field [] plain)

-- a line with one more field
pub more_ended : (line field : List ℕ)
    → IsPlainField field
    → IsEnded line
    → IsEnded (line ++ (field ++ 44 ∷ []))
more_ended line field plain ended =
    let pushed = field_pushed line field plain ended in
    record {
      all = ap (λ (l : List ℕ). l ++ (field ++ 44 ∷ [])) ended.all ∙ flat_map_more (λ (f : List ℕ). f ++ 44 ∷ []) [] (fields_in line) field ∙ ap with_commas (sym pushed);
      more = λ next.
          ap fields_in (append_assoc line (field ++ 44 ∷ []) next ∙ ap (λ (l : List ℕ). line ++ l) (append_assoc field (44 ∷ []) next))
          ∙ ended.more (field ++ 44 ∷ next)
          ∙ ap (λ (more : List (List ℕ)). fields_in line ++ more) (field_ends [] field next plain)
          ∙ sym (append_assoc (fields_in line) (field ∷ []) (fields_in next))
          ∙ ap (λ (fields : List (List ℕ)). fields ++ fields_in next) (sym pushed);
    }

-- commas after the fields are commas between them and one after the last
commas_after : (first : List ℕ) (rest : List (List ℕ))
    → with_commas (first ∷ rest) ≡ join_with_byte 44 (first ∷ rest) ++ 44 ∷ []
commas_after first [] = append-nil (first ++ 44 ∷ [])
commas_after first (second ∷ rest) =
    ap (λ (more : List ℕ). (first ++ 44 ∷ []) ++ more) (commas_after second rest)
    ∙ append_assoc first (44 ∷ []) (join_with_byte 44 (second ∷ rest) ++ 44 ∷ [])
    ∙ sym (append_assoc first (44 ∷ join_with_byte 44 (second ∷ rest)) (44 ∷ []))

-- the last byte is a comma
ends_in_comma : (line : List ℕ) (fields : List (List ℕ))
    → 1 ≤ length fields
    → line ≡ with_commas fields
    → line ≡ join_with_byte 44 fields ++ 44 ∷ []
ends_in_comma line [] some all = absurd (omega (arith, some))
ends_in_comma line (first ∷ rest) some all = all ∙ commas_after first rest

-- a line with a field has a byte
pub has_byte : (line : List ℕ) → 1 ≤ length (fields_in line) → IsEnded line → 1 ≤ length line
has_byte line some ended =
    let text = join_with_byte 44 (fields_in line) in
    let same = ap (λ (l : List ℕ). length l) (ends_in_comma line (fields_in line) some ended.all) in
    omega (arith, same, length-append text (44 ∷ []))

-- a line feed in place of the last comma
pub line_fed : (line : List ℕ)
    → 1 ≤ length (fields_in line)
    → IsEnded line
    → take (length line - 1) line ++ 10 ∷ [] ≡ line_of (fields_in line)
unfolding line_of
line_fed line some ended =
    let text = join_with_byte 44 (fields_in line) in
    let same = ends_in_comma line (fields_in line) some ended.all in
    let count : length line - 1 ≡ length text = omega (arith, ap (λ (l : List ℕ). length l) same, length-append text (44 ∷ [])) in
    ap (λ (l : List ℕ). l ++ 10 ∷ []) (ap (λ (n : ℕ). take n line) count ∙ ap (take (length text)) same ∙ take-append_seam text (44 ∷ []))
