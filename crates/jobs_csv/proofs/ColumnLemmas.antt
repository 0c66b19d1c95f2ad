-- Records of three fields, and others.
use Rattle.std.proofs.Common.{◌≡◌, ◌≢◌, ℕ, zero, suc, ◌<◌, ◌==◌, Bool, List, [], ◌∷◌, length, Some, is_some, true, false, Ok, Err, if◌then◌else◌, refl, sym, ap, ◌∙◌, arith}
use Rattle.std.proofs.lemmas.Bool.Decides.{nat_tests}
use Rattle.std.specs.Cmp.Lexicographic.{pointwise}
use Rattle.std.specs.Str.{bytes_eq}
use Rattle.csv.specs.Records.{field_at}
use Rattle.jobs_csv.specs.declared.fault.FaultKind.TheVariants as what
use Rattle.jobs_csv.specs.Columns.{header_of}

-- there is a field at each index below their number
pub has_field : (fields : List (List ℕ)) (index : ℕ)
    → index < length fields
    → is_some (field_at fields index) ≡ true
unfolding field_at
has_field [] index lt = absurd (omega arith)
has_field (field ∷ fields) zero lt = refl
has_field (field ∷ fields) (suc index) lt = has_field fields index (omega arith)

-- a record of three fields is the list of these
pub three : (fields : List (List ℕ)) (a b c : List ℕ)
    → length fields ≡ 3
    → field_at fields 0 ≡ Some a
    → field_at fields 1 ≡ Some b
    → field_at fields 2 ≡ Some c
    → fields ≡ a ∷ b ∷ c ∷ []
unfolding field_at
three [] a b c n p0 p1 p2 = absurd (omega arith)
three (f0 ∷ []) a b c n p0 p1 p2 = absurd (omega arith)
three (f0 ∷ f1 ∷ []) a b c n p0 p1 p2 = absurd (omega arith)
three (f0 ∷ f1 ∷ f2 ∷ []) a b c n p0 p1 p2 = cc
three (f0 ∷ f1 ∷ f2 ∷ f3 ∷ rest) a b c n p0 p1 p2 = absurd (omega arith)

-- a record of another number of fields is no header
pub no_header : (columns fields : List (List ℕ))
    → length fields ≢ length columns
    → header_of columns fields ≡ Err what.Fields
unfolding header_of
no_header columns fields n =
    let other : (length fields == length columns) ≡ false = grind (arith, nat_tests) in
    ap (λ same. if same then (if pointwise bytes_eq fields columns then Ok tt else Err what.Word) else Err what.Fields) other

-- the check of a header with as many fields as there are columns, by whether they have these texts
pub header_by_texts : (columns fields : List (List ℕ)) (are : Bool)
    → length fields ≡ length columns → are ≡ pointwise bytes_eq fields columns
    → header_of columns fields ≡ (if are then Ok tt else Err what.Word)
unfolding header_of
header_by_texts columns fields are n texts =
    let same : (length fields == length columns) ≡ true = grind (arith, nat_tests) in
    ap (λ same. if same then (if pointwise bytes_eq fields columns then Ok tt else Err what.Word) else Err what.Fields) same
    ∙ ap (λ good. if good then Ok tt else Err what.Word) (sym texts)
