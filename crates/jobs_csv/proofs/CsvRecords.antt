-- The records that a reader has given are the first of all the records of a text.
use Rattle.std.proofs.Common.{◌≡◌, ℕ, zero, suc, ◌+◌, ◌<◌, ◌≤◌, ◌==◌, Bool, true, false, List, [], ◌∷◌, ◌++◌, length, Option, Some, None, if◌then◌else◌, refl, sym, ap, subst, append-nil, ◌∙◌, arith}
use Rattle.std.proofs.lemmas.Bool.{false≢true}
use Rattle.csv.specs.declared.parser.State.{State}
use Rattle.csv.specs.declared.parser.State.TheVariants as st
use Rattle.csv.specs.declared.parser.Action.{Action}
use Rattle.csv.specs.declared.parser.Action.TheVariants as act
use Rattle.csv.specs.Machine.{Read, ends_with, step, in_field, start_field, start_record, after_end, is_end, ends_at_end, fields_after, field_after, next_record}
use Rattle.csv.specs.Reading.{default_config, records, records_from, records_next, Reached, AreRecords}

-- the parser is between two records
abbrev Rests : State → Type 0
Rests s = ends_at_end s ≡ false

-- a move that ends a record leaves the parser between two records
record EndsAtRest (move : State × Action) : Type 0 where
  at_rest : is_end move.1 ≡ true → Rests move.0

either : (b : Bool) (x y : State × Action)
    → EndsAtRest x
    → EndsAtRest y
    → EndsAtRest (if b then x else y)
either true x y p q = p
either false x y p q = q

after_end-rests : (b : Bool) → Rests (if b then st.AfterCr else st.StartRecord)
after_end-rests true = refl
after_end-rests false = refl

-- a move that ends no record
goes_on : (s : State) (a : Action) → is_end a ≡ false → EndsAtRest (s, a)
goes_on s a none = record { at_rest = λ e. absurd (false≢true (sym none ∙ e)) }

-- the move at the end of a line
ends_line : (c : ℕ) → EndsAtRest (after_end default_config.terminator c, act.EndRecord)
ends_line c = record { at_rest = λ _. after_end-rests (c == 13) }

in_field-rests : (c : ℕ) → EndsAtRest (in_field default_config c)
in_field-rests c =
    either (c == 44) (st.StartField, act.EndField) (if ends_with default_config.terminator c then (after_end default_config.terminator c, act.EndRecord) else (st.InField, act.Copy))
    (goes_on st.StartField act.EndField refl)
    (either (ends_with default_config.terminator c) (after_end default_config.terminator c, act.EndRecord) (st.InField, act.Copy) (ends_line c) (goes_on st.InField act.Copy refl))

start_field-rests : (c : ℕ) → EndsAtRest (start_field default_config c)
start_field-rests c = either (c == 34) (st.InQuoted, act.Skip) (in_field default_config c) (goes_on st.InQuoted act.Skip refl) (in_field-rests c)

start_record-rests : (c : ℕ) → EndsAtRest (start_record default_config c)
start_record-rests c = either (ends_with default_config.terminator c) (st.StartRecord, act.Skip) (start_field default_config c) (goes_on st.StartRecord act.Skip refl) (start_field-rests c)

step-rests : (s : State) (c : ℕ) → EndsAtRest (step default_config s c)
step-rests st.StartRecord c = start_record-rests c
step-rests st.StartField c = start_field-rests c
step-rests st.InField c = in_field-rests c
step-rests st.InQuoted c = either (c == 34) (st.AfterQuote, act.Skip) (st.InQuoted, act.Copy) (goes_on st.AfterQuote act.Skip refl) (goes_on st.InQuoted act.Copy refl)
step-rests st.InEscape c = goes_on st.InQuoted act.Copy refl
step-rests st.AfterQuote c = either (c == 34) (st.InQuoted, act.Copy) (in_field default_config c) (goes_on st.InQuoted act.Copy refl) (in_field-rests c)
step-rests st.InComment c = either (c == 10) (st.StartRecord, act.Skip) (st.InComment, act.Skip) (goes_on st.StartRecord act.Skip refl) (goes_on st.InComment act.Skip refl)
step-rests st.AfterCr c = either (c == 10) (st.StartRecord, act.Skip) (start_record default_config c) (goes_on st.StartRecord act.Skip refl) (start_record-rests c)

-- after a record the parser is between two records, with no more bytes than before
record Leaves (size : ℕ) (p : Read) : Type 0 where
  rests : Rests p.1
  fewer : length p.2 ≤ size

-- what holds for either choice holds for the chosen one
chosen : (b : Bool) (x y : Option Read) (p : Read) (P : Type 0)
    → (if b then x else y) ≡ Some p
    → (b ≡ true → x ≡ Some p → P)
    → (b ≡ false → y ≡ Some p → P)
    → P
chosen true x y p P e f g = f refl e
chosen false x y p P e f g = g refl e

some_same : (x p : Read) (size : ℕ) → Leaves size x → Some x ≡ Some p → Leaves size p
some_same x p size h e = let same : x ≡ p = cc in subst (Leaves size) same h

weaker : (p : Read) (m n : ℕ) → m ≤ n → Leaves m p → Leaves n p
weaker p m n h k = record { rests = k.rests; fewer = omega arith }

leaves : (s : State) (fields : List (List ℕ)) (field xs : List ℕ) (p : Read)
    → next_record default_config s fields field xs ≡ Some p
    → Leaves (length xs) p
unfolding next_record
leaves s fields field [] p e =
    chosen (ends_at_end s) (Some (fields ++ (field ∷ []), st.StartRecord, [])) None p (Leaves 0 p) e
    (λ _ d. some_same (fields ++ (field ∷ []), st.StartRecord, []) p 0 (record { rests = refl; fewer = omega arith }) d)
    (λ _ d. absurd (cc))
leaves s fields field (c ∷ rest) p e =
    let move = step default_config s c in
    let more = next_record default_config move.0 (fields_after move.1 fields field) (field_after move.1 c field) rest in
    chosen (is_end move.1) (Some (fields_after move.1 fields field, move.0, rest)) more p (Leaves (length (c ∷ rest)) p) e
    (λ b d. some_same (fields_after move.1 fields field, move.0, rest) p (length (c ∷ rest)) (record { rests = (step-rests s c).at_rest b; fewer = omega arith }) d)
    (λ b d. weaker p (length rest) (length (c ∷ rest)) (omega arith) (leaves move.0 (fields_after move.1 fields field) (field_after move.1 c field) rest p d))

-- from there, a record takes at least one byte
takes : (s : State) (xs : List ℕ) (p : Read)
    → Rests s
    → next_record default_config s [] [] xs ≡ Some p
    → (length p.2 < length xs) × Rests p.1
unfolding next_record
takes s [] p rest e = chosen (ends_at_end s) (Some ([] ++ ([] ∷ []), st.StartRecord, [])) None p ((length p.2 < 0) × Rests p.1) e (λ b _. absurd (false≢true (sym rest ∙ b))) (λ _ d. absurd (cc))
takes s (c ∷ bytes) p rest e =
    let move = step default_config s c in
    let more = next_record default_config move.0 (fields_after move.1 [] []) (field_after move.1 c []) bytes in
    let k = chosen (is_end move.1) (Some (fields_after move.1 [] [], move.0, bytes)) more p (Leaves (length bytes) p) e
    (λ b d. some_same (fields_after move.1 [] [], move.0, bytes) p (length bytes) (record { rests = (step-rests s c).at_rest b; fewer = omega arith }) d)
    (λ b d. leaves move.0 (fields_after move.1 [] []) (field_after move.1 c []) bytes p d) in
    (omega (arith, k.fewer), k.rests)

-- the records of a text are those given so far and those of the bytes that are left
record Split (n : ℕ) (s : State) (xs : List ℕ) (rows : List (List (List ℕ))) (s2 : State)
    (ys : List ℕ) : Type 0 where
  turns : ℕ
  enough : length ys < turns
  same : records_from default_config n s xs ≡ rows ++ records_from default_config turns s2 ys

split : (rows : List (List (List ℕ))) (n : ℕ) (s : State) (xs : List ℕ) (s2 : State) (ys : List ℕ)
    → Rests s
    → length xs < n
    → Reached default_config s xs rows s2 ys
    → Split n s xs rows s2 ys
unfolding Reached records_from
split [] n s xs s2 ys rest lt r = record { turns = n; enough = rw (sym r.1) lt; same = rw (r.0, r.1) refl }
split (row ∷ rows) zero s xs s2 ys rest lt r = absurd (omega arith)
split (row ∷ rows) (suc n) s xs s2 ys rest lt r =
    let k = takes s xs r.0 rest r.1 in
    let more = split rows n r.0.1 r.0.2 s2 ys k.1 (omega (arith, k.0, lt)) r.3 in
    record {
      turns = more.turns;
      enough = more.enough;
      same = ap (records_next (records_from default_config n)) r.1 ∙ ap (λ first. first ∷ records_from default_config n r.0.1 r.0.2) (sym r.2) ∙ ap (λ rest. row ∷ rest) more.same;
    }

-- if there is no next record, none is left
ended : (turns : ℕ) (s : State) (ys : List ℕ)
    → length ys < turns
    → next_record default_config s [] [] ys ≡ None
    → records_from default_config turns s ys ≡ []
unfolding records_from
ended zero s ys lt none = absurd (omega arith)
ended (suc turns) s ys lt none = ap (records_next (records_from default_config turns)) none

-- the records that were given are the first of all records
pub first_records : (bytes : List ℕ) (rows : List (List (List ℕ))) (s : State) (left : List ℕ)
    → Reached default_config st.StartRecord bytes rows s left
    → (more : List (List (List ℕ))) × (records default_config bytes ≡ rows ++ more)
first_records bytes rows s left r =
    let all = split rows (length bytes + 1) st.StartRecord bytes s left refl (omega arith) r in
    (records_from default_config all.turns s left, all.same)

-- if no more follow, they are all records
pub whole_records : (bytes : List ℕ) (rows : List (List (List ℕ)))
    → AreRecords default_config st.StartRecord bytes rows
    → records default_config bytes ≡ rows
whole_records bytes rows r =
    let all = split rows (length bytes + 1) st.StartRecord bytes r.0 r.1 refl (omega arith) r.2 in
    all.same ∙ ap (λ more. rows ++ more) (ended all.turns r.0 r.1 all.enough r.3) ∙ append-nil rows
