-- Fields that need no quotes.
use Rattle.std.proofs.Common.{◌≡◌, ℕ, zero, suc, ◌+◌, ◌%◌, ◌^◌, ◌<◌, ◌≤◌, ◌⊎◌, ◌||◌, ◌&&◌, ◌==◌, Bool, true, false, List, [], ◌∷◌, ◌++◌, codes, length, nat_lt, None, All, if◌then◌else◌, refl, sym, inl, inr, arith}
use Rattle.std.specs.List.{list_any, list_all, flat_map, range_with_len}
use Rattle.std.specs.Fmt.{decimal}
use Rattle.std.specs.Int.{bit_at}
use Rattle.std.specs.Char.{is_ascii_digit, is_ascii_lowercase}
use Rattle.std.proofs.lemmas.Fmt.{decimal_by_steps}
use Rattle.std.proofs.lemmas.Bool.{false≢true}
use Rattle.std.proofs.lemmas.Bool.Decides.{nat_tests}
use Rattle.std.proofs.lemmas.List.Elements.{All-append, All-push}
use Rattle.csv.specs.Writing.{default_writer, needs_byte}
use Rattle.cube_shape.specs.declared.limits.TheConstants.{MAX_STATIONS}
use Rattle.cube_core.specs.declared.act.Refused.{Refused}
use Rattle.cube_core.specs.declared.act.Refused.TheVariants as why
use Rattle.cube_core.specs.declared.event.Kind.{Kind}
use Rattle.cube_core.specs.declared.event.Kind.TheVariants as kind
use Rattle.cube_core.specs.declared.event.Note.{Note}
use Rattle.cube_core.specs.declared.event.Note.TheVariants as note
use Rattle.job_types.specs.declared.kind.Kind.{Kind as Collective}
use Rattle.job_types.specs.declared.kind.Kind.TheVariants as collective
use Rattle.status_word.specs.Text.{mark_text, text_if, use_text, word_text}
use Rattle.status_word.specs.Word.{mark_bit, use_of}
use Rattle.jobs_csv.specs.declared.place_rows.PlaceRow.{PlaceRow}
use Rattle.jobs_csv.specs.declared.place_rows.PlaceRow.TheVariants as row
use Rattle.jobs_csv.specs.Name.{is_name}
use Rattle.jobs_csv.specs.Inner.Name.{is_name_byte}
use Rattle.jobs_csv.specs.Inner.Rows.{command_text, outcome_text}
use Rattle.jobs_csv.specs.ReplayRows.{event_keyword, node_word_text, note_keyword, reason_keyword}
use Rattle.jobs_csv.specs.Replies.{collective_keyword}
use Rattle.jobs_csv.specs.Text.{IsPlainField, number_text}

-- bytes that need no quotes: a space, and those from the minus sign on
plain_byte : (byte : ℕ) → (byte ≡ 32) ⊎ (45 ≤ byte) → needs_byte default_writer byte ≡ false
plain_byte byte h = grind (arith, nat_tests)

pub all_one : (byte : ℕ) → needs_byte default_writer byte ≡ false → IsPlainField (byte ∷ [])
all_one byte plain = record { each = All-push (λ b. needs_byte default_writer b ≡ false) [] byte (λ k d lt. absurd (omega arith)) plain }

pub all_both : (a b : List ℕ) → IsPlainField a → IsPlainField b → IsPlainField (a ++ b)
all_both a b p q = record { each = All-append (λ byte. needs_byte default_writer byte ≡ false) a b p.each q.each }

pub plain_nothing : IsPlainField []
plain_nothing = record { each = λ k d lt. absurd (omega arith) }

-- the digits of a number
pub plain_decimal : (n : ℕ) → n < 2 ^ 64 → IsPlainField (decimal n)
plain_decimal n lt =
    decimal_by_steps (λ _ digits. IsPlainField digits)
    (λ digit _. all_one (48 + digit) (plain_byte (48 + digit) (inr (omega arith))))
    (λ more digits _ p. all_both digits ((48 + more % 10) ∷ []) p (all_one (48 + more % 10) (plain_byte (48 + more % 10) (inr (omega arith)))))
    n lt

first_false : (a b : Bool) → (a || b) ≡ false → a ≡ false
first_false true b e = e
first_false false b e = refl

second_false : (a b : Bool) → (a || b) ≡ false → b ≡ false
second_false true b e = absurd (false≢true (sym e))
second_false false b e = e

-- a text of such bytes, by a test
plain_letter : (field : List ℕ)
    → list_any (needs_byte default_writer) field ≡ false
    → All (λ byte. needs_byte default_writer byte ≡ false) field
plain_letter [] e k d lt = absurd (omega arith)
plain_letter (byte ∷ field) e zero d lt = first_false (needs_byte default_writer byte) (list_any (needs_byte default_writer) field) e
plain_letter (byte ∷ field) e (suc k) d lt = plain_letter field (second_false (needs_byte default_writer byte) (list_any (needs_byte default_writer) field) e) k d (omega arith)

pub plain_text : (field : List ℕ)
    → list_any (needs_byte default_writer) field ≡ false
    → IsPlainField field
plain_text field e = record { each = plain_letter field e }

pub plain_dash : IsPlainField (number_text None)
plain_dash = plain_text (codes "-") refl

pub plain_space : IsPlainField (32 ∷ [])
plain_space = plain_text (32 ∷ []) refl

-- what is before a place
pub plain_separator : (is_first : Bool) → IsPlainField (if is_first then [] else 32 ∷ [])
plain_separator true = plain_nothing
plain_separator false = plain_space

both_true : (a b : Bool) → (a && b) ≡ true → (a ≡ true) × (b ≡ true)
both_true true b e = (refl, e)
both_true false b e = absurd (false≢true e)

either_true : (a b : Bool) → (a || b) ≡ true → (a ≡ true) ⊎ (b ≡ true)
either_true true b e = inl refl
either_true false b e = inr e

-- a small letter or a digit
plain_name_byte : (byte : ℕ) → is_name_byte byte ≡ true → needs_byte default_writer byte ≡ false
plain_name_byte byte is = plain_byte byte (inr (large byte (either_true (is_ascii_lowercase byte) (is_ascii_digit byte) is)))
  where
    large : (b : ℕ) → (is_ascii_lowercase b ≡ true) ⊎ (is_ascii_digit b ≡ true) → 45 ≤ b
    large b (inl small) = grind (arith, nat_tests)
    large b (inr digit) = grind (arith, nat_tests)

plain_bytes : (text : List ℕ) → list_all is_name_byte text ≡ true → IsPlainField text
plain_bytes [] all = plain_nothing
plain_bytes (byte ∷ text) all =
    let k = both_true (is_name_byte byte) (list_all is_name_byte text) all in
    all_both (byte ∷ []) text (all_one byte (plain_name_byte byte k.0)) (plain_bytes text k.1)

-- a name
pub plain_name : (text : List ℕ) → is_name text ≡ true → IsPlainField text
plain_name text name =
    plain_bytes text (last (nat_lt 0 (length text)) (nat_lt (length text) 17) (list_all is_name_byte text) name)
  where
    last : (a b c : Bool) → (a && b && c) ≡ true → c ≡ true
    last true true c e = e
    last true false c e = absurd (false≢true e)
    last false b c e = absurd (false≢true e)

pub plain_command : (r : PlaceRow) → IsPlainField (command_text r)
plain_command (row.Given name dim base) = plain_text (codes "take") refl
plain_command (row.Held name dim) = plain_text (codes "take") refl
plain_command (row.NoStation name dim) = plain_text (codes "take") refl
plain_command (row.NoSubcube name dim) = plain_text (codes "take") refl
plain_command (row.Freed name dim base) = plain_text (codes "free") refl
plain_command (row.NothingHeld name) = plain_text (codes "free") refl

pub plain_outcome : (r : PlaceRow) → IsPlainField (outcome_text r)
plain_outcome (row.Given name dim base) = plain_text (codes "given") refl
plain_outcome (row.Held name dim) = plain_text (codes "held") refl
plain_outcome (row.NoStation name dim) = plain_text (codes "nostation") refl
plain_outcome (row.NoSubcube name dim) = plain_text (codes "nosubcube") refl
plain_outcome (row.Freed name dim base) = plain_text (codes "freed") refl
plain_outcome (row.NothingHeld name) = plain_text (codes "nothingheld") refl

pub plain_event : (k : Kind) → IsPlainField (event_keyword k)
plain_event kind.Look = plain_text (codes "look") refl
plain_event kind.Claim = plain_text (codes "claim") refl
plain_event kind.Sweep = plain_text (codes "sweep") refl
plain_event kind.Raise = plain_text (codes "raise") refl
plain_event kind.Zero = plain_text (codes "zero") refl
plain_event kind.Unmark = plain_text (codes "unmark") refl
plain_event kind.Mark = plain_text (codes "mark") refl
plain_event kind.Child = plain_text (codes "child") refl
plain_event kind.Clear = plain_text (codes "clear") refl
plain_event kind.Retire = plain_text (codes "retire") refl

pub plain_note : (n : Note) → IsPlainField (note_keyword n)
plain_note note.Free = plain_text (codes "free") refl
plain_note note.InUse = plain_text (codes "inuse") refl
plain_note note.Lost = plain_text (codes "lost") refl
plain_note note.Climb = plain_text (codes "climb") refl
plain_note note.Held = plain_text (codes "held") refl
plain_note note.Ok = plain_text (codes "ok") refl
plain_note note.Under = plain_text (codes "under") refl
plain_note note.Done = plain_text (codes "done") refl
plain_note note.Stop = plain_text (codes "stop") refl
plain_note note.Used = plain_text (codes "used") refl
plain_note note.Keep = plain_text (codes "keep") refl
plain_note note.Retired = plain_text (codes "retired") refl

pub plain_collective : (k : Collective) → IsPlainField (collective_keyword k)
plain_collective (collective.Broadcast root) = plain_text (codes "broadcast") refl
plain_collective (collective.Reduce op root) = plain_text (codes "reduce") refl
plain_collective (collective.AllReduce op) = plain_text (codes "allreduce") refl
plain_collective (collective.Scan op) = plain_text (codes "scan") refl
plain_collective (collective.ExScan op) = plain_text (codes "exscan") refl

pub plain_why : (w : Refused) → IsPlainField (reason_keyword w)
plain_why why.NotIdle = plain_text (codes "notidle") refl
plain_why why.NotHolding = plain_text (codes "notholding") refl
plain_why why.NoStation = plain_text (codes "nostation") refl
plain_why why.NotInCube = plain_text (codes "notincube") refl
plain_why why.Resting = plain_text (codes "resting") refl

-- a choice between two plain fields is plain
either_plain : (b : Bool) (x y : List ℕ)
    → IsPlainField x
    → IsPlainField y
    → IsPlainField (if b then x else y)
either_plain true x y p q = p
either_plain false x y p q = q

plain_if : (w place : ℕ) (text : List ℕ) → IsPlainField text → IsPlainField (text_if w place text)
plain_if w place text p = either_plain (bit_at w place == 1) text [] p plain_nothing

plain_use : (w : ℕ) → IsPlainField (use_text w)
plain_use w =
    let o = text_if w 0 (codes "O") in
    let l = text_if w 1 (codes "L") in
    let r = text_if w 2 (codes "R") in
    let po = plain_if w 0 (codes "O") (plain_text (codes "O") refl) in
    let pl = plain_if w 1 (codes "L") (plain_text (codes "L") refl) in
    let pr = plain_if w 2 (codes "R") (plain_text (codes "R") refl) in
    either_plain (use_of w == 0) (codes "-") (o ++ l ++ r) plain_dash (all_both (o ++ l) r (all_both o l po pl) pr)

plain_mark : (w station : ℕ) → station < 2 ^ 64 → IsPlainField (mark_text w station)
plain_mark w station lt = plain_if w (mark_bit station) (codes "+" ++ decimal station) (all_both (codes "+") (decimal station) (plain_text (codes "+") refl) (plain_decimal station lt))

plain_marks : (w from n : ℕ)
    → from + n ≤ 2 ^ 64
    → IsPlainField (flat_map (mark_text w) (range_with_len from n))
plain_marks w from zero le = plain_nothing
plain_marks w from (suc n) le = all_both (mark_text w from) (flat_map (mark_text w) (range_with_len (from + 1) n)) (plain_mark w from (omega (arith, le))) (plain_marks w (from + 1) n (omega (arith, le)))

-- the text of a word
pub plain_word : (w : ℕ) → IsPlainField (word_text w)
plain_word w = all_both (use_text w) _ (plain_use w) (plain_marks w 0 MAX_STATIONS (omega arith))

pub plain_node_word : (node w : ℕ) → IsPlainField (node_word_text node w)
plain_node_word node w = either_plain (node == 0) (codes "-") (word_text w) plain_dash (plain_word w)
