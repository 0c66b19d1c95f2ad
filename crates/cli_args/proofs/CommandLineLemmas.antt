-- The parse of the program's words.
use Rattle.std.proofs.Common.{◌≡◌, ◌⊎◌, inl, inr, ℕ, Bool, true, false, List, [], ◌∷◌, Option, Some, None, IfSome, Ok, bytes_eq, codes, if◌then◌else◌, refl, sym, ap, ap₂, subst, ◌∙◌}
use Rattle.std.specs.Str.Parse.{ParsesBool, digits_value, without_leading_plus}
use Rattle.clap.specs.Words.{ReadsOne, Text, fault_of, first_of, first_value, is_simple, is_simple_and_free, one_text, rows_of}
use Rattle.clap.specs.declared.parser.matches.Found.{Found}
use Rattle.clap.proofs.OnLiterals.{clap_on_literals}
use Rattle.clap.proofs.WalkLemmas.{first_value-rows, one_text-rows}
use Rattle.clap.specs.Words.{HasKind, IsAmong, Row, kind_of}
use Rattle.clap.specs.declared.error.Error.{Error}
use Rattle.clap.specs.declared.error.kind.ErrorKind.{ErrorKind}
use Rattle.clap.specs.declared.error.kind.ErrorKind.TheVariants.{ArgumentConflict, OutOfMemory}
use Rattle.cli_args.specs.CommandLine.{HasFlag, HasOptionValue, are_apart, file_faults, file_named, first_faults, program_app}

-- the program is one whose parse `clap` defines
pub program_is_simple : is_simple program_app ≡ true
unfolding clap_on_literals
program_is_simple = refl

pub program_is_free : is_simple_and_free program_app ≡ true
unfolding clap_on_literals
program_is_free = refl

-- the number of an option, by its text
pub option_value : (found : Found) (option : Text) (n : ℕ)
    → (text : Text) × (one_text found option ≡ Some text)
    × (n ≡ digits_value 10 (without_leading_plus text))
    → HasOptionValue (rows_of found) option n
option_value found option n (text, is, number) = (text, sym (one_text-rows found option) ∙ is, number)

not_none : {A : Type 0} (x : A) → Some x ≡ None → ⊥
not_none x is = cc

-- the text of a flag that was read
flag_text : (E : Type 0) (text : Text) (is_set : Bool)
    → ParsesBool {E = E} text (Ok is_set)
    → text ≡ (if is_set then codes "true" else codes "false")
flag_text E text true is = is
flag_text E text false is = is

-- a flag, by its text
pub flag : (E : Type 0) (found : Found) (option : Text) (read : Option Bool)
    → (one_text found option ≡ None → read ≡ None)
    → ((t : List ℕ) → one_text found option ≡ Some t → ReadsOne (ParsesBool {E = E}) t read)
    → IfSome read (λ is_set. HasFlag (rows_of found) option is_set)
flag E found option None none value = tt
flag E found option (Some is_set) none value = has (one_text found option) refl
  where
    has : (text : Option Text)
        → one_text found option ≡ text
        → HasFlag (rows_of found) option is_set
    has None is = absurd (not_none is_set (none is))
    has (Some t) is = sym (one_text-rows found option) ∙ is ∙ ap Some (flag_text E t is_set (value t is))

-- the file that an argument names, by its first value
named : (found : Found) (argument : Text) (value : Option Text)
    → value ≡ first_value found argument
    → file_named value ≡ file_named (first_of argument (rows_of found))
named found argument value is = ap file_named (is ∙ first_value-rows found argument)

-- the name that an argument was given, whatever it is
pub not_given : (found : Found) (argument : Text)
    → None ≡ first_value found argument
    → None ≡ first_of argument (rows_of found)
not_given found argument is = is ∙ first_value-rows found argument

pub given_name : (found : Found) (argument text name : Text)
    → Some text ≡ first_value found argument
    → name ≡ text
    → Some name ≡ first_of argument (rows_of found)
given_name found argument text name is same = ap Some same ∙ is ∙ first_value-rows found argument

-- an argument that is not given
pub no_file : (found : Found) (argument : Text)
    → None ≡ first_value found argument
    → None ≡ file_named (first_of argument (rows_of found))
no_file found argument is = named found argument None is

-- an argument that is a dash
pub dash : (found : Found) (argument text : Text)
    → Some text ≡ first_value found argument
    → bytes_eq text (codes "-") ≡ true
    → None ≡ file_named (first_of argument (rows_of found))
dash found argument text is equal = sym (ap (λ (b : Bool). if b then None else Some text) equal) ∙ named found argument (Some text) is

-- an argument that is the name of a file
pub a_file : (found : Found) (argument text name : Text)
    → Some text ≡ first_value found argument
    → bytes_eq text (codes "-") ≡ false
    → name ≡ text
    → Some name ≡ file_named (first_of argument (rows_of found))
a_file found argument text name is differs same = ap Some same ∙ sym (ap (λ (b : Bool). if b then None else Some text) differs) ∙ named found argument (Some text) is

-- ---- what is wrong with the words

among_first : (kind : ErrorKind) (kinds others : List ErrorKind)
    → IsAmong kind kinds
    → IsAmong kind (first_faults kinds others)
among_first kind [] others among = absurd among
among_first kind (first ∷ more) others among = among

-- what `clap` finds is wrong with them
pub still_wrong : (e : Error) (kinds others : List ErrorKind)
    → HasKind kinds e
    → HasKind (first_faults kinds others) e
still_wrong e kinds others (inl memory) = inl memory
still_wrong e kinds others (inr among) = inr (among_first (kind_of e) kinds others among)

-- the faults of files, by what `clap` finds
faults_in : (options : List Row) (command : Text) (output events : Option Text) (apart : Bool)
    → output ≡ file_named (first_of (codes "output") options)
    → events ≡ first_of (codes "events") options
    → apart ≡ are_apart output events
    → file_faults (Some (command, options)) ≡ (if apart then [] else ArgumentConflict ∷ [])
faults_in options command output events apart is_output is_events is =
    ap (λ (b : Bool). if b then [] else ArgumentConflict ∷ [])
    (sym (is ∙ ap₂ are_apart is_output is_events))

-- the words are good, or their events have no file of their own
pub own_file : (words : List Text) (options : List Row) (command : Text)
    (output events : Option Text) (apart : Bool) (found : Option (Text × List Row))
    → fault_of program_app words ≡ []
    → found ≡ Some (command, options)
    → output ≡ file_named (first_of (codes "output") options)
    → events ≡ first_of (codes "events") options
    → apart ≡ are_apart output events
    → first_faults (fault_of program_app words) (file_faults found)
    ≡ (if apart then [] else ArgumentConflict ∷ [])
own_file words options command output events apart found good is is_output is_events same =
    ap (λ (kinds : List ErrorKind). first_faults kinds (file_faults found)) good
    ∙ ap file_faults is ∙ faults_in options command output events apart is_output is_events same

-- an error of such words
pub no_file_of_its_own : (e : Error) (kinds : List ErrorKind)
    → kinds ≡ ArgumentConflict ∷ []
    → (kind_of e ≡ ArgumentConflict) ⊎ (kind_of e ≡ OutOfMemory)
    → HasKind kinds e
no_file_of_its_own e kinds is (inl conflict) = inr (subst (IsAmong (kind_of e)) (sym is) (inl conflict))
no_file_of_its_own e kinds is (inr memory) = inl memory
