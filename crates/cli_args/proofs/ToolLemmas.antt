-- The parse of the words of `check` and of `messages`.
use Rattle.std.proofs.Common.{◌≡◌, Bool, true, Option, Some, refl, sym, ◌∙◌}
use Rattle.clap.specs.Words.{Text, first_of, first_value, is_simple, is_simple_and_free, rows_of}
use Rattle.clap.specs.declared.parser.matches.Found.{Found}
use Rattle.clap.proofs.OnLiterals.{clap_on_literals}
use Rattle.clap.proofs.WalkLemmas.{first_value-rows}
use Rattle.cli_args.specs.CheckLine.{check_app}
use Rattle.cli_args.specs.MessagesLine.{messages_app}

-- the commands are those whose parse `clap` defines
pub messages_is_simple : is_simple messages_app ≡ true
unfolding clap_on_literals
messages_is_simple = refl

pub check_is_simple : is_simple check_app ≡ true
unfolding clap_on_literals
check_is_simple = refl

pub check_is_free : is_simple_and_free check_app ≡ true
unfolding clap_on_literals
check_is_free = refl

pub messages_is_free : is_simple_and_free messages_app ≡ true
unfolding clap_on_literals
messages_is_free = refl

-- the first text of an option
pub first_text : (found : Found) (option text : Text)
    → Some text ≡ first_value found option
    → first_of option (rows_of found) ≡ Some text
first_text found option text is = sym (is ∙ first_value-rows found option)
