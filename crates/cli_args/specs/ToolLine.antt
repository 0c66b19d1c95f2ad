-- The command line of `check` or `messages` within that of the program.
use Rattle.std.specs.Prelude.{◌||◌, ◌++◌, Bool, List, [], ◌∷◌, Option, None, Some, bytes_eq, codes, if◌then◌else◌}
use Rattle.clap.specs.Words.{Text}

-- Whether the word is the name of `check` or of `messages`.
abbrev pub is_tool : Text → Bool
is_tool word = bytes_eq word (codes "check") || bytes_eq word (codes "messages")

-- The words for one of the two, from its name on, and then the option for its help.
abbrev pub help_words : List Text → Option (List Text)
help_words [] = None
help_words (name ∷ words) =
    if is_tool name then Some ((name ∷ words) ++ codes "--help" ∷ []) else None

-- The words for `check` or `messages` among those of the program, whose name is the first. They are
-- those from the command's name on. The word `help` before them asks for the help.
abbrev pub tool_words : List Text → Option (List Text)
tool_words [] = None
tool_words (program ∷ []) = None
tool_words (program ∷ name ∷ words) =
    if is_tool name then Some (name ∷ words)
    else if bytes_eq name (codes "help") then help_words words
    else None
