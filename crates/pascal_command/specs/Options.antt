-- The options that are taken out of the words before `clap` reads them: how much is reported, how, and where it goes.
use Rattle.std.specs.Prelude.{Bool, true, false, ◌||◌, not, List, [], ◌∷◌, codes, nat_eq, if◌then◌else◌}
use Rattle.std.specs.Str.{bytes_eq}
use Rattle.std.specs.List.{starts_with}
use Rattle.pascal_command.specs.Command.{Text}
use Rattle.pascal_command.specs.declared.options.Part.{Part}
use Rattle.pascal_command.specs.declared.options.Part.TheVariants.{Closed, Open, Value}

abbrev pub is_check_flag : Text → Bool
is_check_flag word = bytes_eq word (codes "--json")
    || (bytes_eq word (codes "--first") || bytes_eq word (codes "--no-warnings"))

abbrev pub is_why_flag : Text → Bool
is_why_flag word = bytes_eq word (codes "--json") || bytes_eq word (codes "--all")

-- a word is an option of a command without a value
abbrev pub is_flag : Text → Text → Bool
is_flag command word =
    if bytes_eq command (codes "check") then is_check_flag word
    else if bytes_eq command (codes "list") then bytes_eq word (codes "--source")
    else if bytes_eq command (codes "go") then bytes_eq word (codes "--usage")
    else if bytes_eq command (codes "run") then bytes_eq word (codes "--usage")
    else if bytes_eq command (codes "why") then is_why_flag word
    else if bytes_eq command (codes "trace") then bytes_eq word (codes "--json")
    else if bytes_eq command (codes "cover") then bytes_eq word (codes "--lcov")
    else false

abbrev pub is_trace_value : Text → Bool
is_trace_value word = bytes_eq word (codes "--from") || (bytes_eq word (codes "--to")
    || (bytes_eq word (codes "--routine") || bytes_eq word (codes "--first")))

-- a word is an option of a command whose value is the next word
abbrev pub has_value : Text → Text → Bool
has_value command word =
    if bytes_eq command (codes "compile") then bytes_eq word (codes "--map")
    else if bytes_eq command (codes "trace") then is_trace_value word
    else if bytes_eq command (codes "cover") then bytes_eq word (codes "--input")
    else false

-- the word begins with this
abbrev pub begins_with : Text → Text → Bool
begins_with word front = starts_with nat_eq word front

abbrev pub is_trace_joined : Text → Bool
is_trace_joined word = begins_with word (codes "--from=") || (begins_with word (codes "--to=")
    || (begins_with word (codes "--routine=") || begins_with word (codes "--first=")))

-- a word is such an option with its value, `--name=value`
abbrev pub is_joined : Text → Text → Bool
is_joined command word =
    if bytes_eq command (codes "compile") then begins_with word (codes "--map=")
    else if bytes_eq command (codes "trace") then is_trace_joined word
    else if bytes_eq command (codes "cover") then begins_with word (codes "--input=")
    else false

-- a word stays among the words
abbrev pub stays : Text → Part → Text → Bool
stays command Open word = not (is_flag command word || (has_value command word || is_joined command word))
stays command Value word = false
stays command Closed word = true

-- what the next word is
abbrev pub next_part : Text → Part → Text → Part
next_part command Open word =
    if bytes_eq word (codes "--") then Closed else if has_value command word then Value else Open
next_part command Value word = Open
next_part command Closed word = Closed

-- The words after a command without its options among them, and without their values. `--` stays, and so do those after
-- it.
abbrev pub without_options : Text → Part → List Text → List Text
without_options command part [] = []
without_options command part (word ∷ rest) =
    if stays command part word then word ∷ without_options command (next_part command part word) rest
    else without_options command (next_part command part word) rest

-- the words of the command line without these options
abbrev pub plain_words : List Text → List Text
plain_words [] = []
plain_words (word ∷ rest) = word ∷ without_options word Open rest
