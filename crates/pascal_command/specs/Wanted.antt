-- What the options after a command request.
use Rattle.std.specs.Prelude.{Bool, true, false, ◌&&◌, ◌||◌, ℕ, ◌^◌, min, nat_eq, nat_lt, if◌then◌else◌, List, [], ◌∷◌}
use Rattle.std.specs.Prelude.{◌++◌, length, map, Option, Some, None, option_map, option_and_then, is_some, codes}
use Rattle.std.specs.Char.{is_ascii_digit}
use Rattle.std.specs.List.{list_all, position_or_len, before_first, after_first}
use Rattle.std.specs.Str.{bytes_eq}
use Rattle.std.specs.Str.Parse.{digits_value}
use Rattle.pascal_command.specs.Command.{Text}
use Rattle.pascal_command.specs.Options.{is_flag, has_value, is_joined}
use Rattle.pascal_command.specs.declared.options.Options.{Options}

-- how texts that are checked are reported; which statements of a run are; and what else there is
pub record Wanted : Type 0 where
  pub json : Bool
  pub alone : Bool
  pub warnings : Bool
  -- those that begin in these lines, those of the routine with this name, and at most this many of them; or all
  pub from : Option ℕ
  pub to : Option ℕ
  pub routine : Option Text
  pub most : Option ℕ
  pub all : Bool
  pub source : Bool
  pub usage : Bool
  pub lcov : Bool
  -- where the map goes, and the inputs of several runs
  pub map : Option Text
  pub inputs : List Text

abbrev pub wanted_in : Options → Wanted
wanted_in options = record {
  json = options.telling.json;
  alone = options.telling.first;
  warnings = options.telling.warnings;
  from = options.traces.from;
  to = options.traces.to;
  routine = option_map (λ name. name.now) options.traces.routine;
  most = options.traces.first;
  all = options.all;
  source = options.source;
  usage = options.usage;
  lcov = options.lcov;
  map = option_map (λ path. path.now) options.map;
  inputs = map (λ path. path.now) options.inputs.items;
}

-- without options
abbrev pub nothing_more : Wanted
nothing_more = record {
  json = false;
  alone = false;
  warnings = true;
  from = None;
  to = None;
  routine = None;
  most = None;
  all = false;
  source = false;
  usage = false;
  lcov = false;
  map = None;
  inputs = [];
}

-- ---- one option

-- an option without a value
abbrev pub with_flag : Wanted → Text → Wanted
with_flag wanted word =
    if bytes_eq word (codes "--json") then record wanted { json = true }
    else if bytes_eq word (codes "--first") then record wanted { alone = true }
    else if bytes_eq word (codes "--no-warnings") then record wanted { warnings = false }
    else if bytes_eq word (codes "--all") then record wanted { all = true }
    else if bytes_eq word (codes "--source") then record wanted { source = true }
    else if bytes_eq word (codes "--usage") then record wanted { usage = true }
    else if bytes_eq word (codes "--lcov") then record wanted { lcov = true }
    else wanted

-- the number that a text writes: of digits alone, one at least, and of 64 bits at most
abbrev pub number_in : Text → Option ℕ
number_in [] = None
number_in (byte ∷ rest) =
    if list_all is_ascii_digit (byte ∷ rest) && nat_lt (digits_value 10 (byte ∷ rest)) (2 ^ 64)
    then Some (digits_value 10 (byte ∷ rest)) else None

-- no text has a line after this one
abbrev pub line_in : Text → Option ℕ
line_in text = option_map (min 4294967295) (number_in text)

-- the value of the option is the name of a file
abbrev pub names_file : Text → Bool
names_file option = bytes_eq option (codes "--map") || bytes_eq option (codes "--input")

abbrev pub with_input : Wanted → Text → Wanted
with_input wanted path = record wanted { inputs = wanted.inputs ++ (path ∷ []) }

abbrev pub with_named : Wanted → (option value : Text) → Option Wanted
with_named wanted option value =
    if bytes_eq option (codes "--map") then Some (record wanted { map = Some value })
    else if bytes_eq option (codes "--input") then Some (with_input wanted value)
    else if bytes_eq option (codes "--from") then option_map (λ line. record wanted { from = Some line })
    (line_in value)
    else if bytes_eq option (codes "--to") then option_map (λ line. record wanted { to = Some line }) (line_in value)
    else if bytes_eq option (codes "--routine") then Some (record wanted { routine = Some value })
    else if bytes_eq option (codes "--first") then option_map (λ most. record wanted { most = Some most })
    (number_in value)
    else Some wanted

-- An option that gets one value already has it. `--input` may have several.
abbrev pub is_given : Wanted → (option : Text) → Bool
is_given wanted option =
    if bytes_eq option (codes "--map") then is_some wanted.map
    else if bytes_eq option (codes "--from") then is_some wanted.from
    else if bytes_eq option (codes "--to") then is_some wanted.to
    else if bytes_eq option (codes "--routine") then is_some wanted.routine
    else if bytes_eq option (codes "--first") then is_some wanted.most
    else false

-- an option with its value; none if that is not a value, or is a second one
abbrev pub with_value : Wanted → (option value : Text) → Option Wanted
with_value wanted option value =
    if is_given wanted option then None
    else if nat_eq (length value) 0 && names_file option then None
    else with_named wanted option value

abbrev pub is_sign : ℕ → Bool
is_sign byte = nat_eq byte 61

-- `--name=value`, parted at the first `=`
abbrev pub with_joined : Wanted → Text → Option Wanted
with_joined wanted word =
    if nat_lt (position_or_len is_sign word) (length word)
    then with_value wanted (before_first is_sign word) (after_first is_sign word) else Some wanted

-- ---- all of them

-- What is requested with one more word, and the option whose value the next word is. None if a value is not one, or is
-- a second one.
abbrev pub with_word : (command : Text) → Wanted → Text → Option (Wanted × Option Text)
with_word command wanted word =
    if is_flag command word then Some (with_flag wanted word, None)
    else if is_joined command word then option_map (λ more. (more, None)) (with_joined wanted word)
    else if has_value command word then Some (wanted, Some word)
    else Some (wanted, None)

-- the same, where `before` is the option whose value the word is, or none
abbrev pub with_next : (command : Text) → Wanted → (before : Option Text) → Text → Option (Wanted × Option Text)
with_next command wanted None word = with_word command wanted word
with_next command wanted (Some option) word = option_map (λ more. (more, None)) (with_value wanted option word)

-- `--` ends the options, unless it is a value
abbrev pub is_end : (before : Option Text) → Text → Bool
is_end None word = bytes_eq word (codes "--")
is_end (Some option) word = false

-- The words after a command, where this much is already requested: none if the value of an option is not one, or is a
-- second one, or the last has no value.
unfoldable pub wanted_behind : (command : Text) → Wanted → (before : Option Text) → List Text → Option Wanted
wanted_behind command wanted None [] = Some wanted
wanted_behind command wanted (Some option) [] = None
wanted_behind command wanted before (word ∷ rest) =
    if is_end before word then Some wanted
    else option_and_then (λ next. wanted_behind command next.0 next.1 rest) (with_next command wanted before word)

-- the words of the command line
abbrev pub wanted_of : List Text → Option Wanted
wanted_of [] = Some nothing_more
wanted_of (command ∷ rest) = wanted_behind command nothing_more None rest
