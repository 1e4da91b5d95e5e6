-- The commands as `clap` has them.
use Rattle.std.specs.Prelude.{◌≡◌, ⊤, ◌≤◌, ◌&&◌, ℕ, Bool, pos, true, false, List, [], ◌∷◌, Option, Some, None, IfSome}
use Rattle.std.specs.Prelude.{Result, IfOk, codes, unwrap_or, if◌then◌else◌}
use Rattle.std.specs.Option.{option_map_or}
use Rattle.std.specs.Str.{bytes_eq}
use Rattle.std.specs.Str.Parse.{IsNumeral, digits_value, without_leading_plus}
use Rattle.clap.specs.Walk.{Row, Rule, Text, all_of, first_of, one_of, rule_of}
use Rattle.clap.specs.Kinds.{IsAmong, Kinds}
use Rattle.clap.specs.Values.{kind_of}
use Rattle.clap.specs.Simple.{App, app_of, new_app, new_rule, on_top, with_rule, with_subcommand}
use Rattle.clap.specs.declared.builder.action.ArgAction.TheVariants.{Append}
use Rattle.clap.specs.declared.builder.arg.Arg.{Arg}
use Rattle.clap.specs.declared.builder.command.Command.{Command}
use Rattle.clap.specs.declared.builder.command.Command.TheViews.{out-Command}
use Rattle.clap.specs.declared.builder.value_parser.ValueParser.TheVariants as vp
use Rattle.clap.specs.declared.error.Error.{Error}
use Rattle.clap.specs.declared.error.kind.ErrorKind.{ErrorKind}
use Rattle.clap.specs.declared.error.kind.ErrorKind.TheVariants as kind
use Rattle.pascal_command.specs.Command.{Limits, Request, Work, are_digits, certificate_name, certify, check, compile}
use Rattle.pascal_command.specs.Command.{default_limits, explain, go, go_standard_input, image_name, list, needs, run}
use Rattle.pascal_command.specs.Command.{source_name, topic_of, verify, watch}
use Rattle.pascal_command.specs.declared.job.TheConstants.{DEFAULT_HEAP, DEFAULT_STACK, DEFAULT_STEPS, MAX_BUDGET}
use Rattle.pascal_command.specs.declared.job.TheConstants.{MAX_STEPS}
use Rattle.pascal_command.specs.declared.job.CommandFault.{CommandFault}
use Rattle.pascal_command.specs.declared.job.CommandFault.TheVariants as fault
use Rattle.pascal_command.specs.declared.job.Watch.TheVariants.{Cover, Profile, Trace, Why}

-- an argument is global
abbrev pub has_globals : Command → Bool
has_globals command = (out-Command command).has_globals

-- a command of this shape, without global arguments
abbrev pub IsCommand : App → Command → Type 0
IsCommand app command = (app_of command ≡ app) × (has_globals command ≡ false)

-- such a command was made, or none
abbrev pub Makes : {E : Type 0} → App → Result Command E → Type 0
Makes app made = IfOk made (IsCommand app)

-- an argument of this rule, which is not global
abbrev pub IsArgument : Rule → Arg → Type 0
IsArgument rule arg = (rule_of arg ≡ rule) × (arg.global ≡ false)

-- a path, which must be given
abbrev pub path_rule : Text → Rule
path_rule name = record (new_rule name) { required = true }

-- words, possibly none
abbrev pub words_rule : Rule
words_rule = record (new_rule (codes "WORD")) { action = Some Append }

-- paths, at least one
abbrev pub files_rule : Rule
files_rule = record (new_rule (codes "FILE")) { action = Some Append; required = true }

-- an option that takes a number
abbrev pub limit_rule : Text → Text → Rule
limit_rule name default = record (new_rule name) {
  long = Some name;
  value_names = 1;
  defaults = default ∷ [];
}

-- an option of bytes
abbrev pub budget_rule : Text → Text → Rule
budget_rule name default = record (limit_rule name default) { parser = Some (vp.Signed (pos 0) (pos MAX_BUDGET)) }

-- the option of steps
abbrev pub steps_rule : Rule
steps_rule = record (limit_rule (codes "steps") (codes "1000000000")) { parser = Some (vp.Unsigned 1 MAX_STEPS) }

-- a command with the three options
abbrev pub limited : App → App
limited app = with_rule (with_rule (with_rule app (budget_rule (codes "stack") (codes "4194304")))
    (budget_rule (codes "heap") (codes "1048576"))) steps_rule

abbrev pub compile_app : App
compile_app = with_rule (with_rule (new_app (codes "compile")) (path_rule (codes "SRC"))) (path_rule (codes "IMG"))

abbrev pub list_app : App
list_app = with_rule (new_app (codes "list")) (path_rule (codes "SRC"))

abbrev pub run_app : App
run_app = limited (with_rule (new_app (codes "run")) (path_rule (codes "IMG")))

abbrev pub go_app : App
go_app = limited (with_rule (new_app (codes "go")) (path_rule (codes "SRC")))

abbrev pub explain_app : App
explain_app = with_rule (new_app (codes "explain")) words_rule

abbrev pub check_app : App
check_app = with_rule (new_app (codes "check")) files_rule

abbrev pub certify_app : App
certify_app = with_rule (with_rule (new_app (codes "certify")) (path_rule (codes "SRC"))) (path_rule (codes "IMG"))

abbrev pub verify_app : App
verify_app = with_rule (with_rule (with_rule (new_app (codes "verify")) (path_rule (codes "CERT")))
    (path_rule (codes "SRC"))) (path_rule (codes "IMG"))

abbrev pub needs_app : App
needs_app = with_rule (new_app (codes "needs")) (path_rule (codes "SRC"))

-- a command that runs a source and reports the run
abbrev pub watch_app : Text → App
watch_app name = limited (with_rule (new_app name) (path_rule (codes "SRC")))

-- the commands that build and run are added
abbrev pub with_runs : App → App
with_runs app = with_subcommand (with_subcommand (with_subcommand (with_subcommand app compile_app.top) list_app.top)
    run_app.top) go_app.top

-- those that explain, check and compare are added
abbrev pub with_checks : App → App
with_checks app = with_subcommand (with_subcommand (with_subcommand
    (with_subcommand (with_subcommand app explain_app.top)
    check_app.top) certify_app.top) verify_app.top) needs_app.top

-- those that report a run are added
abbrev pub with_watches : App → App
with_watches app = with_subcommand (with_subcommand (with_subcommand (with_subcommand app (watch_app (codes "why")).top)
    (watch_app (codes "trace")).top) (watch_app (codes "cover")).top) (watch_app (codes "profile")).top

-- the program, whose words begin after its name
abbrev pub pascal_app : App
pascal_app = with_watches (with_checks (with_runs
    (on_top (λ shape. record shape { no_binary_name = true }) (new_app (codes "pascal")))))

-- ---- what the rows of a parse ask for

abbrev pub row_path : Text → List Row → Text
row_path name rows = unwrap_or (first_of name rows) []

-- the words of a topic
abbrev pub row_words : List Row → List Text
row_words rows = unwrap_or (all_of (codes "WORD") rows) []

-- the paths of a command that takes several
abbrev pub row_files : List Row → List Text
row_files rows = unwrap_or (all_of (codes "FILE") rows) []

-- the work of a command that runs a source
abbrev pub run_work : Text → Text → Work
run_work name source =
    if bytes_eq name (codes "why") then watch Why source
    else if bytes_eq name (codes "trace") then watch Trace source
    else if bytes_eq name (codes "cover") then watch Cover source
    else if bytes_eq name (codes "profile") then watch Profile source
    else go source

-- the work of a command's name and rows
abbrev pub row_work : Text → List Row → Work
row_work name rows =
    if bytes_eq name (codes "compile") then compile (row_path source_name rows) (row_path image_name rows)
    else if bytes_eq name (codes "list") then list (row_path source_name rows)
    else if bytes_eq name (codes "run") then run (row_path image_name rows)
    else if bytes_eq name (codes "explain") then explain (topic_of (row_words rows))
    else if bytes_eq name (codes "check") then check (row_files rows)
    else if bytes_eq name (codes "certify") then certify (row_path source_name rows) (row_path image_name rows)
    else if bytes_eq name (codes "verify") then verify (row_path certificate_name rows) (row_path source_name rows)
    (row_path image_name rows)
    else if bytes_eq name (codes "needs") then needs (row_path source_name rows)
    else run_work name (row_path source_name rows)

abbrev pub whole : Text → ℕ
whole text = digits_value 10 (without_leading_plus text)

abbrev pub row_number : ℕ → Text → List Row → ℕ
row_number default name rows = option_map_or whole (one_of name rows) default

abbrev pub row_limits : List Row → Limits
row_limits rows = record {
  stack = row_number DEFAULT_STACK (codes "stack") rows;
  heap = row_number DEFAULT_HEAP (codes "heap") rows;
  steps = row_number DEFAULT_STEPS (codes "steps") rows;
}

abbrev pub row_request : Option (Text × List Row) → Request
row_request None = record { work = go_standard_input; limits = default_limits }
row_request (Some entered) = record {
  work = row_work entered.0 entered.1;
  limits = row_limits entered.1;
}

-- the text is a number within the bounds
abbrev pub IsWithin : ℕ → ℕ → Text → Type 0
IsWithin least most text =
    IsNumeral 10 (without_leading_plus text) × (least ≤ whole text) × (whole text ≤ most)

-- the rows have numbers within their ranges, if they have any
abbrev pub HasLimits : List Row → Type 0
HasLimits rows = IfSome (one_of (codes "stack") rows) (IsWithin 0 MAX_BUDGET)
    × IfSome (one_of (codes "heap") rows) (IsWithin 0 MAX_BUDGET)
    × IfSome (one_of (codes "steps") rows) (IsWithin 1 MAX_STEPS)

-- the numbers of the rows are digits alone
abbrev pub row_digits : List Row → Bool
row_digits rows = are_digits (first_of (codes "stack") rows)
    && (are_digits (first_of (codes "heap") rows) && are_digits (first_of (codes "steps") rows))

abbrev pub found_digits : Option (Text × List Row) → Bool
found_digits None = true
found_digits (Some entered) = row_digits entered.1

-- ---- faults

abbrev pub is_memory : ErrorKind → Bool
is_memory kind.OutOfMemory = true
is_memory _ = false

-- an error of `clap` is a fault of the line, unless it reports out of memory
abbrev pub fault_in : Error → CommandFault
fault_in error = if is_memory (kind_of error) then fault.OutOfMemory else fault.Line error

-- a fault of the line that is `clap`'s is of one of the kinds
abbrev pub IsLineOf : Kinds → CommandFault → Type 0
IsLineOf kinds (fault.Line error) = IsAmong (kind_of error) kinds
IsLineOf kinds (fault.Number number) = ⊤
IsLineOf kinds fault.OutOfMemory = ⊤
