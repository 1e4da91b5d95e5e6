-- What the words of the command line request, and which words request nothing.
use Rattle.std.specs.Prelude.{◌++◌, ◌&&◌, ◌||◌, ℕ, Bool, true, false, not, pos, List, [], ◌∷◌, Option, Some, None}
use Rattle.std.specs.Prelude.{is_some, if◌then◌else◌}
use Rattle.std.specs.Prelude.{codes, find, map, slice_get, option_map, option_and_then, string_bytes}
use Rattle.std.specs.Option.{option_map_or}
use Rattle.std.specs.Char.{is_ascii_digit}
use Rattle.std.specs.List.{join_by, list_all, list_any}
use Rattle.std.specs.Str.{bytes_eq, chars}
use Rattle.std.specs.Str.Parse.{digits_value, without_leading_sign}
use Rattle.clap.specs.Lexer.{long_of, short_of}
use Rattle.clap.specs.ValueTests.{is_signed_in, is_unsigned_in}
use Rattle.pascal_command.specs.declared.job.TheConstants.{DEFAULT_HEAP, DEFAULT_STACK, DEFAULT_STEPS, MAX_BUDGET}
use Rattle.pascal_command.specs.declared.job.TheConstants.{MAX_STEPS}
use Rattle.pascal_command.specs.declared.job.CommandFault.{CommandFault}
use Rattle.pascal_command.specs.declared.job.CommandFault.TheVariants as fault
use Rattle.pascal_command.specs.declared.job.Job.{Job}
use Rattle.pascal_command.specs.declared.job.Task.{Task}
use Rattle.pascal_command.specs.declared.job.Task.TheVariants as task
use Rattle.pascal_command.specs.declared.job.Watch.{Watch}
use Rattle.pascal_command.specs.declared.job.Watch.TheVariants.{Cover, Profile, Trace, Why}

abbrev pub Text : Type 0
Text = List ℕ

-- to compile a source to an image, to compile a source and list its image, to run an image, to compile a source and run
-- it, to do so with standard input, to show the pages that a text selects, to check sources, to write the certificate
-- of a source and an image, to compare a certificate with these, to report how much stack and heap the image of a
-- source needs, or to compile a source, run it and report the run
pub data Work : Type 0 where
  compile : Text → Text → Work
  list : Text → Work
  run : Text → Work
  go : Text → Work
  go_standard_input : Work
  explain : Text → Work
  check : List Text → Work
  certify : Text → Text → Work
  verify : Text → Text → Text → Work
  needs : Text → Work
  watch : Watch → Text → Work

-- the bytes of the stack and of the heap, and the steps that a run may make
pub record Limits : Type 0 where
  pub stack : ℕ
  pub heap : ℕ
  pub steps : ℕ

pub record Request : Type 0 where
  pub work : Work
  pub limits : Limits

-- ---- what the words give: values, each under the name of its path or option, in the order of the words

abbrev pub Given : Type 0
Given = List (Text × Text)

abbrev pub is_given : Text → Given → Bool
is_given name given = list_any (λ g. bytes_eq g.0 name) given

abbrev pub value_of : Text → Given → Option Text
value_of name given = option_map (λ g. g.1) (find (λ g. bytes_eq g.0 name) given)

-- The text may be the value of the name. A number is decimal: bytes of the stack and of the heap up to MAX_BUDGET,
-- steps from 1 to MAX_STEPS. A sign passes here; `has_digits` tests all that was given. A path is any text.
abbrev pub fits : Text → Text → Bool
fits name text =
    if bytes_eq name (codes "stack") || bytes_eq name (codes "heap")
    then is_signed_in (pos 0) (pos MAX_BUDGET) text
    else if bytes_eq name (codes "steps") then is_unsigned_in 1 MAX_STEPS text else true

-- the name gets its value, which no earlier word may have given
abbrev pub with_value : Text → Text → Given → (Given → Option Given) → Option Given
with_value name text given next =
    if is_given name given || not (fits name text) then None else next (given ++ (name, text) ∷ [])

-- the word is the next path of those that are still wanted
abbrev pub with_path : List Text → Text → Given → (List Text → Given → Option Given) → Option Given
with_path [] word given next = None
with_path (name ∷ names) word given next = with_value name word given (next names)

-- `--name=text` gives the value, and after `--name` the next word is the value
abbrev pub with_option : Text → Option Text → Given → (Option Text → Given → Option Given) → Option Given
with_option name (Some text) given next = with_value name text given (next None)
with_option name None given next = next (Some name) given

abbrev pub is_among : Text → List Text → Bool
is_among name names = list_any (λ other. bytes_eq other name) names

-- the letters of a hyphen with letters
abbrev pub letters_of : Text → List ℕ
letters_of word = option_map_or chars (short_of word) []

abbrev pub has_letters : Text → Bool
has_letters word = is_some (slice_get (letters_of word) 0)

-- `--`, `--name`, `--name=text`, or a hyphen with letters
abbrev pub is_flag : Text → Bool
is_flag word = bytes_eq word (codes "--") || (is_some (long_of word) || has_letters word)

-- after `--` each word is a path
abbrev pub paths_after : List Text → Given → List Text → Option Given
paths_after paths given [] = Some given
paths_after paths given (word ∷ rest) = with_path paths word given (λ left more. paths_after left more rest)

-- a word that is not the value of an option before it, and not `--`
abbrev pub with_word : List Text → List Text → Given → Text → Option (Text × Option Text)
    → (List Text → Option Text → Given → Option Given) → Option Given
with_word options paths given word (Some named) next =
    if is_among named.0 options then with_option named.0 named.1 given (next paths) else None
with_word options paths given word None next =
    if has_letters word then None else with_path paths word given (λ left more. next left None more)

-- The words after the command's name, if the command takes these options and still wants these paths. `wanted` is the
-- option whose value is the next word, and `given` what earlier words gave.
abbrev pub read : List Text → List Text → Option Text → Given → List Text → Option Given
read options paths None given [] = Some given
read options paths (Some name) given [] = None
read options paths None given (word ∷ rest) =
    if bytes_eq word (codes "--") then paths_after paths given rest
    else with_word options paths given word (long_of word)
    (λ left wanted more. read options left wanted more rest)
read options paths (Some name) given (word ∷ rest) =
    if is_flag word then None
    else with_value name word given (λ more. read options paths None more rest)

-- ---- the commands

abbrev pub number_of : Text → ℕ
number_of text = digits_value 10 (without_leading_sign text)

-- decimal digits and nothing else
abbrev pub is_digits : Text → Bool
is_digits text = list_all is_ascii_digit text

abbrev pub are_digits : Option Text → Bool
are_digits None = true
are_digits (Some text) = is_digits text

-- the numbers among what was given have no sign
abbrev pub has_digits : Given → Bool
has_digits given =
    are_digits (value_of (codes "stack") given)
    && (are_digits (value_of (codes "heap") given) && are_digits (value_of (codes "steps") given))

-- the number given for the name, or its default
abbrev pub number_or : ℕ → Text → Given → ℕ
number_or default name given = option_map_or number_of (value_of name given) default

abbrev pub limits_of : Given → Limits
limits_of given = record {
  stack = number_or DEFAULT_STACK (codes "stack") given;
  heap = number_or DEFAULT_HEAP (codes "heap") given;
  steps = number_or DEFAULT_STEPS (codes "steps") given;
}

abbrev pub default_limits : Limits
default_limits = limits_of []

abbrev pub source_name : Text
source_name = codes "SRC"

abbrev pub image_name : Text
image_name = codes "IMG"

abbrev pub certificate_name : Text
certificate_name = codes "CERT"

abbrev pub limit_names : List Text
limit_names = codes "stack" ∷ codes "heap" ∷ codes "steps" ∷ []

abbrev pub compile_given : Given → Option Request
compile_given given = option_and_then (λ source. option_map (λ image. record {
  work = compile source image;
  limits = default_limits;
}) (value_of image_name given)) (value_of source_name given)

abbrev pub list_given : Given → Option Request
list_given given = option_map (λ source. record {
  work = list source;
  limits = default_limits;
}) (value_of source_name given)

abbrev pub certify_given : Given → Option Request
certify_given given = option_and_then (λ source. option_map (λ image. record {
  work = certify source image;
  limits = default_limits;
}) (value_of image_name given)) (value_of source_name given)

abbrev pub verify_given : Given → Option Request
verify_given given = option_and_then (λ certificate. option_and_then (λ source. option_map (λ image. record {
  work = verify certificate source image;
  limits = default_limits;
}) (value_of image_name given)) (value_of source_name given)) (value_of certificate_name given)

abbrev pub needs_given : Given → Option Request
needs_given given = option_map (λ source. record {
  work = needs source;
  limits = default_limits;
}) (value_of source_name given)

abbrev pub run_given : Given → Option Request
run_given given = if has_digits given then option_map (λ image. record {
  work = run image;
  limits = limits_of given;
}) (value_of image_name given) else None

abbrev pub go_given : Given → Option Request
go_given given = if has_digits given then option_map (λ source. record {
  work = go source;
  limits = limits_of given;
}) (value_of source_name given) else None

abbrev pub watch_given : Watch → Given → Option Request
watch_given how given = if has_digits given then option_map (λ source. record {
  work = watch how source;
  limits = limits_of given;
}) (value_of source_name given) else None

-- `compile SRC IMG`, `list SRC` and `needs SRC`; and `run IMG` and `go SRC`, with limits
abbrev pub compile_request : List Text → Option Request
compile_request words = option_and_then compile_given (read [] (source_name ∷ image_name ∷ []) None [] words)

abbrev pub list_request : List Text → Option Request
list_request words = option_and_then list_given (read [] (source_name ∷ []) None [] words)

abbrev pub needs_request : List Text → Option Request
needs_request words = option_and_then needs_given (read [] (source_name ∷ []) None [] words)

abbrev pub run_request : List Text → Option Request
run_request words = option_and_then run_given (read limit_names (image_name ∷ []) None [] words)

abbrev pub go_request : List Text → Option Request
go_request words = option_and_then go_given (read limit_names (source_name ∷ []) None [] words)

-- `why SRC`, `trace SRC`, `cover SRC` and `profile SRC`, with limits
abbrev pub watch_request : Watch → List Text → Option Request
watch_request how words = option_and_then (watch_given how) (read limit_names (source_name ∷ []) None [] words)

-- The words after `explain` or `check`. A word that begins with a hyphen counts only after `--`, which is not one
-- itself.
abbrev pub topic_words : List Text → Option (List Text)
topic_words [] = Some []
topic_words (word ∷ rest) =
    if bytes_eq word (codes "--") then Some rest
    else if is_flag word then None
    else option_map (λ words. word ∷ words) (topic_words rest)

-- the words with a space between them
abbrev pub topic_of : List Text → Text
topic_of words = join_by (λ word. word) (codes " ") words

-- `explain WORD..`
abbrev pub explain_request : List Text → Option Request
explain_request words = option_map (λ topic. record {
  work = explain (topic_of topic);
  limits = default_limits;
}) (topic_words words)

-- sources to check, at least one
abbrev pub check_given : List Text → Option Request
check_given [] = None
check_given (file ∷ files) = Some (record {
  work = check (file ∷ files);
  limits = default_limits;
})

-- `check FILE..`, without its options
abbrev pub check_request : List Text → Option Request
check_request words = option_and_then check_given (topic_words words)

-- `certify SRC IMG` and `verify CERT SRC IMG`
abbrev pub certify_request : List Text → Option Request
certify_request words = option_and_then certify_given (read [] (source_name ∷ image_name ∷ []) None [] words)

abbrev pub verify_request : List Text → Option Request
verify_request words = option_and_then verify_given
    (read [] (certificate_name ∷ source_name ∷ image_name ∷ []) None [] words)

-- the run of standard input
abbrev pub standard_request : List Text → Option Request
standard_request [] = Some (record { work = go_standard_input; limits = default_limits })
standard_request (word ∷ rest) = None

-- What the words after the program's name request. No words request the run of standard input, and so does `--` alone.
-- A call for help is not a request.
abbrev pub request_of : List Text → Option Request
request_of [] = standard_request []
request_of (word ∷ rest) =
    if bytes_eq (codes "compile") word then compile_request rest
    else if bytes_eq (codes "list") word then list_request rest
    else if bytes_eq (codes "run") word then run_request rest
    else if bytes_eq (codes "go") word then go_request rest
    else if bytes_eq (codes "explain") word then explain_request rest
    else if bytes_eq (codes "check") word then check_request rest
    else if bytes_eq (codes "certify") word then certify_request rest
    else if bytes_eq (codes "verify") word then verify_request rest
    else if bytes_eq (codes "needs") word then needs_request rest
    else if bytes_eq (codes "why") word then watch_request Why rest
    else if bytes_eq (codes "trace") word then watch_request Trace rest
    else if bytes_eq (codes "cover") word then watch_request Cover rest
    else if bytes_eq (codes "profile") word then watch_request Profile rest
    else if bytes_eq word (codes "--") then standard_request rest
    else None

-- ---- what the code answers

abbrev pub work_of : Task → Work
work_of (task.Compile source image) = compile source.now image.now
work_of (task.List source) = list source.now
work_of (task.Run image) = run image.now
work_of (task.Go source) = go source.now
work_of task.GoStandardInput = go_standard_input
work_of (task.Explain topic) = explain (string_bytes topic)
work_of (task.Check files) = check (map (λ file. file.now) files.items)
work_of (task.Certify source image) = certify source.now image.now
work_of (task.Verify certificate source image) = verify certificate.now source.now image.now
work_of (task.Needs source) = needs source.now
work_of (task.Watch how source) = watch how source.now

-- the request that a job answers
abbrev pub request_in : Job → Request
request_in job = record {
  work = work_of job.task;
  limits = record { stack = job.stack; heap = job.heap; steps = job.steps };
}

-- the words are at fault, and not the memory
abbrev pub is_line_fault : CommandFault → Bool
is_line_fault (fault.Line error) = true
is_line_fault (fault.Number number) = true
is_line_fault fault.OutOfMemory = false
