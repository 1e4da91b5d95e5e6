-- The statuses of the program, and the lines that it writes to standard error (docs/REFUSALS.md).
use Rattle.std.specs.Prelude.{ℕ, nat_eq, if◌then◌else◌, List, [], ◌∷◌, ◌++◌, Option, Some, None, Result, Ok, Err}
use Rattle.std.specs.Prelude.{codes, decimal}
use Rattle.ps_build.specs.Refusals.{number_of, name_of, line_of}
use Rattle.ps_build.specs.declared.outcome.FaultKind.{FaultKind}
use Rattle.ps_build.specs.declared.outcome.FaultKind.TheVariants.{BadWord, BadAddress, BadDivisor, BadJump, UnknownTrap}
use Rattle.ps_build.specs.declared.outcome.Outcome.{Outcome}
use Rattle.ps_build.specs.declared.outcome.Outcome.TheVariants.{Normal, Error, Stack, Heap, Steps, InputFault}
use Rattle.ps_build.specs.declared.outcome.Outcome.TheVariants.{OutputFault, Fault}
use Rattle.ps_build.specs.declared.refusal.Refusal.{Refusal}
use Rattle.pascal_session.specs.declared.report.Lines.{Lines}

abbrev pub status_of : Result Outcome Refusal → ℕ
status_of (Ok Normal) = 0
status_of (Err refusal) = 1
status_of (Ok InputFault) = 1
status_of (Ok OutputFault) = 1
status_of (Ok (Error number line trail)) = 2
status_of (Ok (Stack number line)) = 3
status_of (Ok (Heap number line)) = 3
status_of (Ok Steps) = 4
status_of (Ok (Fault kind)) = 5

-- the words of the errors of the language and of the two stops
abbrev pub words_of : ℕ → List ℕ
words_of number =
    if nat_eq number 1 then codes "integer overflow"
    else if nat_eq number 2 then codes "division by zero"
    else if nat_eq number 3 then codes "modulus below one"
    else if nat_eq number 4 then codes "value out of range"
    else if nat_eq number 5 then codes "index out of range"
    else if nat_eq number 6 then codes "nil pointer"
    else if nat_eq number 7 then codes "no case constant"
    else if nat_eq number 8 then codes "set member out of range"
    else if nat_eq number 9 then codes "end of input"
    else if nat_eq number 10 then codes "not an integer"
    else if nat_eq number 11 then codes "field width below one"
    else if nat_eq number 12 then codes "out of stack"
    else codes "out of heap"

abbrev pub fault_name : FaultKind → List ℕ
fault_name BadWord = codes "BadWord"
fault_name BadAddress = codes "BadAddress"
fault_name BadDivisor = codes "BadDivisor"
fault_name BadJump = codes "BadJump"
fault_name UnknownTrap = codes "UnknownTrap"

-- the end that the lines report
abbrev pub end_of : Lines → Result Outcome Refusal
end_of lines = lines.end.now

abbrev pub error_text : ℕ → ℕ → List ℕ
error_text number line = codes "line " ++ (decimal line ++ (codes ": " ++ (words_of number ++ codes "\n")))

abbrev pub call_text : ℕ → List ℕ
call_text line = codes "called at line " ++ (decimal line ++ codes "\n")

-- a line for each of the open calls, innermost first
abbrev pub calls_text : List ℕ → List ℕ
calls_text [] = []
calls_text (line ∷ rest) = call_text line ++ calls_text rest

abbrev pub trail_text : Option (List ℕ) → List ℕ
trail_text None = []
trail_text (Some lines) = calls_text lines

abbrev pub refusal_text : Option ℕ → ℕ → List ℕ → List ℕ
refusal_text (Some line) number name = codes "refused at line "
    ++ (decimal line ++ (codes ": " ++ (decimal number ++ (codes " " ++ (name ++ codes "\n")))))
refusal_text None number name = codes "refused: " ++ (decimal number ++ (codes " " ++ (name ++ codes "\n")))

-- the lines of standard error, each ended by byte 10; none after a normal end
abbrev pub message_of : Result Outcome Refusal → List ℕ
message_of (Ok Normal) = []
message_of (Err refusal) = refusal_text (line_of refusal) (number_of refusal) (name_of refusal)
message_of (Ok InputFault) = codes "input fault\n"
message_of (Ok OutputFault) = codes "output fault\n"
message_of (Ok (Error number line trail)) = error_text number line ++ trail_text trail
message_of (Ok (Stack number line)) = error_text number line
message_of (Ok (Heap number line)) = error_text number line
message_of (Ok Steps) = codes "step limit\n"
message_of (Ok (Fault kind)) = codes "machine fault: " ++ (fault_name kind ++ codes "\n")
