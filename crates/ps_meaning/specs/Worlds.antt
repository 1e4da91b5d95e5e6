-- What a program acts in: environments of frames, the world of stored values, input and output, and answers.
use Rattle.std.specs.Prelude.{ℕ, zero, suc, pos, nat_eq, if◌then◌else◌, List, ◌++◌, set, get_or, Option}
use Rattle.behavior.specs.Endings.{Ending, failed}
use Rattle.ps_meaning.specs.Values.{Value, OrdinalValue, Root, Declared, Made, Spot, entire, part, with_part}
use Rattle.ps_meaning.specs.Operators.{Computed, Result, Fault}
use Rattle.ps_meaning.specs.Text.{Input, next_character, looked_at, look_marks, taken}

-- Frames, innermost first. A frame holds what the names of a block denote, in the order of the routine's entries: spots
-- for its result, its value and variable parameters and its variables, and for a procedural or functional parameter a
-- routine with the environment in which it was declared.
mutual
  pub data Env : Type 0 where
    Outside : Env
    Within : Frame → Env → Env

  pub data Frame : Type 0 where
    no_entry : Frame
    variable_before : Spot → Frame → Frame
    routine_before : (routine : ℕ) → Env → Frame → Frame

abbrev pub above : Env → ℕ → Env
above env zero = env
above Outside (suc up) = Outside
above (Within f env) (suc up) = above env up

abbrev pub frame_of : Env → Frame
frame_of Outside = no_entry
frame_of (Within f env) = f

abbrev pub no_spot : Spot
no_spot = entire (Declared 0)

abbrev pub spot_in : Frame → ℕ → Spot
spot_in no_entry i = no_spot
spot_in (variable_before s f) zero = s
spot_in (routine_before r e f) zero = no_spot
spot_in (variable_before s f) (suc i) = spot_in f i
spot_in (routine_before r e f) (suc i) = spot_in f i

abbrev pub routine_in : Frame → ℕ → ℕ
routine_in no_entry i = 0
routine_in (variable_before s f) zero = 0
routine_in (routine_before r e f) zero = r
routine_in (variable_before s f) (suc i) = routine_in f i
routine_in (routine_before r e f) (suc i) = routine_in f i

abbrev pub env_in : Frame → ℕ → Env
env_in no_entry i = Outside
env_in (variable_before s f) zero = Outside
env_in (routine_before r e f) zero = e
env_in (variable_before s f) (suc i) = env_in f i
env_in (routine_before r e f) (suc i) = env_in f i

-- The context of an expression or a statement: its environment, the records that enclosing `with` statements opened,
-- the routines whose blocks are open, and the lines of the open calls, each innermost first.
pub record Context : Type 0 where
  pub env : Env
  pub opened : List Spot
  pub active : List ℕ
  pub calls : List ℕ

-- The variables, of which those named `next` and above were never declared; the objects that `new` made, and the
-- numbers of their pointer types; the input that is left; and the transcript: the bytes written, and a mark at each
-- first look at a byte of the input or at its end.
pub record World : Type 0 where
  pub next : ℕ
  pub store : ℕ → Value
  pub objects : List Value
  pub made : List ℕ
  pub input : Input
  pub transcript : List ℕ

-- an act results in a value and a new world, or ends the run, with the transcript
pub data Answer (A : Type 0) : Type 0 where
  Gives : A → World → Answer A
  Ends : (transcript : List ℕ) → Ending → Answer A

abbrev pub Act : Type 0 → Type 0
Act A = World → Answer A

pub data Done : Type 0 where
  done : Done

abbrev pub and_then : {A B : Type 0} → Answer A → (A → Act B) → Answer B
and_then (Gives v w) f = f v w
and_then (Ends transcript ending) f = Ends transcript ending

-- one act after another
infixl 10 ◌>>=◌
abbrev pub ◌>>=◌ : {A B : Type 0} → Act A → (A → Act B) → Act B
m >>= f = λ w. and_then (m w) f

infixl 10 ◌>>◌
abbrev pub ◌>>◌ : {A B : Type 0} → Act A → Act B → Act B
m >> k = λ w. and_then (m w) (λ _. k)

abbrev pub give : {A : Type 0} → A → Act A
give v = λ w. Gives v w

abbrev pub stop : {A : Type 0} → Ending → Act A
stop ending = λ w. Ends w.transcript ending

-- an error, with the calls that are open
abbrev pub fault : {A : Type 0} → (number line : ℕ) → Context → Act A
fault number line c = stop (failed number line c.calls)

-- what was computed, or its error at a line
abbrev pub settled : Computed → (line : ℕ) → Context → Act Value
settled (Result n) line c = give (OrdinalValue n)
settled (Fault number) line c = fault number line c

-- variables
abbrev pub unset : Value
unset = OrdinalValue (pos 0)

abbrev pub value_at_root : World → Root → Value
value_at_root w (Declared name) = w.store name
value_at_root w (Made object) = get_or w.objects object unset

abbrev pub contents_in : World → Spot → Value
contents_in w s = part (value_at_root w s.root) s.path

abbrev pub at_name : (ℕ → Value) → ℕ → Value → ℕ → Value
at_name store n v m = if nat_eq m n then v else store m

abbrev pub with_root : World → Root → Value → World
with_root w (Declared name) v = record w { store = at_name w.store name v }
with_root w (Made object) v = record w { objects = set w.objects object v }

abbrev pub with_contents : World → Spot → Value → World
with_contents w s v = with_root w s.root (with_part (value_at_root w s.root) s.path v)

-- the value of the variable at a spot, and an assignment to it
abbrev pub contents : Spot → Act Value
contents s = λ w. Gives (contents_in w s) w

abbrev pub put : Spot → Value → Act Done
put s v = λ w. Gives done (with_contents w s v)

-- a new variable with a value
abbrev pub with_new : World → Value → World
with_new w v = record w { next = suc w.next; store = at_name w.store w.next v }

-- output
abbrev pub says : World → List ℕ → World
says w bytes = record w { transcript = w.transcript ++ bytes }

abbrev pub write_text : List ℕ → Act Done
write_text bytes = λ w. Gives done (says w bytes)

-- a look at the next character of the input, and taking it
abbrev pub look : Act (Option ℕ)
look = λ w. Gives (next_character w.input)
    (record w { input = looked_at w.input; transcript = w.transcript ++ look_marks w.input })

abbrev pub take_next : Act Done
take_next = λ w. Gives done (record w { input = taken w.input })

-- an input that was looked at with these marks
abbrev pub with_input : World → Input → List ℕ → World
with_input w input marks = record w { input = input; transcript = w.transcript ++ marks }
