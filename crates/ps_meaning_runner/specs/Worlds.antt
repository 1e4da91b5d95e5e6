-- What the runner's environments, contexts and worlds represent in the definitions.
use Rattle.std.specs.Prelude.{◌≡◌, ◌+◌, nat_le, ℕ, ℤ, pos, int_lt, is_none, Bool, unsigned_abs, unwrap_or}
use Rattle.std.specs.Prelude.{if◌then◌else◌, Option, Some, zero, suc, List, [], ◌∷◌, map, Vec, Result, Ok, Err}
use Rattle.std.specs.Global.{Global}
use Rattle.behavior.specs.Endings as endings
use Rattle.ps_tree.specs.Checked.{program_in}
use Rattle.ps_tree.specs.declared.types.Ordinal.{Ordinal}
use Rattle.ps_tree.specs.Sizes.{value_count}
use Rattle.ps_tree.specs.Tree as Tree
use Rattle.ps_tree.specs.Tree.{Program}
use Rattle.ps_tree.specs.declared.tree.operators.Direction.{Direction}
use Rattle.ps_tree.specs.declared.tree.operators.Range.{Range}
use Rattle.ps_tree.specs.declared.tree.operators.OrderRelation.{OrderRelation}
use Rattle.ps_tree.specs.declared.tree.operators.Range.TheVariants.{Within as WithinBounds}
use Rattle.ps_meaning.specs.Values as v
use Rattle.ps_meaning.specs.Operators as o
use Rattle.ps_meaning.specs.Text as t
use Rattle.ps_meaning.specs.Worlds as m
use Rattle.ps_meaning.specs.Statements as st
use Rattle.ps_meaning.specs.Statements.{Costs, Next}
use Rattle.ps_meaning.specs.Expressions as e
use Rattle.ps_meaning.specs.Expressions.{Caller}
use Rattle.ps_meaning.specs.Calls.{call_routine, execute}
use Rattle.ps_meaning.specs.Run.{costs_of}
use Rattle.ps_meaning_runner.specs.declared.value.Value.{Value}
use Rattle.ps_meaning_runner.specs.declared.ending.Ending.{Ending}
use Rattle.ps_meaning_runner.specs.declared.ending.Ending.TheVariants.{Normal, Error, Stack, Heap, More}
use Rattle.ps_meaning_runner.specs.declared.stop.Halt.{Halt}
use Rattle.ps_meaning_runner.specs.declared.stop.Halt.TheVariants.{Ended, OutOfMemory, TooDeep}
use Rattle.ps_meaning_runner.specs.declared.world.Setup.{Setup}
use Rattle.ps_meaning_runner.specs.declared.world.Env.{Env, Outside, Within', Row_of-Entry, end_of-Entry, more_of-Entry}
use Rattle.ps_meaning_runner.specs.declared.world.Entry.{Entry, Variable, Routine'}
use Rattle.ps_meaning_runner.specs.declared.world.Numbers.{Numbers, End, Number'}
use Rattle.ps_meaning_runner.specs.declared.world.Context.{Context}
use Rattle.ps_meaning_runner.specs.declared.world.Input.{Input}
use Rattle.ps_meaning_runner.specs.declared.world.World.{World}
use Rattle.ps_meaning_runner.specs.declared.operands.Actual.{Actual}
use Rattle.ps_meaning_runner.specs.declared.operands.Actual.TheVariants.{Value as ValueOf, Variable as VariableAt}
use Rattle.ps_meaning_runner.specs.declared.operands.Actual.TheVariants.{Routine as RoutineIn}
use Rattle.ps_meaning_runner.specs.declared.operands.Callee.{Callee}
use Rattle.ps_meaning_runner.specs.declared.operands.Callee.TheVariants.{Declared, Formal}
use Rattle.ps_meaning_runner.specs.declared.operands.Held.{Held}
use Rattle.ps_meaning_runner.specs.declared.operands.Held.TheVariants.{Text, Place}
use Rattle.ps_meaning_runner.specs.declared.transfers.Form.{Form}
use Rattle.ps_meaning_runner.specs.declared.transfers.Form.TheVariants.{Integer, Char, Boolean}
use Rattle.ps_meaning_runner.specs.View.{value_of, spot_of}

unfoldable mutual
  pub env_of : Env → m.Env
  env_of Outside = m.Outside
  env_of (Within' shape row p outer) = m.Within (frame_of_row row) (env_of outer)

  pub frame_of_row : {n : _} → Row_of-Entry n → m.Frame
  frame_of_row end_of-Entry = m.no_entry
  frame_of_row (more_of-Entry e rest) = entry_before e (frame_of_row rest)

  pub entry_before : Entry → m.Frame → m.Frame
  entry_before (Variable s) frame = m.variable_before (spot_of s) frame
  entry_before (Routine' routine p env) frame = m.routine_before routine (env_of env) frame

-- lists of entries
unfoldable pub entries_of : List Entry → m.Frame
entries_of [] = m.no_entry
entries_of (e ∷ rest) = entry_before e (entries_of rest)

-- what an entry is
unfoldable pub entry_spot : Entry → v.Spot
entry_spot (Variable s) = spot_of s
entry_spot (Routine' routine p env) = m.no_spot

unfoldable pub entry_routine : Entry → ℕ
entry_routine (Variable s) = 0
entry_routine (Routine' routine p env) = routine

unfoldable pub entry_env : Entry → m.Env
entry_env (Variable s) = m.Outside
entry_env (Routine' routine p env) = env_of env

unfoldable pub numbers_of : Numbers → List ℕ
numbers_of End = []
numbers_of (Number' first p rest) = first ∷ numbers_of rest

abbrev pub context_of : Context → m.Context
context_of c = record {
  env = env_of c.env.value;
  opened = map spot_of c.opened.items;
  active = numbers_of c.active.value;
  calls = numbers_of c.calls.value;
}

-- the values of names; those that were not given one are unset
unfoldable pub stored : List Value → ℕ → v.Value
stored [] name = m.unset
stored (x ∷ rest) zero = value_of x
stored (x ∷ rest) (suc name) = stored rest name

abbrev pub input_of : Input → t.Input
input_of i = record { left = i.left.now; looked = i.looked; in_line = i.in_line }

abbrev pub world_of : World → m.World
world_of w = record {
  next = w.next;
  store = stored w.store.items;
  objects = map value_of w.objects.items;
  made = w.made.items;
  input = input_of w.input;
  transcript = w.transcript.items;
}

abbrev pub program_of : Setup → Program
program_of setup = program_in setup.program.now

abbrev pub costs_in : Setup → Costs
costs_in setup = costs_of setup.frames.now setup.objects.now setup.stack setup.heap

-- a call, and a task, with this fuel
unfoldable pub caller : Setup → ℕ → Caller
caller setup n = call_routine (program_of setup) (costs_in setup) (execute (program_of setup) (costs_in setup) n)

unfoldable pub next : Setup → ℕ → Next
next setup n = execute (program_of setup) (costs_in setup) n

-- how a run ends, with the calls at these lines open
abbrev pub ending_of : Ending → (calls : List ℕ) → endings.Ending
ending_of Normal calls = endings.Normal
ending_of (Error number line) calls = endings.failed number line calls
ending_of (Stack line) calls = endings.Stack line
ending_of (Heap line) calls = endings.Heap line
ending_of More calls = endings.More

-- the definition's answer is known to end the run; nothing is said when out of memory
abbrev pub Stopped : {A : Type 0} → m.Answer A → Halt → World → Type 0
Stopped answer (Ended ending calls) w = answer ≡ m.Ends w.transcript.items (ending_of ending calls.items)
Stopped answer OutOfMemory w = Unit {0}
Stopped answer TooDeep w = ⊥

-- a part of the runner answers what the definition's answer is
abbrev pub Answers : {A R : Type 0} → (R → A) → m.Answer A → Result R Halt → World → Type 0
Answers view answer (Ok r) w = answer ≡ m.Gives (view r) (world_of w)
Answers view answer (Err halt) w = Stopped answer halt w

-- actual parameters and operands as they were taken
unfoldable pub actual_of : Actual → e.Actual
actual_of (ValueOf v) = e.ValueActual (value_of v)
actual_of (VariableAt s) = e.VariableActual (spot_of s)
actual_of (RoutineIn r env) = e.RoutineActual r (env_of env.value)

unfoldable pub held_of : Held → e.Held
held_of (Text characters) = e.HeldText characters.now
held_of (Place s) = e.HeldSpot (spot_of s)

abbrev pub actuals_in : Vec Actual Global → List e.Actual
actuals_in actuals = map actual_of actuals.items

abbrev pub done_of : Unit {0} → m.Done
done_of _ = m.done

-- a value is written in a form
abbrev pub written : Form → v.Value → Option ℕ → m.Act m.Done
written Integer x n = m.write_text (t.right_aligned (unwrap_or n 11) (t.integer_text (v.number_of x)))
written Char x n = m.write_text (t.right_aligned (unwrap_or n 1) (st.character x ∷ []))
written Boolean x n = m.write_text (t.fitted (unwrap_or n 5) (t.boolean_text (o.is_true (v.number_of x))))

-- statements with n of fuel
module _ (setup : Setup) (n : ℕ) where
  abbrev pub acting : Tree.Statement → m.Context → m.Act m.Done
  acting = st.act (program_of setup) (costs_in setup) (caller setup n) (next setup n)

  abbrev pub acting_all : Tree.Statements → m.Context → m.Act m.Done
  acting_all = st.acts (program_of setup) (costs_in setup) (caller setup n) (next setup n)

  abbrev pub selecting : Tree.Elements → ℤ → (line : ℕ) → m.Context → m.Act m.Done
  selecting = st.selected (program_of setup) (costs_in setup) (caller setup n) (next setup n)

  abbrev pub reading : Tree.ReadVariable → m.Context → m.Act m.Done
  reading = st.read (program_of setup) (costs_in setup) (caller setup n) (next setup n)

  abbrev pub reading_all : List Tree.ReadVariable → m.Context → m.Act m.Done
  reading_all = st.reads (program_of setup) (costs_in setup) (caller setup n) (next setup n)

  abbrev pub width_in : Tree.Width → m.Context → m.Act (Option ℕ)
  width_in = st.width_value (program_of setup) (costs_in setup) (caller setup n) (next setup n)

  abbrev pub writing : Tree.WriteParameter → m.Context → m.Act m.Done
  writing = st.write (program_of setup) (costs_in setup) (caller setup n) (next setup n)

  -- a value is evaluated, then the width, and the value is written in a form
  abbrev pub writing_form : Form → Tree.Expr → Tree.Width → m.Context → m.Act m.Done
  writing_form form x width c = λ w. m.and_then (e.value (caller setup n) x c w)
      (λ y u. m.and_then (width_in width c u) (written form y))

  abbrev pub writing_all : List Tree.WriteParameter → m.Context → m.Act m.Done
  writing_all = st.writes (program_of setup) (costs_in setup) (caller setup n) (next setup n)

  abbrev pub opening_all : List Tree.Place → m.Context → m.Act (List v.Spot)
  opening_all = st.opening (program_of setup) (costs_in setup) (caller setup n) (next setup n)

  abbrev pub making : (pointer line : ℕ) → m.Act v.Value
  making = st.new_object (program_of setup) (costs_in setup) (caller setup n) (next setup n)

  abbrev pub putting_object : v.Spot → (pointer line : ℕ) → m.Act m.Done
  putting_object s pointer line = λ w. m.and_then (making pointer line w) (m.put s)

  -- a body, and then the other turns
  unfoldable pub turning : (variable : ℕ) → Direction → (last : ℤ) → Tree.Statement → m.Context → m.Act m.Done
  turning variable direction last s c = λ w. m.and_then (acting s c w)
      (λ _. next setup n (st.Further variable direction last s) c)

-- what the elements of a case statement select
abbrev pub Selects : Tree.Elements → ℤ → Tree.Statement → Type 0
Selects elements x s = (setup : Setup) (n line : ℕ) (c : m.Context) (w : m.World)
    → selecting setup n elements x line c w ≡ acting setup n s c w

abbrev pub SelectsNone : Tree.Elements → ℤ → Type 0
SelectsNone elements x = (setup : Setup) (n line : ℕ) (c : m.Context) (w : m.World)
    → selecting setup n elements x line c w ≡ m.fault 7 line c w

-- the routine that a call names, and the environment in which it was declared
abbrev pub callee_routine : Callee → m.Context → ℕ
callee_routine (Declared routine up) c = routine
callee_routine (Formal up index) c = m.routine_in (m.frame_of (m.above c.env up)) index

abbrev pub callee_env : Callee → m.Context → m.Env
callee_env (Declared routine up) c = m.above c.env up
callee_env (Formal up index) c = m.env_in (m.frame_of (m.above c.env up)) index

-- a call of what was named, and the value of one
abbrev pub called : Setup → ℕ → Callee → Tree.Arguments → (line : ℕ) → m.Context → m.Act m.Done
called setup n callee arguments line c = λ w. m.and_then (e.actuals_of (caller setup n) arguments c w)
    (λ actuals. caller setup n (callee_routine callee c) (callee_env callee c) actuals (e.calling line c))

abbrev pub called_value : Setup → ℕ → Callee → Tree.Arguments → (line : ℕ) → m.Context → m.Act v.Value
called_value setup n callee arguments line c = λ w. m.and_then (e.actuals_of (caller setup n) arguments c w)
    (λ actuals. e.function_value (caller setup n) (callee_routine callee c) (callee_env callee c) actuals
    (e.calling line c))

-- a for statement whose bounds were evaluated
abbrev pub counting : Setup → ℕ → (variable : ℕ) (low high : ℤ) → v.Value → (from_line : ℕ) → Direction → v.Value
    → (to_line : ℕ) → Tree.Statement → m.Context → m.Act m.Done
counting setup n variable low high x from_line direction y to_line s c = if st.is_past direction (v.number_of x)
    (v.number_of y) then m.give m.done else (λ w. m.and_then (e.fitting (WithinBounds low high) x from_line c w)
    (λ _ u. m.and_then (e.fitting (WithinBounds low high) y to_line c u)
    (λ _ z. m.and_then (m.put (st.own_spot variable c) x z)
    (λ _. turning setup n variable direction (v.number_of y) s c))))

-- what comes before the first turn of a for statement
abbrev pub beginning : (variable : ℕ) → Range → v.Value → (from_line : ℕ) → v.Value → (to_line : ℕ) → m.Context
    → m.Act m.Done
beginning variable range x from_line y to_line c = λ w. m.and_then (e.fitting range x from_line c w)
    (λ _ u. m.and_then (e.fitting range y to_line c u) (λ _. m.put (st.own_spot variable c) x))

-- eof and eoln look at the next character
abbrev pub at_end : m.Act v.Value
at_end = λ w. m.and_then (m.look w) (λ next. m.give (v.OrdinalValue (o.truth (is_none next))))

abbrev pub at_line_end : (line : ℕ) → m.Context → m.Act v.Value
at_line_end line c = λ w. m.and_then (m.look w) (λ next. e.line_end next line c)

-- readln takes the rest of the line once its variables were read
abbrev pub rest_of_line : (line : ℕ) → m.Context → m.Act m.Done
rest_of_line line c = λ w. m.and_then (m.look w) (λ next. st.line_read next line c)

-- a value, a set or the contents of an operand are stored in a variable
abbrev pub putting_fitting : v.Spot → Range → v.Value → (line : ℕ) → m.Context → m.Act m.Done
putting_fitting s range x line c = λ w. m.and_then (e.fitting range x line c w) (m.put s)

abbrev pub putting_fitting_set : v.Spot → (low high : ℤ) → (ℕ → Bool) → (line : ℕ) → m.Context → m.Act m.Done
putting_fitting_set s low high members line c = λ w. m.and_then (e.fitting_set low high members line c w) (m.put s)

abbrev pub putting_contents : v.Spot → e.Held → m.Act m.Done
putting_contents s held = λ w. m.and_then (e.contents_of held w) (m.put s)

-- an integer that is read, in a range
abbrev pub integer_in : (low high : ℤ) (line : ℕ) → m.Context → m.Act v.Value
integer_in low high line c = λ w. m.and_then (st.scan w)
    (λ found u. m.and_then (st.integer_found found line c u) (λ x. e.fitting (WithinBounds low high) x line c))

-- a character and an integer that are read into a variable
abbrev pub character_into : v.Spot → (low high : ℤ) (line : ℕ) → m.Context → m.Act m.Done
character_into s low high line c = λ w. m.and_then (m.look w)
    (λ next u. m.and_then (st.character_read next line c u) (λ x. putting_fitting s (WithinBounds low high) x line c))

abbrev pub integer_into : v.Spot → (low high : ℤ) (line : ℕ) → m.Context → m.Act m.Done
integer_into s low high line c = λ w. m.and_then (integer_in low high line c w) (m.put s)

-- the place of a variable that is read, and what is done with it
abbrev pub place_read : Tree.ReadVariable → Tree.Place
place_read (Tree.ReadChar p low high line) = p
place_read (Tree.ReadInteger p low high line) = p

abbrev pub reading_into : Tree.ReadVariable → v.Spot → m.Context → m.Act m.Done
reading_into (Tree.ReadChar p low high line) s c = character_into s low high line c
reading_into (Tree.ReadInteger p low high line) s c = integer_into s low high line c

-- two strings that were accessed
abbrev pub strings_compared : OrderRelation → e.Held → e.Held → m.Act v.Value
strings_compared relation x y = λ w. m.and_then (e.contents_of x w)
    (λ a u. m.and_then (e.contents_of y u) (λ b. m.give
    (v.OrdinalValue (o.truth (o.strings_hold relation (v.components_of a) (v.components_of b))))))

abbrev pub opened_in : Context → List v.Spot
opened_in c = map spot_of c.opened.items

abbrev pub width_of : Option ℕ → Option ℕ
width_of n = n

-- the run ends
abbrev pub ends : endings.Ending → m.Act m.Done
ends = m.stop

-- the run ends with an error
abbrev pub faults : (number line : ℕ) → m.Context → m.Act m.Done
faults = m.fault

-- the fuel is used up
abbrev pub used_up : m.Act m.Done
used_up = ends endings.More

-- a width that was given
abbrev pub width_checked : ℤ → (line : ℕ) → m.Context → m.Act (Option ℕ)
width_checked x line c = if int_lt x (pos 1) then m.fault 11 line c else m.give (Some (unsigned_abs x))

-- pack and unpack, once their operands were accessed
abbrev pub packing : v.Spot → Ordinal → ℕ → v.Spot → Ordinal → (line : ℕ) → m.Context → m.Act m.Done
packing a from k z to line c = λ w. m.and_then (m.contents a w)
    (λ x. if nat_le (k + value_count to) (value_count from) then m.put z
    (v.StructureValue (v.first_values (value_count to) (v.values_from (v.components_of x) k))) else m.fault 5 line c)

abbrev pub unpacking : v.Spot → Ordinal → v.Spot → Ordinal → ℕ → (line : ℕ) → m.Context → m.Act m.Done
unpacking z from a to k line c = λ w. m.and_then (m.contents z w)
    (λ x u. m.and_then (m.contents a u) (λ y. if nat_le (k + value_count from) (value_count to) then m.put a
    (v.StructureValue (v.with_values (v.components_of y) k (v.components_of x))) else m.fault 5 line c))

-- the context with the calls at these lines open
abbrev pub with_calls : List ℕ → m.Context → m.Context
with_calls calls c = record { env = c.env; opened = c.opened; active = c.active; calls = calls }
