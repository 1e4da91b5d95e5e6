-- Calls (6.6): a frame for the called routine, within the environment in which it was declared.
use Rattle.std.specs.Prelude.{ℕ, zero, suc, if◌then◌else◌, List, [], ◌∷◌, Option, Some, None}
use Rattle.ps_tree.specs.Types.{DataType}
use Rattle.ps_tree.specs.Tree.{Program, routine_at}
use Rattle.behavior.specs.Endings.{Stack, More}
use Rattle.ps_meaning.specs.Values.{Value, Declared, entire, first}
use Rattle.ps_meaning.specs.Worlds.{Within, Frame, no_entry, variable_before, routine_before, World, stop, with_new}
use Rattle.ps_meaning.specs.Expressions.{Actual, ValueActual, VariableActual, RoutineActual, Caller}
use Rattle.ps_meaning.specs.Statements.{Block, Next, Costs, passes_stack, perform}

-- a frame, and the world with its variables
pub record Bound : Type 0 where
  pub frame : Frame
  pub world : World

-- a new variable, as the entry before the others
abbrev pub declared : Value → (World → Bound) → World → Bound
declared v others w =
    let rest = others (with_new w v) in
    record { frame = variable_before (entire (Declared w.next)) rest.frame; world = rest.world }

-- the block's variables get their first values
abbrev pub bind_variables : List DataType → World → Bound
bind_variables [] w = record { frame = no_entry; world = w }
bind_variables (type ∷ rest) w = declared (first type) (bind_variables rest) w

-- a value parameter is a new variable, a variable parameter the variable that was accessed, a procedural or
-- functional one a routine with its environment
abbrev pub bind_actuals : List Actual → List DataType → World → Bound
bind_actuals [] variables w = bind_variables variables w
bind_actuals (ValueActual v ∷ rest) variables w = declared v (bind_actuals rest variables) w
bind_actuals (VariableActual s ∷ actuals) variables w =
    let rest = bind_actuals actuals variables w in
    record { frame = variable_before s rest.frame; world = rest.world }
bind_actuals (RoutineActual r env ∷ actuals) variables w =
    let rest = bind_actuals actuals variables w in
    record { frame = routine_before r env rest.frame; world = rest.world }

-- a function's result gets its first value
abbrev pub bind : Option DataType → List Actual → List DataType → World → Bound
bind None actuals variables w = bind_actuals actuals variables w
bind (Some type) actuals variables w = declared (first type) (bind_actuals actuals variables) w

-- a routine's block, entered; a stop if the frame bytes of the open routines would exceed the stack
abbrev pub call_routine : Program → Costs → Next → Caller
call_routine program costs next r parent actuals c =
    let routine = routine_at program r in
    if passes_stack costs (r ∷ c.active) then stop (Stack routine.line)
    else (λ w.
    let bound = bind routine.result actuals routine.variables w in
    next (Block routine.body)
    (record { env = Within bound.frame parent; opened = []; active = r ∷ c.active; calls = c.calls }) bound.world)

-- a task, executed with n of fuel
abbrev pub execute : Program → Costs → ℕ → Next
execute program costs zero task c = stop More
execute program costs (suc n) task c = perform program costs (call_routine program costs (execute program costs n))
    (execute program costs n) task c
