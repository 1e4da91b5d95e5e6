-- A first value as a list of tasks, each of which is done in one step and may leave more.
use Rattle.std.specs.Prelude.{◌≡◌, ℕ, ◌+◌, ◌<◌, ◌≤◌, max, List, [], ◌∷◌, ◌++◌}
use Rattle.ps_tree.specs.View.{type_of, types_of}
use Rattle.tac_code.specs.declared.code.Base.{Base}
use Rattle.tac_code.specs.declared.code.Instruction.{Instruction}
use Rattle.ps_lower_layout.specs.Shapes.{Shape, ArrayShape, RecordShape, Shapes, no_shape, shape_before, shape_of}
use Rattle.ps_lower_layout.specs.Shapes.{shapes_of}
use Rattle.ps_lower_code.specs.Scopes.{Scope}
use Rattle.ps_lower_code.specs.Statements.{spread_code, first_code, fields_code}
use Rattle.ps_lower_bounds.specs.Weights.{first_weight, fields_weight}
use Rattle.ps_lower.specs.declared.task.Task.{Task}
use Rattle.ps_lower.specs.declared.task.Task.TheVariants.{FirstValue, Copies, FieldsLeft}

-- the code of a task, at a base and with a temporary
abbrev pub task_code : Scope → Base → (t : ℕ) → Task → List Instruction
task_code k b t (FirstValue type offset) = first_code k b t offset (shape_of (type_of type.now))
task_code k b t (Copies offset each whole) = spread_code k b t offset each whole
task_code k b t (FieldsLeft types offset) = fields_code k b t offset (shapes_of (types_of types.now))

-- the last task of a list is done first
abbrev pub tasks_code : Scope → Base → (t : ℕ) → List Task → List Instruction
tasks_code k b t [] = []
tasks_code k b t (task ∷ rest) = tasks_code k b t rest ++ task_code k b t task

-- how many steps a shape takes: an array is begun and copied, a record is begun, and each of its fields, and it ends
abbrev mutual
  pub weight : Shape → ℕ
  weight (ArrayShape count shape) = 2 + weight shape
  weight (RecordShape shapes) = 1 + weights shapes
  weight _ = 1

  pub weights : Shapes → ℕ
  weights no_shape = 1
  weights (shape_before shape rest) = 1 + weight shape + weights rest

abbrev pub task_weight : Task → ℕ
task_weight (FirstValue type offset) = weight (shape_of (type_of type.now))
task_weight (Copies offset each whole) = 1
task_weight (FieldsLeft types offset) = weights (shapes_of (types_of types.now))

abbrev pub tasks_weight : List Task → ℕ
tasks_weight [] = 0
tasks_weight (task ∷ rest) = task_weight task + tasks_weight rest

-- how far a task's numbers go, and the largest of several
abbrev pub task_reach : Task → ℕ
task_reach (FirstValue type offset) = offset + first_weight (shape_of (type_of type.now))
task_reach (Copies offset each whole) = offset + max each whole
task_reach (FieldsLeft types offset) = offset + fields_weight (shapes_of (types_of types.now))

abbrev pub tasks_reach : List Task → ℕ
tasks_reach [] = 0
tasks_reach (task ∷ rest) = max (task_reach task) (tasks_reach rest)

-- A step at a task of this code and weight, whose numbers go this far, and which is no longer in the list: together
-- with what is left now, the code is that of the task and of the others. There is less to do, and nothing goes further.
pub record IsDone (k : Scope) (b : Base) (t : ℕ) (code : List Instruction) (steps far : ℕ)
    (start now : List Instruction) (old new : List Task) : Type 0 where
  pub same : now ++ tasks_code k b t new ≡ (start ++ code) ++ tasks_code k b t old
  pub less : tasks_weight new < steps + tasks_weight old
  pub near : tasks_reach new ≤ max far (tasks_reach old)

-- the same for a step that adds no code itself: at a variable of a shape, and at fields
pub record IsLeft (offset : ℕ) (shape : Shape) (old new : List Task) : Type 0 where
  pub same : (k : Scope) (b : Base) (t : ℕ) → tasks_code k b t new ≡ first_code k b t offset shape
      ++ tasks_code k b t old
  pub less : tasks_weight new < weight shape + tasks_weight old
  pub near : tasks_reach new ≤ max (offset + first_weight shape) (tasks_reach old)

pub record AreLeft (offset : ℕ) (shapes : Shapes) (old new : List Task) : Type 0 where
  pub same : (k : Scope) (b : Base) (t : ℕ) → tasks_code k b t new ≡ fields_code k b t offset shapes
      ++ tasks_code k b t old
  pub less : tasks_weight new < weights shapes + tasks_weight old
  pub near : tasks_reach new ≤ max (offset + fields_weight shapes) (tasks_reach old)
