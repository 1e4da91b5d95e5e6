-- Where the code of a task is, and what the tasks of one fuel do.
use Rattle.std.specs.Prelude.{◌≡◌, ℕ, suc, ◌+◌, ◌<◌, ◌≤◌, ℤ, Bool, [], ◌∷◌, ◌++◌, length, Some}
use Rattle.ps_tree.specs.declared.tree.operators.Direction.{Direction}
use Rattle.ps_tree.specs.Tree.{Statement, While, Repeat}
use Rattle.tac_code.specs.declared.code.Value.TheVariants.{Number as Numeral}
use Rattle.tac_code.specs.declared.code.Operand.{Operand}
use Rattle.tac_code.specs.declared.code.Operand.TheVariants as operand
use Rattle.tac_code.specs.declared.code.Base.TheVariants as base
use Rattle.tac_code.specs.declared.code.Relation.TheVariants.{NotEqual}
use Rattle.tac_code.specs.declared.code.BitOperator.TheVariants as bit
use Rattle.tac_code.specs.declared.code.Instruction.TheVariants as i
use Rattle.tac_code.specs.Meaning.{operand_value}
use Rattle.ps_meaning.specs.Worlds.{World, Done}
use Rattle.ps_meaning.specs.Statements.{Task, Block, Again, Further, Next}
use Rattle.ps_meaning.specs.Calls.{execute}
use Rattle.tac_code_steps.specs.Runs.{Stands}
use Rattle.ps_lower_layout.specs.Shapes.{NumberShape}
use Rattle.ps_lower_layout.specs.Frames.{Own, entry_offset}
use Rattle.ps_lower_code.specs.Scopes.{routine_up, kind_at, Site}
use Rattle.ps_lower_code.specs.Values.{relation_in, left_in, right_in, front_code}
use Rattle.ps_lower_code.specs.Statements.{step_number, statement_code, statements_code}
use Rattle.ps_lower_code.specs.Fits.{StatementFits, StatementsFit}
use Rattle.ps_lower_relation.specs.Here.{Setting, code_in, costs_in, Work, Activated, IsActive, Alive}
use Rattle.ps_lower_relation.specs.Outcomes.{Runs}
use Rattle.ps_lower_relation.specs.RunTime.{WritesDo}
use Rattle.ps_lower_calls.specs.Routines.{RoutinesFit}
use Rattle.ps_lower_constructs.specs.Openings.{plain_scope, Opening, scope_in, context_in, IsOpened}

abbrev pub Nothing : Done → World → Work → Type 0
Nothing u w k = Unit {0}

abbrev pub IsHeld : ℕ → Operand → Type 0
IsHeld d (operand.Temporary u) = u < d
IsHeld d (operand.Number z) = Unit {0}

module _ (p : Setting) where
  abbrev pub own_site : Activated → Opening → ℕ → Site
  own_site c o variable = record { base = base.Frame; offset = entry_offset (routine_up (scope_in p c o) 0) variable }

  -- Where the next iteration of a `for` statement is decided: after its body, which comes after the step.
  pub record TurnStands (c : Activated) (o : Opening) (variable : ℕ) (direction : Direction) (last : ℤ) (s : Statement)
      (d : ℕ) (k : Work) (pc pc' : ℕ) : Type 0 where
    pub start : ℕ
    pub depth : ℕ
    pub t : ℕ
    pub limit : Operand
    pub above : d ≤ depth
    pub free : depth ≤ t
    pub limit_is : operand_value k.temporaries limit ≡ Some (Numeral last)
    pub limit_held : IsHeld depth limit
    pub step : Stands (code_in p) c.routine start
        (i.Bits bit.Plus t t (operand.Number (step_number direction)) ∷ i.Store base.Frame
        (own_site c o variable).offset t ∷ []) (suc (suc start))
    pub body : Stands (code_in p) c.routine (suc (suc start)) (statement_code (scope_in p c o) s depth) pc
    pub test : Stands (code_in p) c.routine pc
        (i.Load t base.Frame (own_site c o variable).offset ∷ i.BranchBack NotEqual t limit
        (length (statement_code (scope_in p c o) s depth) + 3) ∷ []) pc'

  -- where the code of a task is: a loop's continues at its test
  abbrev pub TaskStands : Activated → Opening → Task → (d : ℕ) → Work → (pc pc' : ℕ) → Type 0
  TaskStands c o (Block body) d k pc pc' = Stands (code_in p) c.routine pc (statements_code (scope_in p c o) body d) pc'
  TaskStands c o (Again (While e s)) d k pc pc' =
      (start : ℕ) × Stands (code_in p) c.routine start (statement_code (scope_in p c o) s d) pc
      × Stands (code_in p) c.routine pc (front_code (scope_in p c o) e d 0 ++ i.BranchBack (relation_in e) (left_in e d)
      (right_in e d) (length (statement_code (scope_in p c o) s d) + length (front_code (scope_in p c o) e d 0))
      ∷ []) pc'
  TaskStands c o (Again (Repeat body e)) d k pc pc' = Stands (code_in p) c.routine pc
      (statement_code (scope_in p c o) (Repeat body e) d) pc'
  TaskStands c o (Further variable direction last s) d k pc pc' = TurnStands c o variable direction last s d k pc pc'
  TaskStands c o task d k pc pc' = ⊥

  abbrev pub TaskFits : Activated → Opening → Task → Type 0
  TaskFits c o (Block body) = StatementsFit (plain_scope p c) o.shapes body
  TaskFits c o (Again s) = StatementFits (plain_scope p c) o.shapes s
  TaskFits c o (Further variable direction last s) =
      ((first : ℤ) × ((narrow : Bool) × (kind_at (plain_scope p c) 0 variable ≡ Some (Own (NumberShape first narrow)))))
      × StatementFits (plain_scope p c) o.shapes s

  -- what is known of the tasks with one fuel less, in every activation
  abbrev pub NextRuns : (n : ℕ) → Next → Type 0
  NextRuns n next =
      (c : Activated) → IsActive p c → (task : Task) (d : ℕ) (o : Opening) (w : World) (k : Work) (pc pc' : ℕ)
      → Alive p c w k → IsOpened p c w k d o → TaskFits c o task → TaskStands c o task d k pc pc'
      → Runs p n c d 0 w k pc pc' (next task (context_in c o) w) Nothing

-- With every fuel, each task's code does what the task means, if the routines that it may call fit.
abbrev pub EveryFuel : Type 0
EveryFuel = (p : Setting) → WritesDo p → RoutinesFit p.program → (n : ℕ) → NextRuns p n
    (execute p.program (costs_in p) n)
