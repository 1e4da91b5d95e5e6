-- Assignment statements (6.8.2.2): the variable or the function's result, and what may be assigned to it.
use Rattle.std.specs.Prelude.{ℕ, ◌-◌, ◌==◌, false, List, [], ◌∷◌, Option, Some, None, if◌then◌else◌, option_map}
use Rattle.ps_text.specs.declared.Span.{Span}
use Rattle.ps_syntax.specs.declared.expression.Expr.{Expr}
use Rattle.ps_syntax.specs.declared.expression.Variable as syntax
use Rattle.ps_tree.specs.Types.{DataType, SetType, is_assignable}
use Rattle.ps_tree.specs.Tree as Tree
use Rattle.ps_check_judgement.specs.declared.refusal.Rule.TheVariants.{WrongKind, NotAssignable}
use Rattle.ps_check_judgement.specs.Judged.{Judged, No, provided, some_or}
use Rattle.ps_check_judgement.specs.Changing.{Changing, ◌>>=◌, still}
use Rattle.ps_check_names.specs.Spelling.{line_in}
use Rattle.ps_check_names.specs.Regions.{Context, Region, BlockRegion, RecordRegion, OwnNames, Point, BlockPoint}
use Rattle.ps_check_names.specs.Regions.{Heading, RoutineMeaning}
use Rattle.ps_check_expressions.specs.Values.{Value, SimpleValue, SetValue, StructureValue, Variable, range_of}
use Rattle.ps_check_expressions.specs.Names.{denoted}
use Rattle.ps_check_expressions.specs.Places.{variable_at}
use Rattle.ps_check_expressions.specs.Changed.{changed}
use Rattle.ps_check_expressions.specs.Expressions.{operand, variable_operand}

-- the result of a function, as a variable of the block that is `levels` blocks out
abbrev pub result_of : Heading → ℕ → Option Variable
result_of h levels = option_map
    (λ type. record { place = Tree.Variable (Tree.Entry levels 0) Tree.no_selector; type = type; in_packed = false })
    h.result

-- 6.6.2: the function's name denotes its result in the function's own block, which is n blocks further out
unfoldable pub result_in : List Region → ℕ → Heading → ℕ → Option Variable
result_in [] n h levels = None
result_in (BlockRegion routine names known ∷ Γ) n h levels =
    if n == 0 then (if routine == h.number then result_of h levels else None) else result_in Γ (n - 1) h levels
result_in (RecordRegion type fields ∷ Γ) n h levels = result_in Γ n h levels
result_in (OwnNames names defined ∷ Γ) n h levels = result_in Γ n h levels

-- What a name alone denotes on the left of `:=`. A function is declared in the block around its own.
unfoldable pub target_at : List Region → (at : ℕ) → Point → Judged Variable
target_at Γ at (BlockPoint up (RoutineMeaning h)) = some_or WrongKind at
    (if up == 0 then None else result_in Γ (up - 1) h (up - 1))
target_at Γ at p = variable_at at p

-- a set's members must be in the base of the variable's type
unfoldable pub set_assigned : (at : ℕ) → Tree.Place → DataType → Tree.SetExpr → DataType → ℕ → Judged Tree.Statement
set_assigned at place (SetType a k o) e from line = provided (is_assignable from (SetType a k o)) NotAssignable at
    (Tree.AssignSet place o.low o.high e line)
set_assigned at place type e from line = No NotAssignable at

-- 6.4.6: the value is assignment-compatible with the type of the variable; the `:=` is at `at`
unfoldable pub assigned : (at : ℕ) → Variable → Value → ℕ → Judged Tree.Statement
assigned at v (SimpleValue e from) line = provided (is_assignable from v.type) NotAssignable at
    (Tree.Assign v.place (range_of v.type) e line)
assigned at v (SetValue e from) line = set_assigned at v.place v.type e from line
assigned at v (StructureValue e from) line = provided (is_assignable from v.type) NotAssignable at
    (Tree.AssignStructure v.place e)

module _ (c : Context) (Γ : List Region) where
  -- what a name alone denotes, otherwise a component
  abbrev pub name_or_component : Option Span → Changing Variable → Changing Variable
  name_or_component None component = component
  name_or_component (Some name) component = still (denoted c Γ name) >>= (λ p. still (target_at Γ name.from p))

  abbrev pub target : syntax.Variable → Changing Variable
  target x = name_or_component (variable_operand c Γ x).name (variable_operand c Γ x).variable

  -- the variable is changed at its place
  abbrev pub assignment : syntax.Variable → Span → Expr → Changing Tree.Statement
  assignment x at y = do
    v ← target x
    _ ← changed c v.place (variable_operand c Γ x).first
    e ← (operand c Γ y).value
    still (assigned at.from v e (line_in c.text at.from))
