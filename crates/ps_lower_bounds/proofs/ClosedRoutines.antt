-- The code of a routine is closed, but for its end, to which jumps may lead.
use Rattle.std.proofs.Common.{◌≡◌, ℕ, suc, ◌+◌, ◌≤◌, if◌then◌else◌, List, [], ◌∷◌, ◌++◌, length, Option, Some, None}
use Rattle.std.proofs.Common.{refl, arith}
use Rattle.ps_tree.specs.Types.{DataType}
use Rattle.ps_tree.specs.Sizes.{cells}
use Rattle.ps_tree.specs.Counts.{routine_cells, routine_extent, formals_extent, formal_cells, result_extent}
use Rattle.ps_tree.specs.Counts.{variables_extent}
use Rattle.ps_tree.specs.Tree.{Formal, ValueFormal, VariableFormal, RoutineFormal, Formals, no_formal, formal_before}
use Rattle.ps_tree.specs.Tree.{Routine, Program}
use Rattle.ps_tree.specs.declared.limits.TheConstants.{MAX_CELLS}
use Rattle.tac_code.specs.declared.code.Base.TheVariants as base
use Rattle.tac_code.specs.declared.code.Instruction.TheVariants as i
use Rattle.ps_lower_layout.specs.Shapes.{Shape, NumberShape, PointerShape, SetShape, ByteShape, ArrayShape}
use Rattle.ps_lower_layout.specs.Shapes.{RecordShape, shape_of, byte_count}
use Rattle.ps_lower_layout.specs.Frames.{Kind, Own, Reference, Closure, Kinds, no_kind, kind_before, kind_of, kinds_of}
use Rattle.ps_lower_layout.specs.Frames.{entry_offset, link_offset, is_program_block}
use Rattle.ps_lower_code.specs.Scopes.{Scope}
use Rattle.ps_lower_code.specs.Statements.{first_code, statements_code}
use Rattle.ps_lower_code.specs.Routines.{own_code, parameter_code, parameter_words, parameter_total, parameters_code}
use Rattle.ps_lower_code.specs.Routines.{variables_code, result_code, result_entries, count_kinds, input_code}
use Rattle.ps_lower_code.specs.Routines.{begin_code, scope_of}
use Rattle.ps_lower_bounds.specs.Forms.{IsSmall, VariablesHaveFirst, ResultHasFirst, RoutineFormed}
use Rattle.ps_lower_bounds.proofs.Cells.{words_cells}
use Rattle.ps_lower_bounds.proofs.Counts.{ProgramFew}
use Rattle.ps_lower_bounds.proofs.Closed.{Closed, both, four, either}
use Rattle.ps_lower_bounds.proofs.ClosedFirsts.{first_closed}
use Rattle.ps_lower_bounds.proofs.ClosedStatements.{statements_closed}

-- a type of few cells has few bytes
pub few_bytes : (type : DataType) → cells type ≤ MAX_CELLS → IsSmall (byte_count (shape_of type))
few_bytes type l = let w = words_cells type in omega (arith, l, w)

-- ---- parameters

abbrev IsSmallKind : Kind → Type 0
IsSmallKind (Own shape) = IsSmall (byte_count shape)
IsSmallKind (Reference shape) = Unit {0}
IsSmallKind (Closure kinds result) = Unit {0}

abbrev AreSmallKinds : Kinds → Type 0
AreSmallKinds no_kind = Unit {0}
AreSmallKinds (kind_before kind rest) = IsSmallKind kind × AreSmallKinds rest

kind_small : (f : Formal) → formal_cells f ≤ MAX_CELLS → IsSmallKind (kind_of f)
unfolding formal_cells
kind_small (ValueFormal type) l = few_bytes type l
kind_small (VariableFormal type) l = tt
kind_small (RoutineFormal formals result) l = tt

kinds_small : (formals : Formals) → (formals_extent formals).taken ≤ MAX_CELLS → AreSmallKinds (kinds_of formals)
unfolding formals_extent
kinds_small no_formal l = tt
kinds_small (formal_before f rest) l = (kind_small f (omega (arith, l)), kinds_small rest (omega (arith, l)))

module _ (R T : ℕ) (k : Scope) (r : Routine) (h : length k.program.routines ≡ R) where
  own_closed : (shape : Shape) (t offset free : ℕ) → IsSmall (byte_count shape) → Closed R T 0 0
      (own_code k shape t offset free)
  own_closed (NumberShape first narrow) t offset free s = (tt, tt, tt)
  own_closed (PointerShape pointer) t offset free s = (tt, tt, tt)
  own_closed SetShape t offset free s = omega (arith, h, s)
  own_closed (ByteShape count first) t offset free s = omega (arith, h, s)
  own_closed (ArrayShape count shape) t offset free s = omega (arith, h, s)
  own_closed (RecordShape shapes) t offset free s = omega (arith, h, s)

  parameter_closed : (kind : Kind) (t offset free : ℕ) → IsSmallKind kind → Closed R T 0 0
      (parameter_code k kind t offset free)
  parameter_closed (Own shape) t offset free s = own_closed shape t offset free s
  parameter_closed (Reference shape) t offset free s = (tt, tt, tt)
  parameter_closed (Closure kinds result) t offset free s = (tt, tt, (tt, tt, tt))

  parameters_closed : (kinds : Kinds) (t index free : ℕ) → AreSmallKinds kinds → Closed R T 0 0
      (parameters_code k r kinds t index free)
  parameters_closed no_kind t index free s = tt
  parameters_closed (kind_before kind rest) t index free s =
      both R T (parameter_code k kind t (entry_offset r index) free) _
      (parameter_closed kind t (entry_offset r index) free s.0)
      (parameters_closed rest (t + parameter_words kind) (suc index) free s.1)

  -- ---- first values

  variables_closed : (types : List DataType) (index free : ℕ) → VariablesHaveFirst types
      → (variables_extent types).taken ≤ MAX_CELLS → Closed R T 0 0 (variables_code k r types index free)
  unfolding variables_extent
  variables_closed [] index free f l = tt
  variables_closed (type ∷ rest) index free f l =
      both R T (first_code k base.Frame free (entry_offset r index) (shape_of type)) _
      (first_closed R T k h base.Frame free (entry_offset r index) (shape_of type) f.0
      (few_bytes type (omega (arith, l)))) (variables_closed rest (suc index) free f.1 (omega (arith, l)))

  result_closed : (result : Option DataType) (free : ℕ) → ResultHasFirst result
      → (result_extent result).taken ≤ MAX_CELLS
      → Closed R T 0 0 (result_code k r result free)
  unfolding result_extent
  result_closed None free f l = tt
  result_closed (Some type) free f l = first_closed R T k h base.Frame free (entry_offset r 0) (shape_of type) f
      (few_bytes type (omega (arith, l)))

  begin_closed : ResultHasFirst r.result → VariablesHaveFirst r.variables → routine_cells r ≤ MAX_CELLS → Closed R T 0 0
      (begin_code k r)
  unfolding routine_extent
  begin_closed f g l =
      let P = parameter_total r in
      four R T (if is_program_block r.chain then input_code r P else (i.Store base.Frame (link_offset r) 0 ∷ [])) _ _ _
      (either R T (is_program_block r.chain) (input_code r P) (i.Store base.Frame (link_offset r) 0 ∷ []) (omega arith)
      (tt, tt, tt))
      (result_closed r.result P f (omega (arith, l)))
      (parameters_closed (kinds_of r.formals) 1 (result_entries r.result) P (kinds_small r.formals (omega (arith, l))))
      (variables_closed r.variables (result_entries r.result + count_kinds (kinds_of r.formals)) P g (omega (arith, l)))

-- all but the end of a routine
pub routine_closed : (program : Program) (r : Routine) → ProgramFew program → RoutineFormed program r → routine_cells r
    ≤ MAX_CELLS
    → Closed (length program.routines) (length program.domains) 0 0
    (begin_code (scope_of program r) r ++ statements_code (scope_of program r) r.body 0)
routine_closed program r few f l =
    let R = length program.routines in let T = length program.domains in let k = scope_of program r in
    both R T (begin_code k r) _ (begin_closed R T k r refl f.result f.variables l)
    (statements_closed R T k [] (record { routines = refl; types = refl; program = few; opened = tt }) r.body 0 f.body)
