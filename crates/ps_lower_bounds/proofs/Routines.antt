-- What the code of a whole routine uses, and how large it is.
use Rattle.std.proofs.Common.{ℕ, suc, ◌+◌, ◌*◌, ◌<◌, ◌≤◌, Bool, true, false, if◌then◌else◌, List, [], ◌∷◌, Option}
use Rattle.std.proofs.Common.{Some, None, arith}
use Rattle.ps_tree.specs.Types.{DataType}
use Rattle.ps_tree.specs.Counts.{routine_cells, routine_nodes, routine_extent, formals_extent, statements_extent}
use Rattle.ps_tree.specs.Tree.{Formal, ValueFormal, VariableFormal, RoutineFormal, Formals, no_formal, formal_before}
use Rattle.ps_tree.specs.Tree.{Routine, Program}
use Rattle.tac_code.specs.declared.code.Base.TheVariants as base
use Rattle.tac_code.specs.declared.code.Instruction.TheVariants as i
use Rattle.tac_code.specs.Meaning.{size}
use Rattle.ps_lower_layout.specs.Shapes.{Shape, NumberShape, PointerShape, SetShape, ByteShape, ArrayShape}
use Rattle.ps_lower_layout.specs.Shapes.{RecordShape, shape_of}
use Rattle.ps_lower_layout.specs.Frames.{Kind, Own, Reference, Closure, Kinds, no_kind, kind_before, kind_of, kinds_of}
use Rattle.ps_lower_layout.specs.Frames.{entry_offset, link_offset, is_program_block}
use Rattle.ps_lower_code.specs.Scopes.{Scope}
use Rattle.ps_lower_code.specs.Statements.{first_code}
use Rattle.ps_lower_code.specs.Routines.{own_code, parameter_code, parameter_words, count_parameters, parameter_total}
use Rattle.ps_lower_code.specs.Routines.{parameters_code, variables_code, result_code, result_entries, count_kinds}
use Rattle.ps_lower_code.specs.Routines.{input_code, begin_code, result_end, end_code, scope_of, routine_code}
use Rattle.ps_lower_code.specs.Programs.{tac_of}
use Rattle.ps_lower_bounds.proofs.Uses.{Under, both, three, four, either, temporaries_counted, scratch_counted}
use Rattle.ps_lower_bounds.proofs.Firsts.{first_under}
use Rattle.ps_lower_bounds.proofs.Statements.{statements_under}
use Rattle.ps_lower_bounds.proofs.Cells.{entries_words}

-- ---- the parameters

words_most : (f : Formal) → parameter_words (kind_of f) ≤ 2
words_most (ValueFormal type) = omega arith
words_most (VariableFormal type) = omega arith
words_most (RoutineFormal formals result) = omega arith

pub parameters_most : (formals : Formals) → count_parameters (kinds_of formals) ≤ 2 * (formals_extent formals).nodes
unfolding formals_extent
parameters_most no_formal = omega arith
parameters_most (formal_before f rest) = let w = words_most f in let r = parameters_most rest in omega (arith, w, r)

module _ (k : Scope) (r : Routine) (D X : ℕ) where
  own_under : (shape : Shape) (t offset free : ℕ) → t < D → free + 5 ≤ D → Under D X (own_code k shape t offset free)
  own_under (NumberShape first narrow) t offset free h l = ((tt, h), tt)
  own_under (PointerShape pointer) t offset free h l = ((tt, h), tt)
  own_under SetShape t offset free h l = omega (arith, h, l)
  own_under (ByteShape count first) t offset free h l = omega (arith, h, l)
  own_under (ArrayShape count shape) t offset free h l = omega (arith, h, l)
  own_under (RecordShape shapes) t offset free h l = omega (arith, h, l)

  parameter_under : (kind : Kind) (t offset free : ℕ) → t + parameter_words kind ≤ D → free + 5 ≤ D → Under D X
      (parameter_code k kind t offset free)
  parameter_under (Own shape) t offset free h l = own_under shape t offset free (omega (arith, h)) l
  parameter_under (Reference shape) t offset free h l = omega (arith, h)
  parameter_under (Closure kinds result) t offset free h l = omega (arith, h)

  parameters_under : (kinds : Kinds) (t index free : ℕ) → t + count_parameters kinds ≤ D → free + 5 ≤ D → Under D X
      (parameters_code k r kinds t index free)
  parameters_under no_kind t index free h l = tt
  parameters_under (kind_before kind rest) t index free h l =
      both D X (parameter_code k kind t (entry_offset r index) free) _
      (parameter_under kind t (entry_offset r index) free (omega (arith, h)) l)
      (parameters_under rest (t + parameter_words kind) (suc index) free (omega (arith, h)) l)

  -- ---- first values

  variables_under : (types : List DataType) (index free : ℕ) → free + 5 ≤ D → Under D X
      (variables_code k r types index free)
  variables_under [] index free l = tt
  variables_under (type ∷ rest) index free l =
      both D X (first_code k base.Frame free (entry_offset r index) (shape_of type)) _
      (first_under k D X base.Frame tt free (entry_offset r index) (shape_of type) l)
      (variables_under rest (suc index) free l)

  result_under : (result : Option DataType) (free : ℕ) → free + 5 ≤ D → Under D X (result_code k r result free)
  result_under None free l = tt
  result_under (Some type) free l = first_under k D X base.Frame tt free (entry_offset r 0) (shape_of type) l

  begin_under : parameter_total r + 5 ≤ D → 1 + count_parameters (kinds_of r.formals) ≤ D → Under D X (begin_code k r)
  begin_under l h =
      let P = parameter_total r in
      four D X (if is_program_block r.chain then input_code r P else (i.Store base.Frame (link_offset r) 0 ∷ [])) _ _ _
      (either D X (is_program_block r.chain) (input_code r P) (i.Store base.Frame (link_offset r) 0 ∷ [])
      (omega (arith, l)) (omega (arith, l)))
      (result_under r.result P l)
      (parameters_under (kinds_of r.formals) 1 (result_entries r.result) P h l)
      (variables_under r.variables (result_entries r.result + count_kinds (kinds_of r.formals)) P l)

  result_end_under : (result : Option DataType) → 5 ≤ D → Under D X (result_end r result)
  result_end_under None l = omega (arith, l)
  result_end_under (Some type) l = omega (arith, l)

  end_under : 5 ≤ D → Under D X (end_code r)
  end_under l = either D X (is_program_block r.chain) (i.End ∷ []) (result_end r r.result) (tt, tt)
      (result_end_under r.result l)

-- ---- a routine

abbrev pub depth_of : Routine → ℕ
depth_of r = parameter_total r + 5 + 2 * (formals_extent r.formals).nodes + 8 * (statements_extent r.body).nodes

abbrev pub scratch_of : Routine → ℕ
scratch_of r = 32 * (statements_extent r.body).nodes + 4 * (statements_extent r.body).taken

pub routine_under : (program : Program) (r : Routine) → Under (depth_of r) (scratch_of r) (routine_code program r)
routine_under program r =
    let p = parameters_most r.formals in
    three (depth_of r) (scratch_of r) (begin_code (scope_of program r) r) _ _
    (begin_under (scope_of program r) r (depth_of r) (scratch_of r) (omega arith) (omega (arith, p)))
    (statements_under (depth_of r) (scratch_of r) (scope_of program r) tt r.body 0 (omega arith))
    (end_under (scope_of program r) r (depth_of r) (scratch_of r) (omega arith))

-- the words for input are the program block's alone, which has no parameters
input_or_parameters : (b : Bool) (n : ℕ) → (if b then 2 else 0) + (if b then 0 else suc n) ≤ 2 + n
input_or_parameters true n = omega arith
input_or_parameters false n = omega arith

pub sizes_bounded : (program : Program) (r : Routine) → size (tac_of program r) ≤ 32 + 4 * routine_cells r
    + 64 * routine_nodes r
unfolding routine_extent
sizes_bounded program r =
    let u = routine_under program r in
    let t = temporaries_counted (depth_of r) (scratch_of r) (routine_code program r) u in
    let s = scratch_counted (depth_of r) (scratch_of r) (routine_code program r) u in
    let w = entries_words r in
    let p = parameters_most r.formals in
    let b = input_or_parameters (is_program_block r.chain) (count_parameters (kinds_of r.formals)) in
    omega (arith, t, s, w, p, b)
