-- The height of each construction.
use Rattle.std.proofs.Common.{◌≡◌, ℕ, suc, ◌+◌, max, List, map, Option, sym, ap, ◌∙◌}
use Rattle.ps_text.specs.declared.Span.{Span}
use Rattle.ps_syntax.specs.declared.expression.AddedTerm.{AddedTerm, roll-AddedTerm}
use Rattle.ps_syntax.specs.declared.expression.Adding.{Adding}
use Rattle.ps_syntax.specs.declared.expression.Expr.{Expr}
use Rattle.ps_syntax.specs.declared.expression.Factor.{Factor}
use Rattle.ps_syntax.specs.declared.expression.Member.{Member}
use Rattle.ps_syntax.specs.declared.expression.MultipliedFactor.{MultipliedFactor}
use Rattle.ps_syntax.specs.declared.expression.Multiplying.{Multiplying}
use Rattle.ps_syntax.specs.declared.expression.Relational.{Relational}
use Rattle.ps_syntax.specs.declared.expression.Selector.{Selector}
use Rattle.ps_syntax.specs.declared.expression.Sign.{Sign}
use Rattle.ps_syntax.specs.declared.expression.Simple.{Simple, roll-Simple}
use Rattle.ps_syntax.specs.declared.expression.Term.{Term, roll-Term}
use Rattle.ps_syntax.specs.declared.expression.Variable.{Variable}
use Rattle.ps_syntax.specs.declared.program.Block.{Block, roll-Block}
use Rattle.ps_syntax.specs.declared.program.ConstantDefinition.{ConstantDefinition}
use Rattle.ps_syntax.specs.declared.program.Fields.{Fields, roll-Fields}
use Rattle.ps_syntax.specs.declared.program.Heading.{Heading}
use Rattle.ps_syntax.specs.declared.program.Ordinal.{Ordinal}
use Rattle.ps_syntax.specs.declared.program.Routine.{Routine}
use Rattle.ps_syntax.specs.declared.program.Section.{Section}
use Rattle.ps_syntax.specs.declared.program.Structure.{Structure}
use Rattle.ps_syntax.specs.declared.program.TypeDefinition.{TypeDefinition}
use Rattle.ps_syntax.specs.declared.program.TypeDenoter.{TypeDenoter}
use Rattle.ps_syntax.specs.declared.program.Variables.{Variables}
use Rattle.ps_syntax.specs.declared.statement.Constant.{Constant}
use Rattle.ps_syntax.specs.declared.statement.Direction.{Direction}
use Rattle.ps_syntax.specs.declared.statement.Element.{Element, roll-Element}
use Rattle.ps_syntax.specs.declared.statement.Parameter.{Parameter}
use Rattle.ps_syntax.specs.declared.statement.Statement.{Statement}
use Rattle.ps_syntax.specs.declared.expression.Expr.TheOpen.{Expr-F, Factor-F, Member-F, Selector-F}
use Rattle.ps_syntax.specs.declared.program.Heading.TheOpen.{Heading-F, Section-F}
use Rattle.ps_syntax.specs.declared.program.Routine.TheOpen.{Routine-F}
use Rattle.ps_syntax.specs.declared.program.Structure.TheOpen.{Structure-F, TypeDenoter-F}
use Rattle.ps_syntax.specs.declared.statement.Statement.TheOpen.{Statement-F}
use Rattle.ps_syntax.specs.declared.program.Heading.TheFolds.{fold-roll-Heading, fold-roll-Section}
use Rattle.ps_syntax.specs.declared.program.Routine.TheFolds.{fold-roll-Block, fold-roll-Routine}
use Rattle.ps_syntax.specs.declared.program.Structure.TheFolds.{fold-roll-Fields, fold-roll-Structure}
use Rattle.ps_syntax.specs.declared.program.Structure.TheFolds.{fold-roll-TypeDenoter}
use Rattle.ps_syntax.specs.declared.statement.Statement.TheFolds.{fold-roll-Element, fold-roll-Statement}
use Rattle.ps_syntax.specs.declared.expression.Expr.TheVariants as e
use Rattle.ps_syntax.specs.declared.expression.Factor.TheVariants as f
use Rattle.ps_syntax.specs.declared.expression.Member.TheVariants as member
use Rattle.ps_syntax.specs.declared.expression.Selector.TheVariants as selector
use Rattle.ps_syntax.specs.declared.program.Heading.TheVariants as h
use Rattle.ps_syntax.specs.declared.program.Routine.TheVariants as q
use Rattle.ps_syntax.specs.declared.program.Section.TheVariants as v
use Rattle.ps_syntax.specs.declared.program.Structure.TheVariants as u
use Rattle.ps_syntax.specs.declared.program.TypeDenoter.TheVariants as t
use Rattle.ps_syntax.specs.declared.statement.Statement.TheVariants as s
use Rattle.ps_syntax.proofs.Nodes.{added_made, expr_made, factor_made, member_made, multiplied_made, of_walk}
use Rattle.ps_syntax.proofs.Nodes.{selector_made, simple_made, term_made, variable_made}
use Rattle.ps_syntax.specs.Height.{greatest, height_of_added, height_of_block, height_of_element, height_of_expr}
use Rattle.ps_syntax.specs.Height.{height_of_factor, height_of_fields, height_of_formals, height_of_heading}
use Rattle.ps_syntax.specs.Height.{height_of_member, height_of_multiplied, height_of_parameter, height_of_routine}
use Rattle.ps_syntax.specs.Height.{height_of_section, height_of_selector, height_of_simple, height_of_statement}
use Rattle.ps_syntax.specs.Height.{height_of_structure, height_of_term, height_of_type, height_of_types}
use Rattle.ps_syntax.specs.Height.{height_of_variable, height_of_variables, block_step, element_step, fields_step}
use Rattle.ps_syntax.specs.Height.{heading_step, routine_step, section_step, statement_step, structure_step, type_step}
use Rattle.ps_syntax.specs.Height.{heights}

pub height-simple_expr : (x : Simple) → height_of_expr (e.Simple x) ≡ suc (height_of_simple x)
height-simple_expr x = ap height_of_expr (sym (e.rolls-Simple x))
    ∙ expr_made (of_walk heights) (Expr-F.Simple x)

pub height-comparison : (x : Simple) (op : Relational) (at : Span) (y : Simple) → height_of_expr (e.Compare x op at y)
    ≡ suc (max (height_of_simple x) (height_of_simple y))
height-comparison x op at y = ap height_of_expr (sym (e.rolls-Compare x op at y))
    ∙ expr_made (of_walk heights) (Expr-F.Compare x op at y)

pub height-variable_factor : (x : Variable) → height_of_factor (f.Variable x) ≡ height_of_variable x
height-variable_factor x = ap height_of_factor (sym (f.rolls-Variable x))
    ∙ factor_made (of_walk heights) (Factor-F.Variable x)

pub height-call : (at : Span) (xs : List Expr) → height_of_factor (f.Call at xs) ≡ greatest (map height_of_expr xs)
height-call at xs = ap height_of_factor (sym (f.rolls-Call at xs))
    ∙ factor_made (of_walk heights) (Factor-F.Call at xs)

pub height-number : (at : Span) → height_of_factor (f.Number at) ≡ 0
height-number at = ap height_of_factor (sym (f.rolls-Number at))
    ∙ factor_made (of_walk heights) (Factor-F.Number at)

pub height-text : (at : Span) → height_of_factor (f.Text at) ≡ 0
height-text at = ap height_of_factor (sym (f.rolls-Text at))
    ∙ factor_made (of_walk heights) (Factor-F.Text at)

pub height-nil : (at : Span) → height_of_factor (f.Nil at) ≡ 0
height-nil at = ap height_of_factor (sym (f.rolls-Nil at))
    ∙ factor_made (of_walk heights) (Factor-F.Nil at)

pub height-set : (at : Span) (xs : List Member) → height_of_factor (f.Set at xs) ≡ greatest (map height_of_member xs)
height-set at xs = ap height_of_factor (sym (f.rolls-Set at xs))
    ∙ factor_made (of_walk heights) (Factor-F.Set at xs)

pub height-group : (at : Span) (n : ℕ) (x : Expr) → height_of_factor (f.Group at n x) ≡ n + height_of_expr x
height-group at n x = ap height_of_factor (sym (f.rolls-Group at n x))
    ∙ factor_made (of_walk heights) (Factor-F.Group at n x)

pub height-not : (at : Span) (x : Factor) → height_of_factor (f.Not at x) ≡ suc (height_of_factor x)
height-not at x = ap height_of_factor (sym (f.rolls-Not at x))
    ∙ factor_made (of_walk heights) (Factor-F.Not at x)

pub height-single : (x : Expr) → height_of_member (member.One x) ≡ height_of_expr x
height-single x = ap height_of_member (sym (member.rolls-One x))
    ∙ member_made (of_walk heights) (Member-F.One x)

pub height-range : (x : Expr) (y : Expr) → height_of_member (member.Range x y) ≡ max (height_of_expr x)
    (height_of_expr y)
height-range x y = ap height_of_member (sym (member.rolls-Range x y))
    ∙ member_made (of_walk heights) (Member-F.Range x y)

pub height-index : (xs : List Expr) → height_of_selector (selector.Index xs) ≡ greatest (map height_of_expr xs)
height-index xs = ap height_of_selector (sym (selector.rolls-Index xs))
    ∙ selector_made (of_walk heights) (Selector-F.Index xs)

pub height-field : (at : Span) → height_of_selector (selector.Field at) ≡ 0
height-field at = ap height_of_selector (sym (selector.rolls-Field at))
    ∙ selector_made (of_walk heights) (Selector-F.Field at)

pub height-content : (at : Span) → height_of_selector (selector.Content at) ≡ 0
height-content at = ap height_of_selector (sym (selector.rolls-Content at))
    ∙ selector_made (of_walk heights) (Selector-F.Content at)

pub height-added : (op : Adding) (at : Span) (x : Term) → height_of_added (roll-AddedTerm (record {
  operator = op;
  at = at;
  term = x;
})) ≡ height_of_term x
height-added op at x = added_made (of_walk heights) (record {
  operator = op;
  at = at;
  term = x;
})

pub height-multiplied : (op : Multiplying) (at : Span) (x : Factor) → height_of_multiplied (record {
  operator = op;
  at = at;
  factor = x;
}) ≡ height_of_factor x
height-multiplied op at x = multiplied_made (of_walk heights) (record {
  operator = op;
  at = at;
  factor = x;
})

pub height-simple : (sign : Option (Sign × Span)) (x : Term) (xs : List AddedTerm) → height_of_simple
    (roll-Simple (record {
      sign = sign;
      first = x;
      more = xs;
    })) ≡ max (height_of_term x) (greatest (map height_of_added xs))
height-simple sign x xs = simple_made (of_walk heights) (record {
  sign = sign;
  first = x;
  more = xs;
})

pub height-term : (x : Factor) (xs : List MultipliedFactor) → height_of_term (roll-Term (record {
  first = x;
  more = xs;
})) ≡ max (height_of_factor x) (greatest (map height_of_multiplied xs))
height-term x xs = term_made (of_walk heights) (record {
  first = x;
  more = xs;
})

pub height-variable : (at : Span) (xs : List Selector) → height_of_variable (record {
  name = at;
  selectors = xs;
}) ≡ greatest (map height_of_selector xs)
height-variable at xs = variable_made (of_walk heights) (record {
  name = at;
  selectors = xs;
})

pub height-empty : height_of_statement s.Empty ≡ 1
height-empty = ap height_of_statement (sym (s.rolls-Empty))
    ∙ fold-roll-Statement ℕ ℕ statement_step element_step Statement-F.Empty

pub height-assign : (x : Variable) (at : Span) (y : Expr) → height_of_statement (s.Assign x at y) ≡ suc
    (max (height_of_variable x) (height_of_expr y))
height-assign x at y = ap height_of_statement (sym (s.rolls-Assign x at y))
    ∙ fold-roll-Statement ℕ ℕ statement_step element_step (Statement-F.Assign x at y)

pub height-procedure_call : (at : Span) (xs : List Parameter) → height_of_statement (s.Call at xs) ≡ suc
    (greatest (map height_of_parameter xs))
height-procedure_call at xs = ap height_of_statement (sym (s.rolls-Call at xs))
    ∙ fold-roll-Statement ℕ ℕ statement_step element_step (Statement-F.Call at xs)

pub height-compound : (xs : List Statement) → height_of_statement (s.Compound xs) ≡ suc
    (greatest (map height_of_statement xs))
height-compound xs = ap height_of_statement (sym (s.rolls-Compound xs))
    ∙ fold-roll-Statement ℕ ℕ statement_step element_step (Statement-F.Compound xs)

pub height-if_then : (x : Expr) (y : Statement) → height_of_statement (s.If x y) ≡ suc
    (max (height_of_expr x) (height_of_statement y))
height-if_then x y = ap height_of_statement (sym (s.rolls-If x y)) ∙ fold-roll-Statement ℕ ℕ statement_step element_step
    (Statement-F.If x y)

pub height-if_else : (x : Expr) (y : Statement) (z : Statement) → height_of_statement (s.IfElse x y z) ≡ suc
    (max (height_of_expr x) (max (height_of_statement y) (height_of_statement z)))
height-if_else x y z = ap height_of_statement (sym (s.rolls-IfElse x y z))
    ∙ fold-roll-Statement ℕ ℕ statement_step element_step (Statement-F.IfElse x y z)

pub height-case : (at : Span) (x : Expr) (xs : List Element) → height_of_statement (s.Case at x xs)
    ≡ suc (max (height_of_expr x) (greatest (map height_of_element xs)))
height-case at x xs = ap height_of_statement (sym (s.rolls-Case at x xs))
    ∙ fold-roll-Statement ℕ ℕ statement_step element_step (Statement-F.Case at x xs)

pub height-while : (x : Expr) (y : Statement) → height_of_statement (s.While x y) ≡ suc
    (max (height_of_expr x) (height_of_statement y))
height-while x y = ap height_of_statement (sym (s.rolls-While x y))
    ∙ fold-roll-Statement ℕ ℕ statement_step element_step (Statement-F.While x y)

pub height-repeat : (xs : List Statement) (x : Expr) → height_of_statement (s.Repeat xs x) ≡ suc
    (max (greatest (map height_of_statement xs)) (height_of_expr x))
height-repeat xs x = ap height_of_statement (sym (s.rolls-Repeat xs x))
    ∙ fold-roll-Statement ℕ ℕ statement_step element_step (Statement-F.Repeat xs x)

pub height-for : (at : Span) (x : Expr) (d : Direction) (y : Expr) (z : Statement) → height_of_statement
    (s.For at x d y z) ≡ suc (max (max (height_of_expr x) (height_of_expr y)) (height_of_statement z))
height-for at x d y z = ap height_of_statement (sym (s.rolls-For at x d y z))
    ∙ fold-roll-Statement ℕ ℕ statement_step element_step (Statement-F.For at x d y z)

pub height-with : (xs : List Variable) (x : Statement) → height_of_statement (s.With xs x) ≡ suc
    (max (greatest (map height_of_variable xs)) (height_of_statement x))
height-with xs x = ap height_of_statement (sym (s.rolls-With xs x))
    ∙ fold-roll-Statement ℕ ℕ statement_step element_step (Statement-F.With xs x)

pub height-element : (cs : List Constant) (x : Statement) → height_of_element (roll-Element (record {
  constants = cs;
  statement = x;
})) ≡ height_of_statement x
height-element cs x = fold-roll-Element ℕ ℕ statement_step element_step (record { constants = cs; statement = x })

pub height-ordinal : (x : Ordinal) → height_of_type (t.Ordinal x) ≡ 1
height-ordinal x = ap height_of_type (sym (t.rolls-Ordinal x))
    ∙ fold-roll-TypeDenoter ℕ ℕ ℕ structure_step type_step fields_step (TypeDenoter-F.Ordinal x)

pub height-pointer : (at : Span) (domain : Span) → height_of_type (t.Pointer at domain) ≡ 1
height-pointer at domain = ap height_of_type (sym (t.rolls-Pointer at domain))
    ∙ fold-roll-TypeDenoter ℕ ℕ ℕ structure_step type_step fields_step (TypeDenoter-F.Pointer at domain)

pub height-structure : (x : Structure) → height_of_type (t.Structure x) ≡ suc (height_of_structure x)
height-structure x = ap height_of_type (sym (t.rolls-Structure x))
    ∙ fold-roll-TypeDenoter ℕ ℕ ℕ structure_step type_step fields_step (TypeDenoter-F.Structure x)

pub height-packed : (at : Span) (x : Structure) → height_of_type (t.Packed at x) ≡ suc (height_of_structure x)
height-packed at x = ap height_of_type (sym (t.rolls-Packed at x))
    ∙ fold-roll-TypeDenoter ℕ ℕ ℕ structure_step type_step fields_step (TypeDenoter-F.Packed at x)

pub height-array : (at : Span) (xs : List Ordinal) (x : TypeDenoter) → height_of_structure (u.Array at xs x) ≡ max 1
    (height_of_type x)
height-array at xs x = ap height_of_structure (sym (u.rolls-Array at xs x))
    ∙ fold-roll-Structure ℕ ℕ ℕ structure_step type_step fields_step (Structure-F.Array at xs x)

pub height-record : (at : Span) (xs : List Fields) → height_of_structure (u.Record at xs) ≡ greatest
    (map height_of_fields xs)
height-record at xs = ap height_of_structure (sym (u.rolls-Record at xs))
    ∙ fold-roll-Structure ℕ ℕ ℕ structure_step type_step fields_step (Structure-F.Record at xs)

pub height-set_type : (at : Span) (x : Ordinal) → height_of_structure (u.Set at x) ≡ 1
height-set_type at x = ap height_of_structure (sym (u.rolls-Set at x))
    ∙ fold-roll-Structure ℕ ℕ ℕ structure_step type_step fields_step (Structure-F.Set at x)

pub height-fields : (xs : List Span) (x : TypeDenoter) → height_of_fields (roll-Fields (record {
  names = xs;
  ty = x;
})) ≡ height_of_type x
height-fields xs x = fold-roll-Fields ℕ ℕ ℕ structure_step type_step fields_step (record { names = xs; ty = x })

pub height-procedure : (at : Span) (xs : List Section) → height_of_heading (h.Procedure at xs) ≡ height_of_formals xs
height-procedure at xs = ap height_of_heading (sym (h.rolls-Procedure at xs))
    ∙ fold-roll-Heading ℕ ℕ heading_step section_step (Heading-F.Procedure at xs)

pub height-function : (at : Span) (xs : List Section) (ty : Span) → height_of_heading (h.Function at xs ty)
    ≡ height_of_formals xs
height-function at xs ty = ap height_of_heading (sym (h.rolls-Function at xs ty))
    ∙ fold-roll-Heading ℕ ℕ heading_step section_step (Heading-F.Function at xs ty)

pub height-value : (xs : List Span) (ty : Span) → height_of_section (v.Value xs ty) ≡ 0
height-value xs ty = ap height_of_section (sym (v.rolls-Value xs ty)) ∙ fold-roll-Section ℕ ℕ heading_step section_step
    (Section-F.Value xs ty)

pub height-variable_section : (xs : List Span) (ty : Span) → height_of_section (v.Variable xs ty) ≡ 0
height-variable_section xs ty = ap height_of_section (sym (v.rolls-Variable xs ty))
    ∙ fold-roll-Section ℕ ℕ heading_step section_step (Section-F.Variable xs ty)

pub height-routine_section : (x : Heading) → height_of_section (v.Routine x) ≡ height_of_heading x
height-routine_section x = ap height_of_section (sym (v.rolls-Routine x))
    ∙ fold-roll-Section ℕ ℕ heading_step section_step (Section-F.Routine x)

pub height-whole : (x : Heading) (b : Block) → height_of_routine (q.Whole x b) ≡ max (height_of_heading x)
    (height_of_block b)
height-whole x b = ap height_of_routine (sym (q.rolls-Whole x b)) ∙ fold-roll-Routine ℕ ℕ routine_step block_step
    (Routine-F.Whole x b)

pub height-forward : (x : Heading) → height_of_routine (q.Forward x) ≡ height_of_heading x
height-forward x = ap height_of_routine (sym (q.rolls-Forward x)) ∙ fold-roll-Routine ℕ ℕ routine_step block_step
    (Routine-F.Forward x)

pub height-completion : (at : Span) (b : Block) → height_of_routine (q.Completion at b) ≡ height_of_block b
height-completion at b = ap height_of_routine (sym (q.rolls-Completion at b))
    ∙ fold-roll-Routine ℕ ℕ routine_step block_step (Routine-F.Completion at b)

pub height-block : (cs : List ConstantDefinition) (types : List TypeDefinition) (vs : List Variables)
    (rs : List Routine) (begin : Span) (ss : List Statement) → height_of_block (roll-Block (record {
      constants = cs;
      types = types;
      variables = vs;
      routines = rs;
      begin = begin;
      statements = ss;
    })) ≡ suc (max (max (height_of_types types) (height_of_variables vs))
    (max (greatest (map height_of_routine rs)) (greatest (map height_of_statement ss))))
height-block cs types vs rs begin ss = fold-roll-Block ℕ ℕ routine_step block_step (record {
  constants = cs;
  types = types;
  variables = vs;
  routines = rs;
  begin = begin;
  statements = ss;
})
