-- The steps of the judgement of expressions: the view of each kind of part.
use Rattle.std.proofs.Common.{List}
use Rattle.ps_check_names.specs.Regions.{Context, Region}
use Rattle.ps_syntax.proofs.Nodes.{Results, StepsOf}
use Rattle.ps_check_expressions.specs.Values.{Value, Variable, Operand}
use Rattle.ps_check_expressions.specs.Expressions.{SeenMember, Step, expr_step, factor_step, member_step, selector_step}
use Rattle.ps_check_expressions.specs.Expressions.{added_step, multiplied_step, simple_step, term_step, variable_step}

abbrev pub Views : Results
Views = record {
  expr = Operand;
  factor = Operand;
  member = SeenMember;
  selector = Step Variable;
  added = Step Value;
  multiplied = Step Value;
  simple = Operand;
  term = Operand;
  variable = Operand;
}

abbrev pub views : Context → List Region → StepsOf Views
views c Γ = record {
  expr = expr_step c Γ;
  factor = factor_step c Γ;
  member = member_step c Γ;
  selector = selector_step c Γ;
  added = added_step c Γ;
  multiplied = multiplied_step c Γ;
  simple = simple_step c Γ;
  term = term_step c Γ;
  variable = variable_step c Γ;
}
