use Rattle.ps_syntax.specs.Height.{height_of_element, height_of_statement}
use Rattle.ps_syntax.proofs.Greatest.{reached_end}
use Rattle.ps_syntax.proofs.HeightLemmas.{element_is, limit, reached_on, statement_Assign_told, statement_Call_told}
use Rattle.ps_syntax.proofs.HeightLemmas.{statement_Case_told, statement_Compound_told, statement_Empty_told}
use Rattle.ps_syntax.proofs.HeightLemmas.{statement_For_told, statement_IfElse_told, statement_If_told}
use Rattle.ps_syntax.proofs.HeightLemmas.{statement_Repeat_told, statement_While_told, statement_With_told, told_as}
use Rattle.ps_syntax.proofs.heights.+statement_height.Goals as goal
use Rattle.ps_syntax.proofs.heights.+statement_height.Goals.{statement_height-in-Empty, statement_height-in-Assign}
use Rattle.ps_syntax.proofs.heights.+statement_height.Goals.{statement_height-in-Call, statement_height-in-Compound}
use Rattle.ps_syntax.proofs.heights.+statement_height.Goals.{statement_height-in-If, statement_height-in-IfElse}
use Rattle.ps_syntax.proofs.heights.+statement_height.Goals.{statement_height-in-Case, statement_height-in-While}
use Rattle.ps_syntax.proofs.heights.+statement_height.Goals.{statement_height-in-Repeat, statement_height-in-For}
use Rattle.ps_syntax.proofs.heights.+statement_height.Goals.{statement_height-in-With}

pub statements_height-loop-statement-preserved : goal.statements_height-loop-statement-preserved
statements_height-loop-statement-preserved t c = reached_on height_of_statement _ _ _ _ _ _ c.loop-statement-test.true
    c.statement-item.is c.loop-statement.invariant c.statement_height.ensures c.max-most.ensures

pub statements_height-returns : goal.statements_height-returns
statements_height-returns t c = reached_end limit height_of_statement _ _ _ c.loop-statement-test.false
    c.loop-statement.invariant

pub elements_height-loop-element-preserved : goal.elements_height-loop-element-preserved
elements_height-loop-element-preserved t c = reached_on height_of_element _ _ _ _ _ _ c.loop-element-test.true
    c.element-item.is c.loop-element.invariant
    (told_as _ _ _ c.statement_height.ensures (element_is _)) c.max-most.ensures

pub elements_height-returns : goal.elements_height-returns
elements_height-returns t c = reached_end limit height_of_element _ _ _ c.loop-element-test.false
    c.loop-element.invariant

pub statement_height-returns : goal.statement_height-returns
statement_height-returns t c = elim c.match-statement.branch [
  | statement_height-in-Empty w ↦ statement_Empty_told _ _ _ w.in-Empty.is w.inner-is c.saturating_add.ensures
  | statement_height-in-Assign w ↦ statement_Assign_told _ _ _ _ _ _ _ _ _ _ w.in-Assign.is w.variable_height.ensures
      w.get.ensures w.expr_height.ensures w.max-inner.ensures w.inner-is c.saturating_add.ensures
  | statement_height-in-Call w ↦ statement_Call_told _ _ _ _ _ _ _ w.in-Call.is w.as_slice.ensures
      w.parameters_height-inner.ensures w.inner-is c.saturating_add.ensures
  | statement_height-in-Compound w ↦ statement_Compound_told _ _ _ _ _ _ w.in-Compound.is w.as_slice-in-Compound.ensures
      w.statements_height-inner.ensures w.inner-is c.saturating_add.ensures
  | statement_height-in-If w ↦ statement_If_told _ _ _ _ _ _ _ _ w.in-If.is w.get-in-If.ensures
      w.statement_height.ensures w.beside-inner.ensures w.inner-is c.saturating_add.ensures
  | statement_height-in-IfElse w ↦ statement_IfElse_told _ _ _ _ _ _ _ _ _ _ _ _ _ _ w.in-IfElse.is
      w.get-in-IfElse-3.ensures w.expr_height-in-IfElse.ensures w.get-in-IfElse.ensures
      w.statement_height-in-IfElse.ensures w.get-in-IfElse-2.ensures w.statement_height-in-IfElse-2.ensures
      w.max-either.ensures w.max-inner-in-IfElse.ensures w.inner-is c.saturating_add.ensures
  | statement_height-in-Case w ↦ statement_Case_told _ _ _ _ _ _ _ _ _ w.in-Case.is w.as_slice-in-Case.ensures
      w.elements_height.ensures w.beside-inner-in-Case.ensures w.inner-is c.saturating_add.ensures
  | statement_height-in-While w ↦ statement_While_told _ _ _ _ _ _ _ _ w.in-While.is w.get-in-While.ensures
      w.statement_height-in-While.ensures w.beside-inner-in-While.ensures w.inner-is c.saturating_add.ensures
  | statement_height-in-Repeat w ↦ statement_Repeat_told _ _ _ _ _ _ _ _ _ _ w.in-Repeat.is w.as_slice-in-Repeat.ensures
      w.statements_height.ensures w.get-in-Repeat.ensures w.expr_height-in-Repeat.ensures w.max-inner-in-Repeat.ensures
      w.inner-is c.saturating_add.ensures
  | statement_height-in-For w ↦ statement_For_told _ _ _ _ _ _ _ _ _ _ _ _ _ _ _ _ w.in-For.is w.get-in-For.ensures
      w.expr_height-in-For.ensures w.get-in-For-2.ensures w.expr_height-in-For-2.ensures w.max-bounds.ensures
      w.get-in-For-3.ensures w.statement_height-in-For.ensures w.max-inner-in-For.ensures w.inner-is
      c.saturating_add.ensures
  | statement_height-in-With w ↦ statement_With_told _ _ _ _ _ _ _ _ _ _ w.in-With.is w.as_slice-in-With.ensures
      w.variables_height.ensures w.get-in-With.ensures w.statement_height-in-With.ensures w.max-inner-in-With.ensures
      w.inner-is c.saturating_add.ensures
]
