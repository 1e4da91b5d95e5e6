use Rattle.std.proofs.Common.{sym, ◌∙◌}
use Rattle.std.proofs.lemmas.Bool.{true≢false}
use Rattle.ps_check_expressions.proofs.Equations.{factor_variable}
use Rattle.ps_check_expressions.proofs.Judgement.{name_alone, name_selected, term_name, term_no_name}
use Rattle.ps_check_expressions.proofs.alone.term_name.Goals as goal

pub returns-then-not-is_empty : goal.returns-then-not-is_empty
returns-then-not-is_empty c = λ d Γ. term_no_name d Γ c.args.term.now
    (λ none. true≢false (sym (c.is_empty.ensures.1 none) ∙ c.if-not-is_empty.true))

pub returns-then-is_empty : goal.returns-then-is_empty
returns-then-is_empty c = λ d Γ. rw (
  term_name d Γ c.args.term.now
      (c.is_empty.ensures.0 c.if-not-is_empty.false),
  c.in-Variable.is,
  factor_variable,
)
    (name_alone d Γ c.in-Variable.variable (c.is_empty-in-Variable.ensures.0 c.if-is_empty.true))

pub returns-else-is_empty : goal.returns-else-is_empty
returns-else-is_empty c = λ d Γ. rw (
  term_name d Γ c.args.term.now
      (c.is_empty.ensures.0 c.if-not-is_empty.false),
  c.in-Variable.is,
  factor_variable,
)
    (name_selected d Γ c.in-Variable.variable
    (λ none. true≢false (sym (c.is_empty-in-Variable.ensures.1 none) ∙ c.if-is_empty.false)))
