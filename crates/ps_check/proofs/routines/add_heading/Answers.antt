use Rattle.std.proofs.Common.{rules}
use Rattle.ps_check.proofs.RoutineLemmas.{answered, told_as, introduce_Whole, introduce_Forward, introduce_Completion}
use Rattle.ps_check.proofs.routines.add_heading.Goals as goal

pub returns-in-Whole : goal.returns-in-Whole
returns-in-Whole c = answered _ _ _ _ (introduce_Whole _ _ _ _ _ _ c.in-Whole.is) c.new_heading.ensures

pub returns-in-Forward : goal.returns-in-Forward
returns-in-Forward c = answered _ _ _ _ (introduce_Forward _ _ _ _ _ c.in-Forward.is) c.new_heading-in-Forward.ensures

pub returns-in_ok-rule-in-Completion : goal.returns-in_ok-rule-in-Completion
returns-in_ok-rule-in-Completion c = told_as _ _ _ (introduce_Completion _ _ _ _ _ _ c.in-Completion.is) (search rules)
