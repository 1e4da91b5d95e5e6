use Rattle.std.proofs.Common.{rules}
use Rattle.ps_check_expressions.proofs.ParameterLemmas.{listed_next, listed_end}
use Rattle.ps_check_expressions.proofs.parameter.listed.Goals as goal

pub loop-section-preserved : goal.loop-section-preserved
loop-section-preserved c =
    listed_next _ _ _ _ c.section-item.result c.count_of.result c.loop-section-test.true c.section-item.is
    c.count_of.ensures c.in_ok-push_times.ensures c.loop-section.invariant

pub returns : goal.returns
returns c = search (rules, listed_end)
