use Rattle.std.proofs.Common.{rules}
use Rattle.ps_check_judgement.proofs.Lists.{handed_on}
use Rattle.ps_check.proofs.FormalLemmas.{entered_start, entered_next, entered_fault, entered_end}
use Rattle.ps_check.proofs.formals.add_sections.Goals as goal

pub loop-section-init : goal.loop-section-init
loop-section-init c = entered_start _ _ _

pub loop-section-preserved : goal.loop-section-preserved
loop-section-preserved c = entered_next _ _ _ _ _ _ _ c.loop-section-test.true c.section-item.is
    c.loop-section.invariant c.in_ok-next.ensures

pub returns : goal.returns
returns c = entered_end _ _ _ _ _ c.loop-section-test.false c.loop-section.invariant

pub returns-in_err-next : goal.returns-in_err-next
returns-in_err-next c = search (rules, handed_on, entered_fault)
