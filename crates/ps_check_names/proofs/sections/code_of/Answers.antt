use Rattle.std.proofs.Common.{sym, ◌∙◌}
use Rattle.ps_check_names.proofs.CodeLemmas.{coded_next, coded_fault, coded_end}
use Rattle.ps_check_names.proofs.sections.code_of.Goals as goal

pub returns-then-not-branch : goal.returns-then-not-branch
returns-then-not-branch c =
    c.new.ensures.items ∙ sym (coded_fault c.args.list.now c.loop-section.section-index c.section-item.result
    c.loop-section.words.items c.loop-section-test.true c.section-item.is
    (sym c.in_ok-add_section.ensures.fits ∙ c.if-not-branch.true) c.loop-section.invariant)

pub loop-section-preserved : goal.loop-section-preserved
loop-section-preserved c =
    coded_next c.args.list.now c.loop-section.section-index c.section-item.result c.loop-section.words.items
    c.add_section.new.code.items c.loop-section-test.true c.section-item.is
    (sym c.in_ok-add_section.ensures.fits ∙ c.if-not-branch.false)
    (c.in_ok-add_section.ensures.words c.if-not-branch.false) c.loop-section.invariant

pub returns : goal.returns
returns c =
    coded_end c.args.list.now c.loop-section.section-index c.loop-section.words.items c.push.new.self.items
    c.loop-section-test.false c.in_ok-push.ensures.items c.loop-section.invariant
