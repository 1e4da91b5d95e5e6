use Rattle.std.proofs.Common.{◌≡◌, true, false, refl, sym, ap, ◌∙◌, arith}
use Rattle.ps_tree.specs.declared.tree.statements.CaseElement.{out-CaseElement}
use Rattle.ps_meaning.specs.Values.{number_of}
use Rattle.ps_meaning.specs.Operators.{is_among}
use Rattle.ps_meaning_runner.specs.View.{value_of}
use Rattle.ps_meaning_runner.proofs.Acts as a
use Rattle.ps_meaning_runner.proofs.Heights.{element_within}
use Rattle.ps_meaning_runner.proofs.choices.selected.Goals as goal

pub loop-element-init : goal.loop-element-init
loop-element-init c = λ setup n line d w. refl

pub loop-element-preserved : goal.loop-element-preserved
loop-element-preserved c =
    let h : is_among (number_of (value_of c.args.value.now)) (out-CaseElement c.element-item.result).constants.items
    ≡ false = ap (is_among (number_of (value_of c.args.value.now))) (sym c.as_slice.ensures.value)
    ∙ sym c.has_constant.ensures ∙ c.if-has_constant.false in
    λ setup n line d w. a.selects_next setup n d c.args.elements.now c.loop-element.element-index c.element-item.result
    (number_of (value_of c.args.value.now)) line w _
    (c.loop-element.invariant setup n line d w) h c.element-item.is c.loop-element-test.true

pub returns-then-has_constant-clause-chosen : goal.returns-then-has_constant-clause-chosen
returns-then-has_constant-clause-chosen c =
    let h : is_among (number_of (value_of c.args.value.now)) (out-CaseElement c.element-item.result).constants.items
    ≡ true = ap (is_among (number_of (value_of c.args.value.now))) (sym c.as_slice.ensures.value)
    ∙ sym c.has_constant.ensures ∙ c.if-has_constant.true in
    λ setup n line d w. sym (a.selects setup n d c.args.elements.now c.loop-element.element-index c.element-item.result
    (number_of (value_of c.args.value.now)) line w _
    (c.loop-element.invariant setup n line d w) h c.element-item.is c.loop-element-test.true)

pub returns-then-has_constant-clause-within : goal.returns-then-has_constant-clause-within
returns-then-has_constant-clause-within c = element_within c.args.elements.now c.loop-element.element-index
    c.element-item.result c.element-item.is c.loop-element-test.true

pub returns-clause-chosen : goal.returns-clause-chosen
returns-clause-chosen c =
    λ setup n line d w. a.selects_none setup n d c.args.elements.now c.loop-element.element-index
    (number_of (value_of c.args.value.now)) line w _ (c.loop-element.invariant setup n line d w) (omega arith)
