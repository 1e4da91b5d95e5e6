use Rattle.ps_lower.proofs.Elements.{closing_start, closing_next, closing_all}
use Rattle.ps_lower.proofs.cases.close_elements.Goals as goal

pub loop-end-init : goal.loop-end-init
loop-end-init c = λ k before elements d line e p. closing_start k elements d line before _ _ e p

pub loop-end-preserved : goal.loop-end-preserved
loop-end-preserved c = λ k before elements d line e p. closing_next k d line _ _ _ _ _ _ c.loop-end-test.true
    (c.loop-end.invariant k before elements d line e p) c.set_jump.ensures

pub returns : goal.returns
returns c = λ k before elements d line e p. closing_all k d line _ _ _ _ c.loop-end-test.false
    (c.loop-end.invariant k before elements d line e p)
