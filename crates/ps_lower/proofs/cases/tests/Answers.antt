use Rattle.std.proofs.Common.{◌≡◌, ◌++◌, ◌∷◌, [], length, OnOk, IfOk, refl, subst}
use Rattle.tac_code.specs.declared.code.Instruction.TheVariants as i
use Rattle.ps_lower.proofs.Elements.{testing_start, testing_next, testing_all}
use Rattle.ps_lower.proofs.cases.tests.Goals as goal

pub loop-constant-init : goal.loop-constant-init
loop-constant-init c = testing_start _ _ _ _ refl

pub loop-constant-preserved : goal.loop-constant-preserved
loop-constant-preserved c = testing_next _ _ _ _ _ _ _ _ _ c.loop-constant-test.true c.loop-constant.invariant
    c.saturating_sub-others.ensures c.in_ok-test.ensures

pub returns-clause-code : goal.returns-clause-code
returns-clause-code c = subst (λ o. OnOk c.room.result (c.room.new.self ≡ o ++ i.End ∷ []))
    (testing_all _ _ _ _ _ _ c.loop-constant-test.false c.loop-constant.invariant) c.room.ensures.room

pub returns-clause-place : goal.returns-clause-place
returns-clause-place c = subst (λ o. IfOk c.room.result (λ place. place ≡ length o))
    (testing_all _ _ _ _ _ _ c.loop-constant-test.false c.loop-constant.invariant) c.room.ensures.place
