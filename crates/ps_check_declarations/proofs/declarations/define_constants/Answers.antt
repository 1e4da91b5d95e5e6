use Rattle.std.proofs.Common.{◌<◌, length, arith}
use Rattle.ps_check_judgement.proofs.Lists.{handed_on, stepped_start, stepped_next, stepped_fault}
use Rattle.ps_check_judgement.proofs.Lists.{stepped_end}
use Rattle.ps_check_declarations.proofs.Walks.{at_own}
use Rattle.ps_check_declarations.proofs.declarations.define_constants.Goals as goal

pub loop-definition-init : goal.loop-definition-init
loop-definition-init c = stepped_start _ _ _

pub loop-definition-preserved : goal.loop-definition-preserved
loop-definition-preserved c =
    let below : c.loop-definition.definition-index < length c.args.definitions.now =
    omega (arith, c.loop-definition-test.true) in
    stepped_next _ _ _ _ _ _ _ below (at_own _ _ _ below) c.loop-definition.invariant c.in_ok-define_constant.ensures

pub returns-in_err-define_constant : goal.returns-in_err-define_constant
returns-in_err-define_constant c =
    let below : c.loop-definition.definition-index < length c.args.definitions.now =
    omega (arith, c.loop-definition-test.true) in
    handed_on _ _ _ _ c.from_residual.ensures.1
    (stepped_fault _ _ _ _ _ _ _ below (at_own _ _ _ below) c.loop-definition.invariant
    c.in_err-define_constant.ensures)

pub returns : goal.returns
returns c = stepped_end _ _ _ _ _ c.loop-definition-test.false c.loop-definition.invariant
