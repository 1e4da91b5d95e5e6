use Rattle.std.proofs.Common.{◌<◌, length, arith}
use Rattle.ps_check_judgement.proofs.Lists.{handed_on, stepped_start, stepped_next, stepped_fault}
use Rattle.ps_check_judgement.proofs.Lists.{stepped_end}
use Rattle.ps_check_declarations.proofs.Walks.{at_own}
use Rattle.ps_check_declarations.proofs.declarations.declare_names.Goals as goal

pub loop-name-init : goal.loop-name-init
loop-name-init c = stepped_start _ _ _

pub loop-name-preserved : goal.loop-name-preserved
loop-name-preserved c =
    let below : c.loop-name.name-index < length c.args.names.now = omega (arith, c.loop-name-test.true) in
    stepped_next _ _ _ _ _ _ _ below (at_own _ _ _ below) c.loop-name.invariant c.in_ok-declare_variable.ensures

pub returns-in_err-declare_variable : goal.returns-in_err-declare_variable
returns-in_err-declare_variable c =
    let below : c.loop-name.name-index < length c.args.names.now = omega (arith, c.loop-name-test.true) in
    handed_on _ _ _ _ c.from_residual.ensures.1
    (stepped_fault _ _ _ _ _ _ _ below (at_own _ _ _ below) c.loop-name.invariant c.in_err-declare_variable.ensures)

pub returns : goal.returns
returns c = stepped_end _ _ _ _ _ c.loop-name-test.false c.loop-name.invariant
