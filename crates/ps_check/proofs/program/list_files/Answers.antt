use Rattle.std.proofs.Common.{◌<◌, length, arith}
use Rattle.ps_check_judgement.proofs.Lists.{handed_on, stepped_next, stepped_fault, stepped_end}
use Rattle.ps_check_declarations.proofs.Walks.{at_own}
use Rattle.ps_check.proofs.program.list_files.Goals as goal

pub loop-at-preserved : goal.loop-at-preserved
loop-at-preserved c =
    let below : c.loop-at.at-index < length c.args.parameters.now = omega (arith, c.loop-at-test.true) in
    stepped_next _ _ _ _ _ _ _ below (at_own _ _ _ below) c.loop-at.invariant c.in_ok-list_file.ensures

pub returns-in_err-list_file : goal.returns-in_err-list_file
returns-in_err-list_file c =
    let below : c.loop-at.at-index < length c.args.parameters.now = omega (arith, c.loop-at-test.true) in
    handed_on _ _ _ _ c.from_residual.ensures.1
    (stepped_fault _ _ _ _ _ _ _ below (at_own _ _ _ below) c.loop-at.invariant c.in_err-list_file.ensures)

pub returns : goal.returns
returns c = stepped_end _ _ _ _ _ c.loop-at-test.false c.loop-at.invariant
