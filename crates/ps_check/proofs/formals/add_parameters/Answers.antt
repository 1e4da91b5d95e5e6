use Rattle.std.proofs.Common.{rules, ◌<◌, ◌≤◌, arith}
use Rattle.ps_check_judgement.proofs.Lists.{handed_on}
use Rattle.ps_check.proofs.FormalLemmas.{repeated_start, repeated_next, repeated_fault, repeated_end}
use Rattle.ps_check.proofs.formals.add_parameters.Goals as goal

pub returns-in_err-next : goal.returns-in_err-next
returns-in_err-next c =
    let below : c.loop.counter < c.args.count = omega arith in
    search (rules, handed_on, repeated_fault, below)

pub loop-init : goal.loop-init
loop-init c = repeated_start _ _ _ _

pub loop-preserved : goal.loop-preserved
loop-preserved c =
    let below : c.loop.counter < c.args.count = omega arith in
    repeated_next _ _ _ _ _ _ _ below c.loop.invariant c.in_ok-next.ensures

pub returns : goal.returns
returns c =
    let end : c.args.count ≤ c.loop.counter = omega arith in
    repeated_end _ _ _ _ _ _ end c.loop.invariant
