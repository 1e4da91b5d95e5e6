use Rattle.ps_check.proofs.Collected.{program_gathered}
use Rattle.ps_check.proofs.RoutineLemmas.{answered}
use Rattle.ps_check.proofs.program.program_of.Goals as goal

pub returns : goal.returns
returns c = answered _ _ _ _ (program_gathered _ c.args.block c.args.gathered c.put.new.gathered
    c.in_ok-finished.finished c.put.ensures.domains c.put.ensures.routines c.in_ok-finished.ensures) c.assembled.ensures
