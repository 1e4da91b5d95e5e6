use Rattle.ps_advise.proofs.mends.mend_of.Goals as goal

pub returns : goal.returns
returns c = c.outcome_of.ensures _ c.requires
