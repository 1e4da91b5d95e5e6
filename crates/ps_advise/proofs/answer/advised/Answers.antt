use Rattle.ps_advise.proofs.answer.advised.Goals as goal

pub returns-in_ok-warnings_of-in-Ok : goal.returns-in_ok-warnings_of-in-Ok
returns-in_ok-warnings_of-in-Ok c = ((_, c.in-Ok.ensures.compiles), c.in_ok-warnings_of-in-Ok.ensures, tt)
