use Rattle.ps_parse.proofs.OneAnswer.{one_refusal}
use Rattle.ps_parse.proofs.laws.refusals_are_one.Goals as goal

pub returns : goal.returns
returns c = one_refusal
