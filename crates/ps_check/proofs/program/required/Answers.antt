use Rattle.std.proofs.Common.{rules}
use Rattle.ps_check.proofs.Required.{required_is}
use Rattle.ps_check.proofs.program.required.Goals as goal

pub returns : goal.returns
returns c = search (rules, required_is)
