-- A refusal of a fault says that the text is not accepted.
use Rattle.std.proofs.Common.{rules}
use Rattle.ps_build.proofs.Compiled.{told_of}
use Rattle.ps_build.proofs.built.build_and_leave.Goals as goal

pub returns-in_err-mapped-clause-accepts : goal.returns-in_err-mapped-clause-accepts
returns-in_err-mapped-clause-accepts c = told_of c.args.text.now c.from_residual.result (search rules)
