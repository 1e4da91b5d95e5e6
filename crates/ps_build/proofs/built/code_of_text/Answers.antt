-- A refusal of a fault says that the text is not accepted.
use Rattle.std.proofs.Common.{rules}
use Rattle.ps_build.proofs.Compiled.{told_of}
use Rattle.ps_build.proofs.built.code_of_text.Goals as goal

pub returns-in_err-program-clause-accepts : goal.returns-in_err-program-clause-accepts
returns-in_err-program-clause-accepts c = told_of c.args.text.now c.from_residual.result (search rules)

pub returns-clause-accepts : goal.returns-clause-accepts
returns-clause-accepts c = told_of c.args.text.now c.code_made.result (search rules)
