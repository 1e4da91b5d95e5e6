-- A refusal of a fault says that the text is not accepted.
use Rattle.std.proofs.Common.{rules}
use Rattle.ps_build.proofs.Compiled.{told_of}
use Rattle.ps_build.proofs.built.build_placed.Goals as goal

pub returns-in_err-mapped-clause-accepts : goal.returns-in_err-mapped-clause-accepts
returns-in_err-mapped-clause-accepts g c = told_of c.args.text.now c.from_residual.result (search rules)
