use Rattle.tac_code_laws.proofs.Growth.{run_goes_on}
use Rattle.tac_code_laws.proofs.laws.run_grows.Goals as goal

pub returns : goal.returns
returns c = run_goes_on
