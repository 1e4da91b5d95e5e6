use Rattle.std.proofs.Common.{ap}
use Rattle.ps_lower.specs.Tables.{Contents}
use Rattle.ps_lower.proofs.routines.words_in.Goals as goal

pub returns-clause-exact : goal.returns-clause-exact
returns-clause-exact c = ap (λ (y : Contents). y.words) c.in_ok-words.ensures
