use Rattle.ps_check_names.proofs.DenotesLemmas.{finds_what_is_denoted}
use Rattle.ps_check_names.proofs.scope.scope_rules.Goals as goal

pub returns : goal.returns
returns c = finds_what_is_denoted
