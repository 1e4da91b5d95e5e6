use Rattle.ps_parse_grammar.proofs.ProgramLevels.{within_is_low, low_is_within}
use Rattle.ps_parse_grammar.proofs.level_law.Goals as goal

pub returns : goal.returns
returns c = λ f n ts p. (within_is_low f n ts p, low_is_within f n ts p)
