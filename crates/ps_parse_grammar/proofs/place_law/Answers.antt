use Rattle.ps_parse_grammar.proofs.FirstPlaces.{parts_first}
use Rattle.ps_parse_grammar.proofs.place_law.Goals as goal

pub returns : goal.returns
returns c = parts_first
