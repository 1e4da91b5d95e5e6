use Rattle.std.proofs.Common.{rules}
use Rattle.ps_tree.proofs.NameLemmas.{has_place}
use Rattle.ps_tree.proofs.names.Names.contains.Goals as goal

pub returns : goal.returns
returns c = search (rules, has_place)
