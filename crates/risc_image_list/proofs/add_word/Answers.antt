use Rattle.std.proofs.Common.{rules}
use Rattle.risc_image_list.proofs.Lines.{four_parts}
use Rattle.risc_image_list.proofs.add_word.Goals as goal

pub returns : goal.returns
returns c = search (rules, four_parts)
