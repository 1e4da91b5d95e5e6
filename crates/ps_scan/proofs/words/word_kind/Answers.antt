use Rattle.std.proofs.Common.{◌∙◌}
use Rattle.ps_scan.proofs.Spellings.{find_word_is}
use Rattle.ps_scan.proofs.words.word_kind.Goals as goal

pub returns : goal.returns
returns c = c.find.ensures ∙ c.beginning_as.ensures ∙ find_word_is _
