use Rattle.std.proofs.Common.{sym, ap, ◌∙◌}
use Rattle.ps_tree.specs.View.{place_of, structure_of}
use Rattle.ps_tree.proofs.TreeLemmas.{structure_of_Contents}
use Rattle.ps_lower_code.specs.Values.{text_length}
use Rattle.ps_lower.proofs.texts.text_length.Goals as goal

pub returns-in-Contents : goal.returns-in-Contents
returns-in-Contents c = c.contents_length.ensures (place_of c.in-Contents.place.value) ∙ sym
    (ap text_length (ap structure_of c.in-Contents.is ∙ structure_of_Contents c.in-Contents.place c.in-Contents.ty))
