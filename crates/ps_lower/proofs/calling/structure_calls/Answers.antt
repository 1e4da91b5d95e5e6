use Rattle.std.proofs.Common.{sym, ap, ◌∙◌}
use Rattle.ps_tree.specs.View.{place_of, structure_of}
use Rattle.ps_tree.proofs.TreeLemmas.{structure_of_Contents}
use Rattle.ps_lower_code.specs.Calling as code
use Rattle.ps_lower.proofs.calling.structure_calls.Goals as goal

pub returns-in-Contents : goal.returns-in-Contents
returns-in-Contents c = c.place_calls.ensures ∙ ap (λ p. code.place_calls (place_of p)) c.deref.ensures ∙ sym
    (ap code.structure_calls (ap structure_of c.in-Contents.is
    ∙ structure_of_Contents c.in-Contents.place c.in-Contents.ty))
