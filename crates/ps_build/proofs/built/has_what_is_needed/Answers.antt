-- A text of bytes has a program with all that the lowering needs.
use Rattle.ps_tree.specs.Checked.{program_in}
use Rattle.ps_build.proofs.Compiled.{fits, formed}
use Rattle.ps_build.proofs.built.has_what_is_needed.Goals as goal

pub returns-clause-fits : goal.returns-clause-fits
returns-clause-fits c = fits c.accepted_fit.ensures c.args.text.now
    (program_in c.args.checked.now) c.is_of_bytes.ensures c.requires

pub returns-clause-formed : goal.returns-clause-formed
returns-clause-formed c = formed c.accepted_are_formed.ensures c.args.text.now
    (program_in c.args.checked.now) c.is_of_bytes.ensures c.requires
