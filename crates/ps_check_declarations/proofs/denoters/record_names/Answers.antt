use Rattle.std.proofs.Common.{◌≤◌, length, arith}
use Rattle.ps_check_declarations.specs.Views.{frame_of}
use Rattle.ps_check_declarations.proofs.DenoterLemmas.{names_end}
use Rattle.ps_check_declarations.proofs.denoters.record_names.Goals as goal

pub returns : goal.returns
returns c =
    let over : length c.args.sections.now ≤ c.loop-section.section-index = omega (arith, c.loop-section-test.false) in
    names_end (frame_of c.args.frame.now) c.args.sections.now c.loop-section.section-index c.loop-section.names over
    c.loop-section.invariant
