use Rattle.std.proofs.Common.{[]}
use Rattle.ps_check_declarations.specs.Denoters.{section_names}
use Rattle.ps_check_declarations.specs.Views.{frame_of}
use Rattle.ps_check_declarations.proofs.Walks.{Walked}
use Rattle.ps_check_declarations.proofs.denoters.record_names.Given as goal

abbrev pub invariant-loop-section : goal.invariant-loop-section
invariant-loop-section l = Walked (frame_of l.frame).text
    (section_names (frame_of l.frame)) [] l.sections l.section-index l.names
