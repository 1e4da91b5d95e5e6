use Rattle.std.proofs.Common.{[], map}
use Rattle.ps_check_judgement.proofs.Lists.{Stepped}
use Rattle.ps_check_names.specs.Views.{meaning_of}
use Rattle.ps_check_declarations.specs.Denoters.{begin}
use Rattle.ps_check_declarations.specs.Views.{frame_of}
use Rattle.ps_check_declarations.proofs.declarations.begin_all.Given as goal

abbrev pub invariant-loop-name : goal.invariant-loop-name
invariant-loop-name l = Stepped (begin (frame_of l.frame) (map meaning_of l.known)) [] l.names l.name-index l.begun
