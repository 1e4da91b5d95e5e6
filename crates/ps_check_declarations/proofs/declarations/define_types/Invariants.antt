use Rattle.ps_check_judgement.proofs.Lists.{Stepped}
use Rattle.ps_check_declarations.specs.Declarations.{define_type}
use Rattle.ps_check_declarations.specs.Views.{frame_of, declared_of}
use Rattle.ps_check_declarations.proofs.declarations.define_types.Given as goal

abbrev pub invariant-loop-definition : goal.invariant-loop-definition
invariant-loop-definition l = Stepped (define_type (frame_of l.frame))
    (declared_of l.fn.declared) l.definitions l.definition-index (declared_of l.declared)
