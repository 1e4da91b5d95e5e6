use Rattle.ps_check_judgement.proofs.Lists.{Stepped}
use Rattle.ps_check_declarations.specs.Declarations.{declare_variables}
use Rattle.ps_check_declarations.specs.Views.{frame_of, declared_of}
use Rattle.ps_check_declarations.proofs.declarations.declare_all.Given as goal

abbrev pub invariant-loop-declaration : goal.invariant-loop-declaration
invariant-loop-declaration l = Stepped (declare_variables (frame_of l.frame) l.first)
    (declared_of l.fn.declared) l.declarations l.declaration-index (declared_of l.declared)
