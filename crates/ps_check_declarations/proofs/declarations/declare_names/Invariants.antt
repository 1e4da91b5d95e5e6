use Rattle.ps_tree.specs.View.{type_of}
use Rattle.ps_check_judgement.proofs.Lists.{Stepped}
use Rattle.ps_check_declarations.specs.Declarations.{declare_variable}
use Rattle.ps_check_declarations.specs.Views.{declared_of}
use Rattle.ps_check_declarations.proofs.declarations.declare_names.Given as goal

abbrev pub invariant-loop-name : goal.invariant-loop-name
invariant-loop-name l = Stepped (declare_variable l.first (type_of l.ty))
    (declared_of l.fn.declared) l.names l.name-index (declared_of l.declared)
