use Rattle.std.proofs.Common.{map}
use Rattle.ps_tree.specs.View.{type_of}
use Rattle.ps_check_declarations.proofs.DenoterLemmas.{OfType}
use Rattle.ps_check_declarations.proofs.denoters.fields_of_type.Given as goal

abbrev pub invariant-loop-name : goal.invariant-loop-name
invariant-loop-name l = OfType (type_of l.ty) (map type_of l.fn.done.items) l.names l._name-index
    (map type_of l.done.items)
