use Rattle.ps_lower_code.specs.Programs.{object_bytes}
use Rattle.ps_tree.specs.View.{type_of}
use Rattle.ps_lower.proofs.Mapping.{Made}
use Rattle.ps_lower.proofs.lower.object_sizes.Given as goal

abbrev pub invariant-loop-ty : goal.invariant-loop-ty
invariant-loop-ty l = Made type_of object_bytes l.domains l.ty-index l.list.items
