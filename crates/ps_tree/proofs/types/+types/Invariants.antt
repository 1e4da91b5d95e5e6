use Rattle.std.proofs.Common.{◌≤◌}
use Rattle.ps_tree.specs.declared.types.Component.TheDeep.{size-Ty}
use Rattle.ps_tree.proofs.types.+types.Given as goal

abbrev pub invariant-release-loop-inner : goal.invariant-release-loop-inner
invariant-release-loop-inner l = size-Ty l.rest ≤ size-Ty l.fn.ty
