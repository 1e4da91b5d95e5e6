use Rattle.std.proofs.Common.{vec_len}
use Rattle.ps_tree.specs.View.{type_of}
use Rattle.ps_check_declarations.proofs.DenoterLemmas.{Inside}
use Rattle.ps_check_declarations.proofs.denoters.array_of.Given as goal

abbrev pub invariant-loop-at : goal.invariant-loop-at
invariant-loop-at l = Inside l.packed l.fn.indices.items (type_of l.fn.component) l.indices.items (type_of l.ty)

abbrev pub decreases-loop-at : goal.decreases-loop-at
decreases-loop-at l = vec_len l.indices
