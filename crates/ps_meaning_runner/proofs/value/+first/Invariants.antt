use Rattle.std.proofs.Common.{◌+◌, ◌*◌}
use Rattle.ps_tree.specs.Sizes.{depth, depth_of_fields}
use Rattle.ps_tree.specs.View.{type_of}
use Rattle.ps_meaning_runner.proofs.Values.{FirstValues}
use Rattle.ps_meaning_runner.proofs.value.+first.Given as goal

abbrev pub decreases-first : goal.decreases-first
decreases-first l = 2 * depth (type_of l.ty.now)

abbrev pub decreases-first_fields : goal.decreases-first_fields
decreases-first_fields l = 2 * depth_of_fields l.fields.now + 1

abbrev pub invariant-first_fields-loop-ty : goal.invariant-first_fields-loop-ty
invariant-first_fields-loop-ty l = FirstValues l.ty-items l.ty-index l.values.items
