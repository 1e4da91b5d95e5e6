use Rattle.std.proofs.Common.{arith}
use Rattle.ps_tree.proofs.FieldLemmas.{field_at_place, no_field_above, no_field_past}
use Rattle.ps_tree.proofs.types.sizes.field_at.Goals as goal

pub returns-then-types-place : goal.returns-then-types-place
returns-then-types-place c = grind (arith, no_field_above, no_field_past)

pub returns : goal.returns
returns c = grind (arith, field_at_place)
