use Rattle.ps_check.specs.Forwards.{block_names}
use Rattle.ps_check.proofs.blocks.add_block_names.Goals as goal

pub returns : goal.returns
unfolding block_names
returns c = rw (
  ← c.parts_of.ensures.constants,
  ← c.parts_of.ensures.types,
  ← c.parts_of.ensures.variables,
  ←
      c.in_ok-add_block.ensures,
  ← c.as_slice.ensures,
) c.add_routines.ensures
