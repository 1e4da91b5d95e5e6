use Rattle.std.proofs.Common.{refl}
use Rattle.ps_check_judgement.proofs.Lists.{told_bind, handed_on}
use Rattle.ps_check.specs.Blocks.{declared}
use Rattle.ps_check.proofs.blocks.declare.Goals as goal

pub returns-in_err-declarations : goal.returns-in_err-declarations
unfolding declared
returns-in_err-declarations c =
    let told = rw (
      c.replace.ensures.value,
      c.new-2.ensures.items,
      c.new-3.ensures.items,
      c.parts_of.ensures.constants,
      c.parts_of.ensures.types,
      c.parts_of.ensures.variables,
    ) at c.in_err-declarations.ensures in
    handed_on _ _ _ _ c.from_residual.ensures.1 (told_bind _ _ _ told)

pub returns : goal.returns
unfolding declared
returns c =
    let read = rw (
      c.replace.ensures.value,
      c.new-2.ensures.items,
      c.new-3.ensures.items,
      c.parts_of.ensures.constants,
      c.parts_of.ensures.types,
      c.parts_of.ensures.variables,
    ) at c.in_ok-declarations.ensures in
    rw (read, c.new-5.ensures.items) refl
