use Rattle.ps_syntax.specs.Height.{height_of_routine}
use Rattle.ps_syntax.proofs.Greatest.{reached_end}
use Rattle.ps_syntax.proofs.HeightLemmas.{block_told, limit, reached_on, routine_Whole_told}
use Rattle.ps_syntax.proofs.heights.+block_height.Goals as goal

pub routines_height-loop-routine-preserved : goal.routines_height-loop-routine-preserved
routines_height-loop-routine-preserved t c = reached_on height_of_routine _ _ _ _ _ _ c.loop-routine-test.true
    c.routine-item.is c.loop-routine.invariant c.routine_height.ensures c.max-most.ensures

pub routines_height-returns : goal.routines_height-returns
routines_height-returns t c = reached_end limit height_of_routine _ _ _ c.loop-routine-test.false
    c.loop-routine.invariant

pub routine_height-returns-in-Whole : goal.routine_height-returns-in-Whole
routine_height-returns-in-Whole t c = routine_Whole_told _ _ _ _ _ _ c.in-Whole.is c.heading_height.ensures
    c.block_height.ensures c.max.ensures

pub block_height-returns : goal.block_height-returns
block_height-returns t c = block_told _ _ _ _ _ _ _ _ _ _ _ _ _ c.as_slice.ensures c.types_height-types.ensures
    c.as_slice-2.ensures c.declared_height-declared.ensures c.max.ensures c.as_slice-3.ensures
    c.routines_height-routines.ensures c.as_slice-4.ensures c.statements_height-statements.ensures c.max-2.ensures
    c.max-3.ensures c.saturating_add.ensures
