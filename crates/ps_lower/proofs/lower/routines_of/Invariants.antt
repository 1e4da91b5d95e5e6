use Rattle.std.specs.Prelude.{◌≡◌, ◌+◌}
use Rattle.ps_lower_code.specs.Programs.{tac_of}
use Rattle.ps_tree.specs.Checked.{program_in}
use Rattle.ps_tree.specs.View.{routine_of}
use Rattle.ps_lower.specs.declared.refusal.TheConstants.{MOST_INSTRUCTIONS}
use Rattle.ps_lower.specs.Refused.{instructions_of}
use Rattle.ps_lower.proofs.Mapping.{Made}
use Rattle.ps_lower.proofs.lower.routines_of.Given as goal

abbrev pub invariant-loop-routine : goal.invariant-loop-routine
invariant-loop-routine l = Made routine_of (tac_of (program_in l.checked)) l.routine-items l.routine-index l.list.items
    × (l.left + instructions_of l.list.items ≡ MOST_INSTRUCTIONS)
