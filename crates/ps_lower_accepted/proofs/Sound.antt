-- A routine that has what the lowering needs, with the line of its block; and that each place of a text is on a line.
use Rattle.std.proofs.Common.{ℕ, ◌≤◌, min, List, length, cond, arith}
use Rattle.std.proofs.lemmas.List.Sums.{sum_by-take-le}
use Rattle.ps_text.specs.Lines.{is_line_end, line_count}
use Rattle.ps_text.specs.declared.TheConstants.{MAX_LINES}
use Rattle.ps_tree.specs.Tree.{Routine, Program}
use Rattle.tac_code.specs.Sound.{IsLine}
use Rattle.ps_lower_calls.specs.Routines.{RoutineFits}
use Rattle.ps_check_names.specs.Spelling.{line_in}

-- each place of a text is on one of its lines
pub line_there : (text : List ℕ) (at : ℕ) → line_count text ≤ MAX_LINES → IsLine (line_in text at)
line_there text at l = (
  omega arith,
  let m = sum_by-take-le (λ b. cond (is_line_end b) 1 0) text (min at (length text))
      in omega (arith, l, m),
)

pub record RoutineSound (program : Program) (r : Routine) : Type 0 where
  pub fits : RoutineFits program r
  pub line : IsLine r.line
