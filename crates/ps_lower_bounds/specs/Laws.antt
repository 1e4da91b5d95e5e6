-- The code of a program within the limits keeps the invariant of three-address code, and no number that arises while it
-- is made is large.
use Rattle.std.specs.Prelude.{◌≡◌, true}
use Rattle.ps_tree.specs.Counts.{is_within_limits}
use Rattle.ps_tree.specs.Tree.{Program}
use Rattle.tac_code.specs.Sound.{IsSound}
use Rattle.tac_rt.specs.Bodies.{run_time_routines}
use Rattle.ps_lower_code.specs.Programs.{code_of}
use Rattle.ps_lower_bounds.specs.Forms.{ProgramFormed}
use Rattle.ps_lower_bounds.specs.Weights.{AreLight}

abbrev pub CodeIsSound : Type 0
CodeIsSound = (program : Program) → is_within_limits program ≡ true → ProgramFormed program → IsSound
    (code_of run_time_routines program)

-- The routines of such a program weigh little.
abbrev pub WeightsAreSmall : Type 0
WeightsAreSmall = (program : Program) → is_within_limits program ≡ true → ProgramFormed program → AreLight program
