-- This list of run-time routines does what the lowering requires of them.
use Rattle.std.specs.Prelude.{◌≡◌}
use Rattle.tac_rt.specs.Bodies.{run_time_routines}
use Rattle.ps_lower_relation.specs.Here.{Setting}
use Rattle.ps_lower_relation.specs.RunTime.{WritesDo}

abbrev pub WritesAreDone : Type 0
WritesAreDone = (p : Setting) → p.run_time ≡ run_time_routines → WritesDo p
