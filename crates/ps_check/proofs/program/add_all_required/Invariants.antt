use Rattle.std.proofs.Common.{◌≡◌, length, map}
use Rattle.ps_check.specs.Programs.{add_all_required}
use Rattle.ps_check.specs.Views.{standard_meaning, files_of}
use Rattle.ps_check.proofs.program.add_all_required.Given as goal

abbrev pub invariant-loop-table : goal.invariant-loop-table
invariant-loop-table l = add_all_required (files_of l.fn.region)
    (map (λ e. (e.0.now, standard_meaning e.1)) l.initial.table) ≡ add_all_required (files_of l.region)
    (map (λ e. (e.0.now, standard_meaning e.1)) l.table)

abbrev pub decreases-loop-table : goal.decreases-loop-table
decreases-loop-table l = length l.table
