-- The laws of views, from their parts.
use Rattle.std.proofs.Common.{◌≡◌, ◌+◌, Bool, true, false, cond, refl}
use Rattle.risc_machine_laws.specs.View.{at_view, link_view, holds_view, target_view}
use Rattle.risc_machine_laws.specs.Runs.{To, same_tape}
use Rattle.risc_machine_laws.specs.Laws.{StraightLinesRun, AnyLinesRun, BranchesRun, PutsRun, TakesRun, StopsRun}
use Rattle.risc_machine_laws.specs.Laws.{LoadedStateShows}
use Rattle.risc_machine_laws.proofs.Runs.{line_to, way_line, branch_taken, branch_passed, put_to, take_to, stop_at}
use Rattle.risc_machine_laws.proofs.Start.{shows_start}

pub straight_lines_run : StraightLinesRun
straight_lines_run code size i is m v fits s at p = line_to code size fits i is m v s p at

pub any_lines_run : AnyLinesRun
any_lines_run code size is m v fits s at p = way_line code size fits is m v s p at

pub branches_run : BranchesRun
branches_run code size c link t m v fits s at = go (holds_view v c) refl
  where
    go : (b : Bool) → holds_view v c ≡ b → To code size m same_tape
        (cond b (at_view (target_view v t) (link_view link v)) (at_view (v.place + 1) v))
    go true e = branch_taken code size fits c link t m v s at e
    go false e = branch_passed code size fits c link t m v s at e

pub puts_run : PutsRun
puts_run code size a b m v fits s e at = put_to code size fits a b m v s at e

pub takes_run : TakesRun
takes_run code size a b m v fits s e at = take_to code size fits a b m v s at e

pub stops_run : StopsRun
stops_run code size a b m v fits s e at = stop_at code size fits a b m v s at e

pub loaded_state_shows : LoadedStateShows
loaded_state_shows code global heap stack words fits = shows_start code global heap stack fits words
