-- What runs in slices do.
use Rattle.std.specs.Prelude.{ℕ, ◌<◌, List}
use Rattle.risc_machine.specs.declared.stop.Stop.{Stop}
use Rattle.risc_machine.specs.declared.stop.Stop.TheVariants as m
use Rattle.risc_machine.specs.Console.{World}
use Rattle.risc_machine.specs.Step.{State}
use Rattle.risc_machine.specs.Exec as exec
use Rattle.risc_image.specs.Image.{Image}
use Rattle.risc_load.specs.declared.budget.Budget.{Budget}
use Rattle.ps_build.specs.declared.outcome.Outcome.TheVariants.{Steps}
use Rattle.ps_build.specs.Runs.{as_seen, Runs, RunsImage}
use Rattle.ps_build.specs.Goes.{Goes}

-- At most n steps: those of one run, as far as the console is seen.
pub record ComesTo (n : ℕ) (s : State) (w : World) (s' : State) (w' : World) (stop : Stop) : Type 0 where
  pub runs : exec.Runs n s w s' (as_seen w w') stop

-- the machine was left after fewer steps, and had not stopped
pub record IsLeft (n : ℕ) (s : State) (w : World) (s' : State) (w' : World) : Type 0 where
  pub steps : ℕ
  pub fewer : steps < n
  pub comes : ComesTo steps s w s' w' m.Steps

-- A run that was left at a pause is the run of fewer steps, which has not ended: of an image, of the image that bytes
-- are, and of the program of a text.
pub record IsRunLeft (image : Image) (budget : Budget) (n : ℕ) (old new : World) : Type 0 where
  pub steps : ℕ
  pub fewer : steps < n
  pub runs : Runs image budget steps old new Steps

pub record IsImageLeft (bytes : List ℕ) (budget : Budget) (n : ℕ) (old new : World) : Type 0 where
  pub steps : ℕ
  pub fewer : steps < n
  pub runs : RunsImage bytes budget steps old new Steps

pub record IsGoLeft (text : List ℕ) (budget : Budget) (n : ℕ) (old new : World) : Type 0 where
  pub steps : ℕ
  pub fewer : steps < n
  pub goes : Goes text budget steps old new Steps
