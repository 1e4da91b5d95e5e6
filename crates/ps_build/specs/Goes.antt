-- What happens to a text that is built and run.
use Rattle.std.specs.Prelude.{ℕ, ◌⊎◌, List}
use Rattle.risc_machine.specs.Console.{World}
use Rattle.risc_load.specs.declared.budget.Budget.{Budget}
use Rattle.ps_build.specs.declared.refusal.Refusal.{Refusal}
use Rattle.ps_build.specs.declared.outcome.Outcome.{Outcome}
use Rattle.ps_build.specs.Accepts.{IsRefused}
use Rattle.ps_build.specs.Headline.{Compiles}
use Rattle.ps_build.specs.Made.{IsBuilt}
use Rattle.ps_build.specs.Runs.{Runs, IsLoadRefused}

-- The text has an image that was made from it as `build` makes one, and that does what its program means; and this
-- image was run.
pub record Goes (text : List ℕ) (budget : Budget) (n : ℕ) (old new : World) (outcome : Outcome) : Type 0 where
  pub bytes : List ℕ
  pub built : IsBuilt text bytes
  pub compiles : Compiles text bytes
  pub runs : Runs compiles.image budget n old new outcome

-- the text has such an image, which isn't loaded under the budget
pub record IsUnloaded (text : List ℕ) (budget : Budget) (refusal : Refusal) : Type 0 where
  pub bytes : List ℕ
  pub built : IsBuilt text bytes
  pub compiles : Compiles text bytes
  pub refused : IsLoadRefused compiles.image budget refusal

abbrev pub IsGoRefused : List ℕ → Budget → Refusal → Type 0
IsGoRefused text budget refusal = IsRefused text refusal ⊎ IsUnloaded text budget refusal
