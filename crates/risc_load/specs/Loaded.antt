-- The state that an image is loaded into.
use Rattle.risc_machine.specs.Step.{State, start_state}
use Rattle.risc_image.specs.Image.{Image}
use Rattle.risc_image.specs.Format.{word_bytes}
use Rattle.risc_load.specs.declared.budget.Budget.{Budget}

-- the loaded state of the image's code and globals under the budget
abbrev pub loaded_state : Image → Budget → State
loaded_state image budget = start_state (word_bytes image.code) image.global budget.heap budget.stack
