use Rattle.risc_machine_laws.proofs.Laws.{loaded_state_shows}
use Rattle.risc_machine_laws.proofs.loaded_state_shows.Goals as goal

pub returns : goal.returns
returns c = loaded_state_shows
