use Rattle.risc_machine_laws.proofs.Numbers.{number_laws}
use Rattle.risc_machine_laws.proofs.numbers_as_words.Goals as goal

pub returns : goal.returns
returns c = number_laws
