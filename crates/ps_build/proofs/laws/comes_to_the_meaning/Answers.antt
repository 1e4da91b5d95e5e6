use Rattle.ps_build.proofs.Unbudgeted.{comes_to_the_meaning}
use Rattle.ps_build.proofs.laws.comes_to_the_meaning.Goals as goal

pub returns : goal.returns
returns c = comes_to_the_meaning
