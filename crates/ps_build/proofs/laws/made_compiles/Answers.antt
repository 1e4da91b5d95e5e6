-- The law of images that were made through three-address code.
use Rattle.ps_build.proofs.Made.{made_compiles}
use Rattle.ps_build.proofs.laws.made_compiles.Goals as goal

pub returns : goal.returns
returns c = λ text bytes checked image of_text is made. made_compiles checked bytes image is made text of_text
