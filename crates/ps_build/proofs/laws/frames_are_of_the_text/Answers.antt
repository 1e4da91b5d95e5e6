-- The law that frames are of the text.
use Rattle.ps_build.proofs.Passed.{frames_are_of_the_text}
use Rattle.ps_build.proofs.laws.frames_are_of_the_text.Goals as goal

pub returns : goal.returns
returns c = frames_are_of_the_text
