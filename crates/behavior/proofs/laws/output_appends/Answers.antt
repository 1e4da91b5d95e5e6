use Rattle.behavior.proofs.Transcripts.{output_appends}
use Rattle.behavior.proofs.laws.output_appends.Goals as goal

pub returns : goal.returns
returns c = output_appends
