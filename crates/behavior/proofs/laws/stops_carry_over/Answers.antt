use Rattle.behavior.proofs.Sameness.{stops_carry_over}
use Rattle.behavior.proofs.laws.stops_carry_over.Goals as goal

pub returns : goal.returns
returns c = stops_carry_over
