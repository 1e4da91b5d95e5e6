use Rattle.std.proofs.Common.{arith}
use Rattle.risc_emit.proofs.frame.location_of.Goals as goal

pub new-requires : goal.new-requires
new-requires c = let below = c.requires c.in-Reg.number c.in-Reg.is in omega (arith, below)
