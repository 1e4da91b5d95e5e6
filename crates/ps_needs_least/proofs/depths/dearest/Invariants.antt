use Rattle.ps_needs_least.proofs.Walking.{Seen}
use Rattle.ps_needs_least.proofs.depths.dearest.Given as goal

abbrev pub invariant-loop-part : goal.invariant-loop-part
invariant-loop-part l = Seen l.depths l.uses l.part-index l.most
