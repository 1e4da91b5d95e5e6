use Rattle.std.proofs.Common.{◌++◌, take, codes, decimal, flat_map}
use Rattle.std.specs.Fmt.{HasWritten, IsPlainFormatter}
use Rattle.tac_code.proofs.print.OperandsDisplay.fmt.Given as goal

abbrev pub invariant-loop-temporary : goal.invariant-loop-temporary
invariant-loop-temporary g l =
    IsPlainFormatter l.initial.f → HasWritten g.W.Write.write_str_gives l.initial.f
    (flat_map (λ b. codes " t" ++ decimal b) (take l.temporary-index l.temporary-items)) l.f
