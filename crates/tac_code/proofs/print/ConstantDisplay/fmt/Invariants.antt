use Rattle.std.proofs.Common.{◌++◌, take, codes, decimal, flat_map}
use Rattle.std.specs.Fmt.{HasWritten, IsPlainFormatter}
use Rattle.tac_code.proofs.print.ConstantDisplay.fmt.Given as goal

abbrev pub invariant-loop-byte : goal.invariant-loop-byte
invariant-loop-byte g l =
    IsPlainFormatter l.initial.f → HasWritten g.W.Write.write_str_gives l.initial.f
    (flat_map (λ b. codes " " ++ decimal b) (take l.byte-index l.byte-items)) l.f
