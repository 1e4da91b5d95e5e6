use Rattle.std.proofs.Common.{take}
use Rattle.ps_diagnose.specs.Begun.{Asked}
use Rattle.ps_diagnose.specs.declared.kinds.TheConstants.{ALL}
use Rattle.ps_diagnose.proofs.expected.expected_at.Given as goal

-- the kinds so far were asked about
abbrev pub invariant-loop-at : goal.invariant-loop-at
invariant-loop-at l = Asked l.source l.before (take l.at ALL) l.kinds.items
