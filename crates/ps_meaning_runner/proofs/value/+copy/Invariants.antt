use Rattle.std.proofs.Common.{◌≡◌, take}
use Rattle.ps_meaning_runner.specs.View.{values_of}
use Rattle.ps_meaning_runner.proofs.value.+copy.Given as goal

abbrev pub invariant-copy_all-loop-value : goal.invariant-copy_all-loop-value
invariant-copy_all-loop-value l = values_of l.copies.items ≡ values_of (take l.value-index l.values)
