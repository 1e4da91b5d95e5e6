use Rattle.std.proofs.Common.{◌≡◌, drop}
use Rattle.ps_meaning.specs.Values.{with_values}
use Rattle.ps_meaning_runner.specs.View.{values_of}
use Rattle.ps_meaning_runner.proofs.required.with_values.Given as goal

abbrev pub invariant-loop-new : goal.invariant-loop-new
invariant-loop-new l = with_values (values_of l.values.items) l.place (values_of (drop l.new-index l.news))
    ≡ with_values (values_of l.olds) l.from (values_of l.news)
