use Rattle.std.proofs.Common.{◌≡◌, [], ◌++◌, map}
use Rattle.ps_check_names.specs.SectionViews.{section_of}
use Rattle.ps_check_expressions.specs.Calls.{times}
use Rattle.ps_check_expressions.proofs.parameter.push_times.Given as goal

abbrev pub invariant-loop-time : goal.invariant-loop-time
invariant-loop-time l = map (λ s. section_of s.now) l.list.items ≡ map (λ s. section_of s.now) l.initial.list.items
    ++ times l.time (section_of l.section) []
