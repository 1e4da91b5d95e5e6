use Rattle.std.proofs.Common.{◌≡◌, ◌++◌, map, take}
use Rattle.ps_check_names.specs.Spelling.{spelled}
use Rattle.ps_check.proofs.headings.add_spellings.Given as goal

abbrev pub invariant-loop-point : goal.invariant-loop-point
invariant-loop-point l = map (λ name. name.items) l.names.items ≡ map (λ name. name.items) l.fn.names.items ++ map
    (spelled l.reading.source.now) (take l.point-index l.points)
