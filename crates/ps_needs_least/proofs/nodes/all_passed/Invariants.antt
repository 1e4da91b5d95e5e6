use Rattle.std.proofs.Common.{◌≡◌, flat_map, take}
use Rattle.ps_needs_least.specs.Nodes.{passed_in}
use Rattle.ps_needs_least.proofs.nodes.all_passed.Given as goal

abbrev pub invariant-loop-uses : goal.invariant-loop-uses
invariant-loop-uses l = l.passed.items ≡ flat_map (λ v. flat_map passed_in v.items) (take l.uses-index l.lists)
