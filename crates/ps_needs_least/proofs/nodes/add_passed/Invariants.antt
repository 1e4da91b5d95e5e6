use Rattle.std.proofs.Common.{◌≡◌, ◌++◌, flat_map, take}
use Rattle.ps_needs_least.specs.Nodes.{passed_in}
use Rattle.ps_needs_least.proofs.nodes.add_passed.Given as goal

abbrev pub invariant-loop-part : goal.invariant-loop-part
invariant-loop-part l = l.passed.items ≡ l.fn.passed.items ++ flat_map passed_in (take l.part-index l.uses)
