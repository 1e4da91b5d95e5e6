use Rattle.std.proofs.Common.{◌≡◌, map, take}
use Rattle.ps_tree.specs.View.{routine_of}
use Rattle.ps_needs_least.specs.Uses.{statements_uses}
use Rattle.ps_needs_least.proofs.Listing.{items_of}
use Rattle.ps_needs_least.proofs.nodes.blocks_of.Given as goal

abbrev pub invariant-loop-routine : goal.invariant-loop-routine
invariant-loop-routine l = map items_of l.lists.items ≡ map (λ r. statements_uses (routine_of r).body)
    (take l.routine-index l.routines)
