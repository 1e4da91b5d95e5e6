use Rattle.std.proofs.Common.{map, ap}
use Rattle.ps_tree.specs.View.{routine_of}
use Rattle.ps_needs_least.specs.Uses.{statements_uses}
use Rattle.ps_needs_least.proofs.Listing.{items_of, mapped_next, mapped_all}
use Rattle.ps_needs_least.proofs.nodes.blocks_of.Goals as goal

pub loop-routine-init : goal.loop-routine-init
loop-routine-init c = ap (map items_of) c.new-lists.ensures.items

pub loop-routine-preserved : goal.loop-routine-preserved
loop-routine-preserved c = mapped_next items_of
    (λ r. statements_uses (routine_of r).body) _ _ _ _ _ _ _ c.loop-routine-test.true c.routine-item.is
    c.loop-routine.invariant c.in_ok-push.ensures.items c.in_ok-uses.ensures

pub returns : goal.returns
returns c = mapped_all items_of (λ r. statements_uses (routine_of r).body) _ _ _ c.loop-routine-test.false
    c.loop-routine.invariant
