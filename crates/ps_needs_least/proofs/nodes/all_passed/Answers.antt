use Rattle.std.proofs.Common.{[], ◌++◌, flat_map, ap, ◌∙◌}
use Rattle.ps_needs_least.specs.Nodes.{passed_in}
use Rattle.ps_needs_least.proofs.Listing.{joined_next, joined_all}
use Rattle.ps_needs_least.proofs.nodes.all_passed.Goals as goal

pub loop-uses-preserved : goal.loop-uses-preserved
loop-uses-preserved c = joined_next (λ v. flat_map passed_in v.items) [] _ _ _ _ _ _ c.loop-uses-test.true
    c.uses-item.is c.loop-uses.invariant (c.in_ok-add_passed.ensures
    ∙ ap (λ l. c.loop-uses.passed.items ++ flat_map passed_in l) c.deref.ensures.value)

pub returns : goal.returns
returns c = joined_all (λ v. flat_map passed_in v.items) [] _ _ _ c.loop-uses-test.false c.loop-uses.invariant
