use Rattle.std.proofs.Common.{refl, sym}
use Rattle.std.proofs.lemmas.List.{append-nil}
use Rattle.ps_needs_least.specs.Nodes.{passed_in}
use Rattle.ps_needs_least.proofs.Listing.{joined_next, joined_all}
use Rattle.ps_needs_least.proofs.nodes.add_passed.Goals as goal

pub loop-part-init : goal.loop-part-init
loop-part-init c = sym (append-nil _)

pub loop-part-preserved : goal.loop-part-preserved
loop-part-preserved c = joined_next passed_in _ _ _ _ _ _ _ c.loop-part-test.true refl c.loop-part.invariant
    c.in_ok-add_use.ensures

pub returns : goal.returns
returns c = joined_all passed_in _ _ _ _ c.loop-part-test.false c.loop-part.invariant
