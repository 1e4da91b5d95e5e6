use Rattle.std.proofs.Common.{◌≤◌, length, map, flat_map, ap, ◌∙◌, sym, subst}
use Rattle.ps_tree.specs.View.{routine_of}
use Rattle.ps_tree.specs.Checked.{program_in}
use Rattle.ps_needs_least.specs.Uses.{statements_uses}
use Rattle.ps_needs_least.specs.Nodes.{passed_in}
use Rattle.ps_needs_least.proofs.Listing.{nodes_are}
use Rattle.ps_needs_least.proofs.Reading.{nodes_few}
use Rattle.ps_needs_least.proofs.nodes.nodes_of.Goals as goal

pub returns-clause-nodes : goal.returns-clause-nodes
returns-clause-nodes c =
    nodes_are c.args.checked.now c.in_ok-lists.lists.items c.push.new.self.items c.in_ok-passed.passed
    (c.in_ok-lists.ensures ∙ ap (map (λ r. statements_uses (routine_of r).body)) c.routines.ensures.routines)
    (c.in_ok-passed.ensures ∙ ap (flat_map (λ uses. flat_map passed_in uses.items)) c.deref.ensures.value)
    c.in_ok-push.ensures.items

pub returns-clause-few : goal.returns-clause-few
returns-clause-few c =
    let nodes =
    nodes_are c.args.checked.now c.in_ok-lists.lists.items c.push.new.self.items c.in_ok-passed.passed
    (c.in_ok-lists.ensures ∙ ap (map (λ r. statements_uses (routine_of r).body)) c.routines.ensures.routines)
    (c.in_ok-passed.ensures ∙ ap (flat_map (λ uses. flat_map passed_in uses.items)) c.deref.ensures.value)
    c.in_ok-push.ensures.items in
    subst (λ n. length n ≤ 2097152) (sym nodes) (nodes_few (program_in c.args.checked.now) c.routines.ensures.limits)
