use Rattle.std.proofs.Common.{sym, ap, ◌∙◌}
use Rattle.std.proofs.lemmas.List.{length-map}
use Rattle.ps_tree.specs.View.{routine_of}
use Rattle.ps_tree.specs.Checked.{program_in}
use Rattle.ps_needs_least.specs.declared.uses.Use.TheVariants.{Called}
use Rattle.ps_needs_least.specs.Settled.{depth_of}
use Rattle.ps_needs_least.proofs.Reading.{answer_least, answer_none}
use Rattle.ps_needs_least.proofs.Telling.{table_told}
use Rattle.ps_needs_least.proofs.least.least_stack.Goals as goal

pub dearest_path-requires-clause-tabled : goal.dearest_path-requires-clause-tabled
dearest_path-requires-clause-tabled c =
    table_told (program_in c.args.checked.now) c.in_ok-nodes.nodes c.args.frames.now c.in_ok-depths.depths.items
    c.deref-in-Some.result.now c.deref-in-Some.ensures.value
    c.in_ok-nodes.ensures.nodes
    (c.requires.count ∙ sym (length-map c.args.checked.now.routines routine_of))
    c.requires.positive
    c.in_ok-depths.ensures.sound
    c.in_ok-depths.ensures.blocked

pub endless_path-requires-clause-tabled : goal.endless_path-requires-clause-tabled
endless_path-requires-clause-tabled c = (
  c.args.frames.now,
  table_told (program_in c.args.checked.now) c.in_ok-nodes.nodes c.args.frames.now c.in_ok-depths.depths.items
      c.deref-in-None.result.now c.deref-in-None.ensures.value
      c.in_ok-nodes.ensures.nodes
      (c.requires.count ∙ sym (length-map c.args.checked.now.routines routine_of))
      c.requires.positive
      c.in_ok-depths.ensures.sound
      c.in_ok-depths.ensures.blocked,
)

pub returns-in-Some : goal.returns-in-Some
returns-in-Some c = (
  answer_least (program_in c.args.checked.now) c.args.frames.now c.in_ok-nodes.nodes c.in_ok-depths.depths.items
      c.in_ok-nodes.ensures.nodes
      (c.requires.count ∙ sym (length-map c.args.checked.now.routines routine_of))
      c.requires.positive
      c.in_ok-depths.ensures.sound
      c.in-Some.bytes
      (ap (λ xs. depth_of xs (Called 0)) (sym c.deref.ensures.value) ∙ sym c.depth_of.ensures ∙ c.in-Some.is),
  c.in_ok-path-in-Some.ensures.path (program_in c.args.checked.now) c.in_ok-nodes.ensures.nodes,
  c.in_ok-path-in-Some.ensures.takes,
)

pub returns : goal.returns
returns c = (
  answer_none (program_in c.args.checked.now) c.args.frames.now c.in_ok-nodes.nodes c.in_ok-depths.depths.items
      c.in_ok-nodes.ensures.nodes
      (c.requires.count ∙ sym (length-map c.args.checked.now.routines routine_of))
      c.requires.positive
      c.in_ok-depths.ensures.sound
      c.in_ok-depths.ensures.blocked
      (ap (λ xs. depth_of xs (Called 0)) (sym c.deref.ensures.value) ∙ sym c.depth_of.ensures ∙ c.in-None.is),
  c.in_ok-path-in-None.ensures.path (program_in c.args.checked.now) c.in_ok-nodes.ensures.nodes,
  c.in_ok-path-in-None.ensures.again,
)
