use Rattle.std.proofs.Common.{length, sym, ap, ◌∙◌, subst}
use Rattle.ps_needs_least.specs.Settled.{Sound}
use Rattle.ps_needs_least.proofs.depths.settle_in_order.Goals as goal
use Rattle.ps_needs_least.proofs.depths.settle_in_order.Goals.{then-node-len, else-node-len}

pub loop-node-preserved : goal.loop-node-preserved
loop-node-preserved c = elim c.if-node-len.branch [
  | then-node-len w ↦ (
    subst (λ d. Sound c.args.nodes.now c.args.frames.now d.items) (sym w.depths-is) w.settle.ensures.sound,
    ap (λ d. length d.items) w.depths-is ∙ w.settle.ensures.count ∙ c.loop-node.invariant.1,
  )
  | else-node-len w ↦ (
    subst (λ d. Sound c.args.nodes.now c.args.frames.now d.items) (sym w.depths-is) c.loop-node.invariant.0,
    ap (λ d. length d.items) w.depths-is ∙ c.loop-node.invariant.1,
  )
]
