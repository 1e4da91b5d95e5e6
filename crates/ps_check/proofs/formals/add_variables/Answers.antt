use Rattle.std.proofs.Common.{◌≡◌, ap, arith}
use Rattle.ps_tree.specs.Tree.{VariableFormal}
use Rattle.ps_tree.specs.View.{formal_of}
use Rattle.ps_check.proofs.FormalLemmas.{pushed_start, pushed_next, pushed_end}
use Rattle.ps_check.proofs.formals.add_variables.Goals as goal

pub loop-init : goal.loop-init
loop-init c = pushed_start _ _

pub loop-preserved : goal.loop-preserved
unfolding formal_of
loop-preserved c = pushed_next _ _ _ _ _ _ c.loop.invariant c.in_ok-push.ensures.items
    (ap VariableFormal c.in_ok-copy.ensures)

pub returns : goal.returns
returns c =
    let all : c.loop.counter ≡ c.args.count = omega arith in
    pushed_end _ _ _ _ _ c.loop.invariant all
