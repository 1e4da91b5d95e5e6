use Rattle.std.proofs.Common.{◌++◌, refl, ap, ◌∙◌, arith}
use Rattle.ps_tree.specs.View.{read_of}
use Rattle.ps_lower_code.specs.Statements.{read_code}
use Rattle.ps_lower.specs.Levels.{scope_of}
use Rattle.ps_lower.proofs.Appends.{added_start, added_next, added_all}
use Rattle.ps_lower.proofs.Reading.{reads_added, reads_further}
use Rattle.ps_lower.proofs.Weighing.{read_in}
use Rattle.ps_lower.proofs.reads.reads.Goals as goal

pub loop-variable-init : goal.loop-variable-init
loop-variable-init c = added_start (reads_added (scope_of c.args.level.now) c.args.d) _ _

pub loop-variable-preserved : goal.loop-variable-preserved
loop-variable-preserved c = added_next (reads_added (scope_of c.args.level.now) c.args.d)
    (λ p. read_code (scope_of c.args.level.now) (read_of p) c.args.d)
    (reads_further (scope_of c.args.level.now) c.args.d) _ _ _ _ _ c.variable-item.result c.loop-variable-test.true
    c.loop-variable.invariant (c.in_ok-read.ensures
    ∙ ap (λ p. c.loop-variable.out ++ read_code (scope_of c.args.level.now) (read_of p) c.args.d) c.variable-item.is)

pub returns : goal.returns
returns c = added_all (reads_added (scope_of c.args.level.now) c.args.d) refl _ _ _ _ c.loop-variable-test.false
    c.loop-variable.invariant

pub read-requires : goal.read-requires
read-requires c = let l = read_in (scope_of c.args.level.now) c.args.variables.now c.loop-variable.variable-index
    c.variable-item.result c.loop-variable-test.true c.variable-item.is in let r = c.requires in omega (arith, l, r)
