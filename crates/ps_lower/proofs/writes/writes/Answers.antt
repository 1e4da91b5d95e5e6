use Rattle.std.proofs.Common.{◌++◌, refl, ap, ◌∙◌, arith}
use Rattle.ps_tree.specs.View.{write_of}
use Rattle.ps_lower_code.specs.Statements.{write_code}
use Rattle.ps_lower.specs.Levels.{scope_of}
use Rattle.ps_lower.proofs.Appends.{added_start, added_next, added_all}
use Rattle.ps_lower.proofs.Rows.{writes_added, writes_further}
use Rattle.ps_lower.proofs.Weighing.{write_in}
use Rattle.ps_lower.proofs.writes.writes.Goals as goal

pub loop-parameter-init : goal.loop-parameter-init
loop-parameter-init c = added_start (writes_added (scope_of c.args.level.now) c.args.d) _ _

pub loop-parameter-preserved : goal.loop-parameter-preserved
loop-parameter-preserved c = added_next (writes_added (scope_of c.args.level.now) c.args.d)
    (λ p. write_code (scope_of c.args.level.now) (write_of p) c.args.d)
    (writes_further (scope_of c.args.level.now) c.args.d) _ _ _ _ _ c.parameter-item.result c.loop-parameter-test.true
    c.loop-parameter.invariant (c.in_ok-write.ensures
    ∙ ap (λ p. c.loop-parameter.out ++ write_code (scope_of c.args.level.now) (write_of p) c.args.d)
    c.parameter-item.is)

pub returns : goal.returns
returns c = added_all (writes_added (scope_of c.args.level.now) c.args.d) refl _ _ _ _ c.loop-parameter-test.false
    c.loop-parameter.invariant

pub write-requires : goal.write-requires
write-requires c = let l = write_in (scope_of c.args.level.now) c.args.parameters.now c.loop-parameter.parameter-index
    c.parameter-item.result c.loop-parameter-test.true c.parameter-item.is in let r = c.requires in omega (arith, l, r)
