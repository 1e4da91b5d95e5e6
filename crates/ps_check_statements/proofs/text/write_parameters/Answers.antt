use Rattle.ps_tree.specs.View.{write_of}
use Rattle.ps_check_judgement.proofs.Lists.{handed_on}
use Rattle.ps_check_expressions.specs.View.{context_at, regions_at}
use Rattle.ps_check_statements.specs.Procedures.{write_parameter}
use Rattle.ps_check_statements.proofs.Loops.{added_start, added_next, added_fault, added_end}
use Rattle.ps_check_statements.proofs.text.write_parameters.Goals as goal

pub loop-parameter-init : goal.loop-parameter-init
loop-parameter-init c = rw c.new-list.ensures.items
    (added_start (write_parameter (context_at c.args.site.now) (regions_at c.args.site.now)) write_of
    c.in_ok-rest.rest.now
    c.args.changes.now.items)

pub loop-parameter-preserved : goal.loop-parameter-preserved
loop-parameter-preserved c = added_next (write_parameter (context_at c.args.site.now) (regions_at c.args.site.now))
    write_of
    c.in_ok-rest.rest.now _ c.loop-parameter.parameter-index c.loop-parameter.list.items _ _ _ c.parameter-item.result
    c.write_parameter.result c.loop-parameter-test.true c.parameter-item.is c.loop-parameter.invariant
    c.write_parameter.ensures c.in_ok-push_answer.ensures.ok

pub returns-in_err-push_answer : goal.returns-in_err-push_answer
returns-in_err-push_answer c =
    handed_on _ _ _ _ c.from_residual-in_err-push_answer.ensures.1
    (rw c.in_ok-rest.ensures (added_fault (write_parameter (context_at c.args.site.now) (regions_at c.args.site.now))
    write_of c.in_ok-rest.rest.now _ c.loop-parameter.parameter-index c.loop-parameter.list.items _ _
    c.parameter-item.result c.write_parameter.result _ c.loop-parameter-test.true c.parameter-item.is
    c.loop-parameter.invariant c.write_parameter.ensures c.in_err-push_answer.ensures.err))

pub returns : goal.returns
returns c = rw c.in_ok-rest.ensures (added_end
    (write_parameter (context_at c.args.site.now) (regions_at c.args.site.now)) write_of c.in_ok-rest.rest.now _
    c.loop-parameter.parameter-index c.loop-parameter.list.items _ c.loop-parameter-test.false
    c.loop-parameter.invariant)
