use Rattle.ps_tree.specs.Tree as Tree
use Rattle.ps_check_judgement.proofs.Lists.{handed_on}
use Rattle.ps_check_expressions.specs.Values.{SimpleValue, argument_list}
use Rattle.ps_check_expressions.proofs.RoutineLemmas.{call_told, call_yes}
use Rattle.ps_check_expressions.proofs.alone.called_parameter.Goals as goal

pub returns-in_err-ty : goal.returns-in_err-ty
returns-in_err-ty c = λ m before after h. handed_on _ _ _ _ c.from_residual.ensures.1
    (rw (← c.line-line.ensures) (call_told (λ t xs. SimpleValue
    (Tree.CallFormal c.args.up c.args.index (argument_list xs) c.line-line.result.number) t) _ m before after _ _ _
    c.result_type.ensures h c.in_err-ty.ensures))

pub returns : goal.returns
returns c = λ m before after h. rw (← c.line-line.ensures, c.formal_call.ensures)
    (call_yes (λ t xs. SimpleValue (Tree.CallFormal c.args.up c.args.index
    (argument_list xs) c.line-line.result.number) t) _ m before
    after _ _ _ _ c.result_type.ensures h c.in_ok-ty.ensures)
