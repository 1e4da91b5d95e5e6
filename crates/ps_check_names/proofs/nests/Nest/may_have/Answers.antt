use Rattle.ps_check_names.proofs.nests.Nest.may_have.Goals as goal

pub returns : goal.returns
returns c = λ off. c.may_be_narrow.ensures c.if-may_be_narrow.false (c.may_be_wide.ensures off)
