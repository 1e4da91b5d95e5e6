use Rattle.ps_check_names.specs.Nests.{levels_of, records_in}
use Rattle.ps_check_names.proofs.NestLemmas.{is_number, nest_passed}
use Rattle.ps_check_names.proofs.scope.past_nest.Goals as goal

pub past_levels-requires : goal.past_levels-requires
past_levels-requires c = is_number (levels_of c.args.nest.now.levels) c.args.nest.now.wides.now.fields c.args.name.now
    _ c.args.nest.now.own c.number.ensures

pub returns-in-Some-clause-ok : goal.returns-in-Some-clause-ok
returns-in-Some-clause-ok c = λ up at Γ. nest_passed (records_in
    (levels_of c.args.nest.now.levels)) c.args.nest.now.count
    c.args.nest.now.counted c.args.name.now (c.may_have.ensures c.if-may_have.false) up c.args.which at Γ
    c.in-Some.passed c.in-Some.ensures.some c.in-Some.ensures.small
