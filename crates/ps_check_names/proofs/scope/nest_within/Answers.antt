use Rattle.std.proofs.Common.{ap, ◌∙◌}
use Rattle.ps_check_names.specs.Views.{scope_of, wides_within}
use Rattle.ps_check_names.specs.Nests.{levels_of}
use Rattle.ps_check_names.proofs.NestLemmas.{nest_more}
use Rattle.ps_check_names.proofs.scope.nest_within.Goals as goal

pub with-requires-clause-wides : goal.with-requires-clause-wides
unfolding wides_within
with-requires-clause-wides c = c.requires ∙ ap (λ scope. wides_within scope c.args.wides.now) c.in-Nested.is

pub returns-in_ok-with-in-Nested : goal.returns-in_ok-with-in-Nested
unfolding scope_of
returns-in_ok-with-in-Nested c = nest_more (scope_of c.args.scope.now) (scope_of c.in-Nested.outer.now)
    (levels_of c.in-Nested.nest.now.levels) (levels_of c.in_ok-with-in-Nested.field-0.levels) c.args.opened.now
    (ap scope_of c.in-Nested.is) c.in_ok-with-in-Nested.ensures
