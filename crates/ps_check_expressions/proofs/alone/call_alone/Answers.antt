use Rattle.ps_check_names.specs.Views.{meaning_of}
use Rattle.ps_check_expressions.specs.Calls.{actuals, called}
use Rattle.ps_check_expressions.specs.View.{context_at, regions_at}
use Rattle.std.proofs.Common.{[]}
use Rattle.ps_check_expressions.proofs.alone.call_alone.Goals as goal

pub returns-in-Routine : goal.returns-in-Routine
unfolding called meaning_of
returns-in-Routine c = λ cs. rw (c.in-Name.is, c.in-Routine.is, ← c.deref.ensures)
    (c.called_routine.ensures (actuals (context_at c.args.site.now) (regions_at c.args.site.now) c.args.name.from
    c.deref.result.now []) cs cs (c.no_arguments-arguments.ensures cs))

pub returns-in-RoutineParameter : goal.returns-in-RoutineParameter
unfolding called meaning_of
returns-in-RoutineParameter c = λ cs. rw (c.in-Name.is, c.in-RoutineParameter.is, ← c.deref-in-RoutineParameter.ensures)
    (c.called_parameter.ensures (actuals (context_at c.args.site.now) (regions_at c.args.site.now) c.args.name.from
    c.deref-in-RoutineParameter.result.now []) cs cs (c.no_arguments-arguments-in-RoutineParameter.ensures cs))
