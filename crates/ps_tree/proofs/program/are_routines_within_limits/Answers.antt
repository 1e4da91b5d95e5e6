use Rattle.std.proofs.Common.{rules, ◌≡◌, true, false, sym, ap, ◌∙◌}
use Rattle.ps_tree.specs.Counts.{is_routine_within_limits}
use Rattle.ps_tree.specs.View.{routine_of}
use Rattle.ps_tree.proofs.FormalLemmas.{passed_fails, passed_next, passed_end, routines_within, routines_within_none}
use Rattle.ps_tree.proofs.FormalLemmas.{routines_within_more}
use Rattle.ps_tree.proofs.program.are_routines_within_limits.Goals as goal

pub returns-then-not-is_within_limits : goal.returns-then-not-is_within_limits
returns-then-not-is_within_limits c =
    let no : c.is_within_limits.result ≡ false = search rules in
    passed_fails routines_within (λ x. is_routine_within_limits (routine_of x)) routines_within_more _ _
    c.routine-item.result c.loop-routine-test.true c.loop-routine.invariant
    (ap (λ x. is_routine_within_limits (routine_of x)) (sym c.routine-item.is) ∙ sym c.is_within_limits.ensures
    ∙ no)

pub loop-routine-preserved : goal.loop-routine-preserved
loop-routine-preserved c =
    let yes' : c.is_within_limits.result ≡ true = search rules in
    passed_next routines_within (λ x. is_routine_within_limits (routine_of x)) routines_within_more _ _
    c.routine-item.result c.loop-routine-test.true c.loop-routine.invariant
    (ap (λ x. is_routine_within_limits (routine_of x)) (sym c.routine-item.is) ∙ sym c.is_within_limits.ensures
    ∙ yes')

pub returns : goal.returns
returns c = passed_end routines_within routines_within_none _ _ c.loop-routine-test.false c.loop-routine.invariant
