use Rattle.std.proofs.Common.{◌≡◌, ◌+◌, ◌-◌, ◌<◌, ◌≤◌, map, length, sym, ap, subst, ◌∙◌, arith}
use Rattle.ps_tree.specs.Checked.{program_in}
use Rattle.ps_tree.specs.View.{routine_of}
use Rattle.ps_lower_code.specs.Programs.{tac_of}
use Rattle.ps_lower.specs.declared.refusal.TheConstants.{MOST_INSTRUCTIONS}
use Rattle.ps_lower.specs.Refused.{instructions_of, IsRefused}
use Rattle.ps_lower.proofs.Limits.{routine_light}
use Rattle.ps_lower.proofs.Mapping.{made_start, made_next, made_all}
use Rattle.ps_lower.proofs.Counting.{left_less, passed_on, one_refused, no_more}
use Rattle.ps_lower.proofs.lower.routines_of.Goals as goal

pub tac_routine-requires : goal.tac_routine-requires
tac_routine-requires c = routine_light (program_in c.args.checked.now) _ _ c.routine-item.result
    (ap (map routine_of) (sym c.routines-routine-items.ensures.routines)) c.loop-routine-test.true c.routine-item.is
    c.requires

pub loop-routine-init : goal.loop-routine-init
loop-routine-init c = (
  made_start routine_of
      (tac_of (program_in c.args.checked.now)) _ _ c.new-list.ensures.items,
  ap (λ l. MOST_INSTRUCTIONS + instructions_of l)
      c.new-list.ensures.items,
)

pub loop-routine-preserved : goal.loop-routine-preserved
loop-routine-preserved c =
    let size = ap length c.as_slice-count.ensures in
    let fits = c.if-count-left.false in (
      made_next routine_of (tac_of (program_in c.args.checked.now)) _ _ _ _ c.routine-item.result _
          c.loop-routine-test.true c.loop-routine.invariant.0
          (c.in_ok-made.ensures ∙ ap (λ r. tac_of (program_in c.args.checked.now) (routine_of r)) c.routine-item.is)
          c.in_ok-push.ensures.items,
      left_less c.loop-routine.left _ c.loop-routine.list.items _ c.in_ok-made.made c.loop-routine.invariant.1
          (omega (arith, size, fits)) (ap (λ n. c.loop-routine.left - n) size) c.in_ok-push.ensures.items,
    )

pub returns-clause-made : goal.returns-clause-made
returns-clause-made c = made_all routine_of
    (tac_of (program_in c.args.checked.now)) _ _ _ c.loop-routine-test.false c.loop-routine.invariant.0
    ∙ ap (λ l. map (tac_of (program_in c.args.checked.now)) (map routine_of l))
    c.routines-routine-items.ensures.routines

pub returns-clause-few : goal.returns-clause-few
returns-clause-few c =
    let all = made_all routine_of (tac_of (program_in c.args.checked.now)) _ _ _ c.loop-routine-test.false
    c.loop-routine.invariant.0 ∙ ap (λ l. map (tac_of (program_in c.args.checked.now)) (map routine_of l))
    c.routines-routine-items.ensures.routines in
    let size = ap instructions_of all in
    let left = c.loop-routine.invariant.1 in
    omega (arith, size, left)

pub returns-in_err-made-clause-refused : goal.returns-in_err-made-clause-refused
returns-in_err-made-clause-refused c =
    passed_on c.from_residual.result _ (instructions_of
    (map (tac_of (program_in c.args.checked.now)) (program_in c.args.checked.now).routines))
    c.from_residual.ensures.1
    (subst (λ l. IsRefused c.in_err-made.field-0.0
    (instructions_of (map (tac_of (program_in c.args.checked.now)) (map routine_of l))))
    c.routines-routine-items.ensures.routines
    (one_refused routine_of (tac_of (program_in c.args.checked.now)) _ _ _ c.routine-item.result _ _
    c.loop-routine-test.true c.loop-routine.invariant.0 c.routine-item.is c.in_err-made.ensures))

pub returns-then-count-left-clause-refused : goal.returns-then-count-left-clause-refused
returns-then-count-left-clause-refused c =
    let size = ap length c.as_slice-count.ensures in
    let more = c.if-count-left.true in
    subst (λ l. MOST_INSTRUCTIONS < instructions_of (map (tac_of (program_in c.args.checked.now)) (map routine_of l)))
    c.routines-routine-items.ensures.routines
    (no_more routine_of (tac_of (program_in c.args.checked.now)) _ _ _ c.routine-item.result c.loop-routine.left
    c.in_ok-made.made c.loop-routine-test.true c.loop-routine.invariant.0 c.loop-routine.invariant.1
    (c.in_ok-made.ensures ∙ ap (λ r. tac_of (program_in c.args.checked.now) (routine_of r)) c.routine-item.is)
    (omega (arith, size, more)))
