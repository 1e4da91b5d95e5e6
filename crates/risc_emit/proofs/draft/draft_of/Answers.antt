use Rattle.std.proofs.Common.{◌+◌, ◌≤◌, length, length-append, slice_get, take, sym, ap, ◌∙◌, arith, rules}
use Rattle.tac_code.specs.Meaning.{routines}
use Rattle.risc_emit_laws.specs.Drawn.{entry_place, routines_texts}
use Rattle.risc_emit.specs.Layout.{laid_out}
use Rattle.risc_emit.specs.Frames.{Place, context_of}
use Rattle.risc_emit.proofs.Homes.{homes_room, before_none, before_next}
use Rattle.risc_emit.proofs.Drafting.{all_begun, all_grown, entry_reached, all_pieces, all_texts, all_marked}
use Rattle.risc_emit.proofs.draft.draft_of.Goals as goal

pub new-requires-clause-first : goal.new-requires-clause-first
new-requires-clause-first c = before_none (routines c.args.tac.now)

pub loop-number-init : goal.loop-number-init
loop-number-init c = (
  all_begun c.args.tac.now c.args.homes.now c.new.result c.routine.result.now _ _ _ _ c.new.ensures c.routine.ensures
      c.in_ok-pieces.ensures c.in_ok-put_start.ensures c.new-texts.ensures.items c.new-marks.ensures.items,
  before_none
      (routines c.args.tac.now),
)

pub overflow_add-first : goal.overflow_add-first
overflow_add-first c =
    let room : c.loop-number.first + c.routine-routine.result.now.temporaries ≤ length c.args.homes.now = homes_room
    c.args.tac.now c.args.homes.now c.requires.valid c.loop-number.number c.loop-number.first
    c.routine-routine.result.now c.loop-number.invariant.1 c.routine-routine.ensures in
    search rules

pub loop-number-preserved : goal.loop-number-preserved
loop-number-preserved c = (
  all_grown c.args.tac.now c.args.homes.now c.new-frame.result c.loop-number.number c.routine-routine.result.now
      c.in_ok-put_routine.field-0 _ _ _ _ _ _ c.new-frame.ensures c.loop-number.invariant.0 c.routine-routine.ensures
      c.in_ok-put_routine.ensures.pieces c.in_ok-put_routine.ensures.texts c.in_ok-push.ensures.items
      c.in_ok-put_routine.ensures.marks,
  before_next
      (routines c.args.tac.now) c.loop-number.number c.loop-number.first c.routine-routine.result.now
      c.loop-number.invariant.1 c.routine-routine.ensures,
)

pub returns-clause-marks : goal.returns-clause-marks
returns-clause-marks c =
    let both = length-append c.args.tac.now.program c.args.tac.now.run_time in
    let program = ap length c.program.ensures in
    let run_time = ap length c.run_time.ensures in
    let past = c.loop-number-test.false in
    let most = c.loop-number.auto.number-end in
    all_marked (laid_out c.args.tac.now c.args.homes.now) c.loop-number.number _ _ _
    (omega (arith, both, program, run_time, past, most)) c.loop-number.invariant.0

pub new-frame-requires-clause-exists : goal.new-frame-requires-clause-exists
new-frame-requires-clause-exists c =
    let both = length-append c.args.tac.now.program c.args.tac.now.run_time in
    let program = ap length c.program.ensures in
    let run_time = ap length c.run_time.ensures in
    let below = c.loop-number-test.true in
    omega (arith, both, program, run_time, below)

pub routine-routine-requires : goal.routine-routine-requires
routine-routine-requires c =
    let both = length-append c.args.tac.now.program c.args.tac.now.run_time in
    let program = ap length c.program.ensures in
    let run_time = ap length c.run_time.ensures in
    let below = c.loop-number-test.true in
    omega (arith, both, program, run_time, below)

pub put_routine-requires-clause-own : goal.put_routine-requires-clause-own
put_routine-requires-clause-own c =
    ap (λ (o : Place). slice_get (routines o.code) o.number) c.new-frame.ensures ∙ c.routine-routine.ensures

pub put_routine-requires-clause-entry : goal.put_routine-requires-clause-entry
put_routine-requires-clause-entry c =
    entry_reached (laid_out c.args.tac.now c.args.homes.now) c.loop-number.number _ _ _ c.loop-number.invariant.0
    ∙ ap (λ (o : Place). entry_place (context_of o) o.number) (sym c.new-frame.ensures)

pub put_routine-requires-clause-first : goal.put_routine-requires-clause-first
put_routine-requires-clause-first c =
    ap length c.loop-number.invariant.0.texts
    ∙ ap (λ (o : Place). length (routines_texts (take o.number (routines o.code)))) (sym c.new-frame.ensures)

pub returns-clause-pieces : goal.returns-clause-pieces
returns-clause-pieces c =
    let both = length-append c.args.tac.now.program c.args.tac.now.run_time in
    let program = ap length c.program.ensures in
    let run_time = ap length c.run_time.ensures in
    let past = c.loop-number-test.false in
    let most = c.loop-number.auto.number-end in
    all_pieces (laid_out c.args.tac.now c.args.homes.now) c.loop-number.number _ _ _
    (omega (arith, both, program, run_time, past, most)) c.loop-number.invariant.0

pub returns-clause-texts : goal.returns-clause-texts
returns-clause-texts c =
    let both = length-append c.args.tac.now.program c.args.tac.now.run_time in
    let program = ap length c.program.ensures in
    let run_time = ap length c.run_time.ensures in
    let past = c.loop-number-test.false in
    let most = c.loop-number.auto.number-end in
    all_texts (laid_out c.args.tac.now c.args.homes.now) c.loop-number.number _ _ _
    (omega (arith, both, program, run_time, past, most)) c.loop-number.invariant.0
