use Rattle.std.proofs.Common.{inl, inr, ◌≡◌, suc, ◌-◌, arith, sym, ◌∙◌, refl}
use Rattle.ps_parse.specs.Steps.{many_from, if_begins, eat}
use Rattle.ps_parse_grammar.specs.Forward.{is_forward}
use Rattle.ps_parse.specs.ReadPrograms as program
use Rattle.ps_parse.proofs.Loops.{next_refused, next_put, item_shorter, many_begun, begins_one, begins_none}
use Rattle.ps_parse.proofs.LocalPrograms.{routine_takes, routine_turn}
use Rattle.ps_parse.proofs.Handed.{was_read, was_refused}
use Rattle.ps_parse.proofs.Closed.{closed, refused}
use Rattle.ps_parse.proofs.parser.Parser.+block.Goals as goal

pub routines-loop-found-init : goal.routines-loop-found-init
routines-loop-found-init t c = many_begun (if_begins program.begins_routine
    (program.routine (is_forward c.args.text.now) (program.read_formals c.args.depth)
    (program.read_block (is_forward c.args.text.now) c.args.depth)))
    (routine_turn (is_forward c.args.text.now) c.args.depth) _ _ c.new-found.ensures

pub routines-returns-in_err-push_answer : goal.routines-returns-in_err-push_answer
routines-returns-in_err-push_answer t c = refused _ _ _ _ c.from_residual.ensures.1
    (next_refused (program.routine (is_forward c.args.text.now) (program.read_formals c.args.depth)
    (program.read_block (is_forward c.args.text.now) c.args.depth))
    (many_from (if_begins program.begins_routine
    (program.routine (is_forward c.args.text.now) (program.read_formals c.args.depth)
    (program.read_block (is_forward c.args.text.now) c.args.depth)))) c.loop-found.found c.loop-found.self.rest.now _ _
    _ (begins_one program.begins_routine (program.routine (is_forward c.args.text.now)
    (program.read_formals c.args.depth) (program.read_block (is_forward c.args.text.now) c.args.depth)) refl
    (routine_takes (is_forward c.args.text.now) c.args.depth)
    (routine_turn (is_forward c.args.text.now) c.args.depth) c.loop-found.found c.loop-found.self.rest.now
    c.loop-found.invariant (sym c.sees_routine.ensures ∙ c.loop-found-test.true)) c.routine.ensures
    c.in_err-push_answer.ensures.err)

pub routines-loop-found-preserved : goal.routines-loop-found-preserved
routines-loop-found-preserved t c = next_put
    (program.routine (is_forward c.args.text.now) (program.read_formals c.args.depth)
    (program.read_block (is_forward c.args.text.now) c.args.depth))
    (many_from (if_begins program.begins_routine
    (program.routine (is_forward c.args.text.now) (program.read_formals c.args.depth)
    (program.read_block (is_forward c.args.text.now) c.args.depth)))) c.loop-found.found c.loop-found.self.rest.now _ _
    _ (begins_one program.begins_routine (program.routine (is_forward c.args.text.now)
    (program.read_formals c.args.depth) (program.read_block (is_forward c.args.text.now) c.args.depth)) refl
    (routine_takes (is_forward c.args.text.now) c.args.depth)
    (routine_turn (is_forward c.args.text.now) c.args.depth) c.loop-found.found c.loop-found.self.rest.now
    c.loop-found.invariant (sym c.sees_routine.ensures ∙ c.loop-found-test.true)) c.routine.ensures
    c.in_ok-push_answer.ensures.ok

pub routines-loop-found-smaller : goal.routines-loop-found-smaller
routines-loop-found-smaller t c = item_shorter
    (program.routine (is_forward c.args.text.now) (program.read_formals c.args.depth)
    (program.read_block (is_forward c.args.text.now) c.args.depth))
    (routine_takes (is_forward c.args.text.now) c.args.depth) c.loop-found.found _ c.loop-found.self.rest.now _ _
    c.routine.ensures c.in_ok-push_answer.ensures.ok

pub routines-returns : goal.routines-returns
routines-returns t c = begins_none program.begins_routine
    (program.routine (is_forward c.args.text.now) (program.read_formals c.args.depth)
    (program.read_block (is_forward c.args.text.now) c.args.depth)) refl
    (routine_takes (is_forward c.args.text.now) c.args.depth)
    (routine_turn (is_forward c.args.text.now) c.args.depth) c.loop-found.found c.loop-found.self.rest.now
    c.loop-found.invariant (sym c.sees_routine.ensures ∙ c.loop-found-test.false)

pub block-returns : goal.block-returns
unfolding program.read_block
block-returns t c =
    let d : c.args.depth ≡ suc (c.args.depth - 1) = omega arith in rw d c.any_block.ensures

pub any_block-returns-in_err-constants : goal.any_block-returns-in_err-constants
unfolding program.any_block
any_block-returns-in_err-constants t c = refused _ _ _ _ c.from_residual.ensures.1
    (λ ne. rw (c.in_err-constants.ensures ne) refl)

pub any_block-returns-in_err-types : goal.any_block-returns-in_err-types
unfolding program.any_block
any_block-returns-in_err-types t c = refused _ _ _ _ c.from_residual-in_err-types.ensures.1
    (λ ne. rw (c.in_ok-constants.ensures, c.in_err-types.ensures ne) refl)

pub any_block-returns-in_err-variables : goal.any_block-returns-in_err-variables
unfolding program.any_block
any_block-returns-in_err-variables t c = refused _ _ _ _ c.from_residual-in_err-variables.ensures.1
    (λ ne. rw (c.in_ok-constants.ensures, c.in_ok-types.ensures, c.in_err-variables.ensures ne) refl)

pub any_block-returns-in_err-routines : goal.any_block-returns-in_err-routines
unfolding program.any_block
any_block-returns-in_err-routines t c = refused _ _ _ _ c.from_residual-in_err-routines.ensures.1
    (λ ne. rw (
      c.in_ok-constants.ensures,
      c.in_ok-types.ensures,
      c.in_ok-variables.ensures,
      c.in_err-routines.ensures
          ne,
    ) refl)

pub any_block-returns-in_err-begin : goal.any_block-returns-in_err-begin
unfolding program.any_block
any_block-returns-in_err-begin t c = refused _ _ _ _ c.from_residual-in_err-begin.ensures.1
    (λ ne. rw (
      c.in_ok-constants.ensures,
      c.in_ok-types.ensures,
      c.in_ok-variables.ensures,
      c.in_ok-routines.ensures,
      c.in_err-begin.ensures.read ne,
    ) refl)

pub any_block-returns-in_err-statements : goal.any_block-returns-in_err-statements
unfolding program.any_block
any_block-returns-in_err-statements t c = refused _ _ _ _ c.from_residual-in_err-statements.ensures.1
    (λ ne. rw (
      c.in_ok-constants.ensures,
      c.in_ok-types.ensures,
      c.in_ok-variables.ensures,
      c.in_ok-routines.ensures,
      c.in_ok-begin.ensures.read,
      c.in_err-statements.ensures ne,
    ) refl)

pub block-returns-then-depth-eq0 : goal.block-returns-then-depth-eq0
unfolding program.read_block
block-returns-then-depth-eq0 t c = rw (c.if-depth-eq0.true, c.refusal.ensures.left) (λ ne. refl)

pub function_routine-returns-in_err-name : goal.function_routine-returns-in_err-name
unfolding program.function_routine
function_routine-returns-in_err-name t c = refused _ _ _ _ c.from_residual.ensures.1
    (λ ne. rw (c.in_err-name.ensures.read ne) refl)

pub function_routine-returns-in_err-block : goal.function_routine-returns-in_err-block
unfolding program.function_routine eat
function_routine-returns-in_err-block t c = refused _ _ _ _ c.from_residual-in_err-block.ensures.1
    (λ ne. rw (
      c.in_ok-name.ensures.read,
      sym c.eat.ensures.found
          ∙ c.if-eat.true,
      ← c.eat.ensures.after,
      c.in_err-block.ensures ne,
    ) refl)

pub function_routine-returns-then-eat : goal.function_routine-returns-then-eat
unfolding program.function_routine eat
function_routine-returns-then-eat t c = rw
    (c.in_ok-name.ensures.read, sym c.eat.ensures.found ∙ c.if-eat.true, ← c.eat.ensures.after, c.in_ok-block.ensures)
    refl

pub function_routine-returns-in_err-heading : goal.function_routine-returns-in_err-heading
unfolding program.function_routine eat
function_routine-returns-in_err-heading t c = refused _ _ _ _ c.from_residual-in_err-heading.ensures.1
    (λ ne. elim (c.in_err-heading.ensures.err ne) [
      | inl e ↦ rw (
        c.in_ok-name.ensures.read,
        sym c.eat.ensures.found
            ∙ c.if-eat.false,
        ← c.eat.ensures.after,
        was_refused _ _ _ _ c.function_named-read.ensures (λ _. e) ne,
      ) refl
      | inr s
          ↦ rw (
            c.in_ok-name.ensures.read,
            sym c.eat.ensures.found
                ∙ c.if-eat.false,
            ← c.eat.ensures.after,
            was_read _ _ _ _ c.function_named-read.ensures s.1,
            s.2,
          ) refl
    ])

pub function_routine-returns : goal.function_routine-returns
unfolding program.function_routine eat
function_routine-returns t c = rw (
  c.in_ok-name.ensures.read,
  sym c.eat.ensures.found
      ∙ c.if-eat.false,
  ← c.eat.ensures.after,
  was_read _ _ _ _ c.function_named-read.ensures
      c.in_ok-heading.ensures.ok.0,
  c.in_ok-heading.ensures.ok.2,
) c.after_heading.ensures

pub procedure_routine-returns-in_err-heading : goal.procedure_routine-returns-in_err-heading
unfolding program.procedure_routine
procedure_routine-returns-in_err-heading t c = refused _ _ _ _ c.from_residual.ensures.1
    (λ ne. elim (c.in_err-heading.ensures.err ne) [
      | inl e ↦ rw (was_refused _ _ _ _ c.procedure-read.ensures (λ _. e) ne) refl
      | inr s ↦ rw
          (was_read _ _ _ _ c.procedure-read.ensures s.1, s.2) refl
    ])

pub procedure_routine-returns : goal.procedure_routine-returns
unfolding program.procedure_routine
procedure_routine-returns t c = rw (
  was_read _ _ _ _ c.procedure-read.ensures c.in_ok-heading.ensures.ok.0,
  c.in_ok-heading.ensures.ok.2,
) c.after_heading.ensures

pub routine-returns-in_err-routine : goal.routine-returns-in_err-routine
unfolding program.routine
routine-returns-in_err-routine t c = refused _ _ _ _ c.from_residual.ensures.1
    (λ ne. rw (c.in_err-routine.ensures ne) refl)

pub routine-returns : goal.routine-returns
unfolding program.routine
routine-returns t c = rw (c.in_ok-routine.ensures, c.and.ensures) (closed _ _ _ _ c.expect-end.ensures.read)

pub routine_head-returns-in_default : goal.routine_head-returns-in_default
unfolding program.routine_head
routine_head-returns-in_default t c = rw (sym c.peek.ensures ∙ c.in_default.is, c.refusal.ensures.left) (λ ne. refl)

pub routine_head-returns-in-Procedure : goal.routine_head-returns-in-Procedure
unfolding program.routine_head
routine_head-returns-in-Procedure t c = rw
    (← c.in-Some.ensures, c.in-Procedure.is, ← c.skip.ensures.after) c.procedure_routine.ensures

pub routine_head-returns-in-Function : goal.routine_head-returns-in-Function
unfolding program.routine_head
routine_head-returns-in-Function t c = rw (← c.in-Some.ensures, c.in-Function.is, ← c.skip-in-Function.ensures.after)
    c.function_routine.ensures

pub after_heading-returns-in_err-heading-in-None : goal.after_heading-returns-in_err-heading-in-None
unfolding program.after_heading
after_heading-returns-in_err-heading-in-None t c = refused _ _ _ _ c.from_residual.ensures.1
    (λ ne. rw (
      c.in-None.ensures.read,
      was_refused _ _ _ _ c.block.ensures
          (λ _. c.in_err-heading-in-None.ensures.err) ne,
    ) refl)

pub after_heading-returns-in_ok-heading-in-None : goal.after_heading-returns-in_ok-heading-in-None
unfolding program.after_heading
after_heading-returns-in_ok-heading-in-None t c = rw (
  c.in-None.ensures.read,
  was_read _ _ _ _ c.block.ensures c.in_ok-heading-in-None.ensures.second,
  c.in_ok-heading-in-None.ensures.first,
) refl
