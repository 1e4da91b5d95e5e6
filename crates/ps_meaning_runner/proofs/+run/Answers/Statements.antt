-- The answers of statements, their choices and what is packed.

use Rattle.std.proofs.Common.{◌≡◌, ◌-◌, max, ◌∙◌, refl, ap, sym, map, true, ◌∷◌, arith, rules}
use Rattle.ps_tree.specs.Tree as Tree
use Rattle.ps_tree.specs.View.{expr_of, elements_of, statements_of, statement_of, place_of, type_of}
use Rattle.ps_meaning.specs.Expressions.{value}
use Rattle.ps_meaning.specs.Statements.{with_opened}
use Rattle.ps_meaning.specs.Worlds as m
use Rattle.ps_meaning_runner.specs.Heights.{place_height, statement_height, statements_height, places_height}
use Rattle.ps_meaning_runner.specs.Runs.{Halted, levels}
use Rattle.ps_meaning_runner.proofs.Heights.{statement_is_high}
use Rattle.ps_meaning_runner.proofs.Acts as a
use Rattle.ps_meaning_runner.proofs.Repetitions as repeating
use Rattle.ps_meaning_runner.proofs.Arms as arm
use Rattle.ps_meaning_runner.specs.View.{value_of, spot_of}
use Rattle.ps_meaning_runner.specs.Worlds.{context_of, world_of, acting, acting_all, opening_all, opened_in}
use Rattle.ps_meaning_runner.proofs.Answers.{handed_on, halted_alone, halted_left, halted_right, halted_middle}
use Rattle.ps_meaning_runner.proofs.Answers.{halted_last, answers_run, runs_deeper}
use Rattle.ps_meaning_runner.proofs.Answers.{stopped_halts_then}
use Rattle.ps_meaning_runner.proofs.Tested as tested
use mir.Val.{SFits, to_z, of_z}
use Rattle.std.proofs.Math.Facts.{to_z-of_z}
use mir.Syntax.{w32}
use Rattle.ps_meaning_runner.proofs.+run.Goals as goal

pub act-returns-then-here-eq0 : goal.statements::act-returns-then-here-eq0
act-returns-then-here-eq0 t c = statement_is_high
    (statement_of c.args.statement.now) c.args.here.depth _ c.if-here-eq0.true

pub act-returns-in-Case : goal.statements::act-returns-in-Case
act-returns-in-Case t c = a.case_runs c.args.here.setup.now c.args.here.fuel
    (context_of c.args.here.context.now) (world_of c.args.world.now) c.args.statement.now _ _ _ _ c.choose.result
    c.choose.new.world c.args.here.depth c.in-Case.is c.deref-in-Case.ensures.value c.choose.ensures

pub act-returns-in-Repeat : goal.statements::act-returns-in-Repeat
act-returns-in-Repeat t c = repeating.repeat_runs c.args.here.setup.now c.args.here.fuel
    (context_of c.args.here.context.now) (world_of c.args.world.now) c.args.statement.now _ _ _ c.repeat_until.result
    c.repeat_until.new.world c.args.here.depth c.in-Repeat.is c.deref-in-Repeat.ensures.value c.repeat_until.ensures

pub act_all-returns-in_err-act : goal.statements::act_all-returns-in_err-act
act_all-returns-in_err-act t c =
    let h : Halted (acting_all c.args.here.setup.now c.args.here.fuel (statements_of c.args.statements.now)
    (context_of c.args.here.context.now) (world_of c.args.world.now)) c.args.here.depth
    (levels c.args.here.setup.now c.args.here.fuel (statements_height (statements_of c.args.statements.now)))
    c.in_err-act.field-0.0 c.act.new.world = a.acts_halt c.args.here.setup.now c.args.here.fuel
    (context_of c.args.here.context.now) c.args.statements.now c.loop-statement.statement-index
    c.statement-item.result _ (world_of c.loop-statement.world) c.act.new.world _ c.args.here.depth
    c.loop-statement.invariant c.in_err-act.ensures c.statement-item.is c.loop-statement-test.true in
    handed_on _ _ _ _ _ _ _ c.from_residual.ensures.1 h

pub choose-returns-in-Some : goal.choices::choose-returns-in-Some
choose-returns-in-Some t c = a.case_chosen c.args.here.setup.now c.args.here.fuel (expr_of c.args.index.now)
    (elements_of c.args.elements.now) c.args.line (context_of c.args.here.context.now) (value_of c.in_ok-x.x)
    (statement_of c.in-Some.body.now) (world_of c.args.world.now)
    (world_of c.evaluate.new.world) c.act.result c.act.new.world c.args.here.depth c.in_ok-x.ensures
    (c.in-Some.ensures.chosen c.args.here.setup.now c.args.here.fuel c.args.line (context_of c.args.here.context.now)
    (world_of c.evaluate.new.world)) c.in-Some.ensures.within c.act.ensures

pub choose-returns : goal.choices::choose-returns
choose-returns t c = a.case_none c.args.here.setup.now c.args.here.fuel (expr_of c.args.index.now)
    (elements_of c.args.elements.now) c.args.line (context_of c.args.here.context.now) (value_of c.in_ok-x.x)
    (world_of c.args.world.now) c.evaluate.new.world c.fault.result c.args.here.depth _ c.in_ok-x.ensures
    (c.in-None.ensures.chosen c.args.here.setup.now c.args.here.fuel c.args.line (context_of c.args.here.context.now)
    (world_of c.evaluate.new.world)) c.fault.ensures

pub act_with-returns-in_err-spot : goal.statements::act_with-returns-in_err-spot
act_with-returns-in_err-spot t c =
    let h : Halted (acting c.args.here.setup.now c.args.here.fuel
    (Tree.With (map place_of c.args.places.now) (statement_of c.args.body.now)) (context_of c.args.here.context.now)
    (world_of c.args.world.now)) c.args.here.depth
    (levels c.args.here.setup.now c.args.here.fuel
    (max (places_height (map place_of c.args.places.now)) (statement_height (statement_of c.args.body.now))))
    c.in_err-spot.field-0.0 c.access.new.world = a.with_halt c.args.here.setup.now c.args.here.fuel
    (statement_of c.args.body.now) (context_of c.args.here.context.now)
    (context_of c.loop-place.inner) c.args.places.now c.loop-place.place-index c.place-item.result _
    (world_of c.args.world.now) (world_of c.loop-place.world) c.access.new.world c.args.here.depth
    c.loop-place.invariant.rest c.in_err-spot.ensures c.place-item.is c.loop-place-test.true in
    handed_on _ _ _ _ _ _ _ c.from_residual-in_err-spot.ensures.1 h

pub act_with-loop-place-preserved : goal.statements::act_with-loop-place-preserved
act_with-loop-place-preserved t c =
    record {
      rest = a.opening_next c.args.here.setup.now c.args.here.fuel (context_of c.loop-place.inner)
          (context_of c.open.new.self) c.args.places.now c.loop-place.place-index c.place-item.result
          (spot_of c.in_ok-spot.spot) (world_of c.loop-place.world)
          (world_of c.access.new.world) _ c.loop-place.invariant.rest c.in_ok-spot.ensures c.in_ok-open.ensures
          c.place-item.is c.loop-place-test.true;
      kept = c.in_ok-open.ensures ∙ ap (λ (k : m.Context). with_opened
          (spot_of c.in_ok-spot.spot ∷ opened_in c.loop-place.inner) k) c.loop-place.invariant.kept
          ∙ ap (λ (k : m.Context). with_opened k.opened (context_of c.args.here.context.now))
          (sym c.in_ok-open.ensures);
    }

pub act_with-returns : goal.statements::act_with-returns
act_with-returns t c =
    let opened : opening_all c.args.here.setup.now c.args.here.fuel (map place_of c.args.places.now)
    (context_of c.args.here.context.now) (world_of c.args.world.now) ≡ m.Gives (opened_in c.loop-place.inner)
    (world_of c.loop-place.world) = a.opening_end c.args.here.setup.now c.args.here.fuel
    (context_of c.loop-place.inner) c.args.places.now c.loop-place.place-index
    (world_of c.loop-place.world) _ c.loop-place.invariant.rest (omega arith) in
    a.with_runs c.args.here.setup.now c.args.here.fuel (map place_of c.args.places.now) (statement_of c.args.body.now)
    (context_of c.args.here.context.now) (context_of c.loop-place.inner) (opened_in c.loop-place.inner)
    (world_of c.args.world.now) (world_of c.loop-place.world) c.act.result c.act.new.world c.args.here.depth opened
    c.loop-place.invariant.kept c.act.ensures

pub act-returns-in-Assign : goal.statements::act-returns-in-Assign
act-returns-in-Assign t c = arm.statement_runs c.args.here.setup.now c.args.here.fuel
    (context_of c.args.here.context.now) (world_of c.args.world.now) c.args.statement.now _ _ c.assign.result
    c.assign.new.world c.args.here.depth (arm.assign_is _ _ _ _ _ c.in-Assign.is) refl c.assign.ensures

pub act-returns-in-AssignStructure : goal.statements::act-returns-in-AssignStructure
act-returns-in-AssignStructure t c = arm.statement_runs c.args.here.setup.now c.args.here.fuel
    (context_of c.args.here.context.now) (world_of c.args.world.now) c.args.statement.now _ _ c.assign_structure.result
    c.assign_structure.new.world c.args.here.depth
    (arm.assign_structure_is _ _ _ c.in-AssignStructure.is) refl c.assign_structure.ensures

pub act-returns-in-Call : goal.statements::act-returns-in-Call
act-returns-in-Call t c = arm.statement_runs c.args.here.setup.now c.args.here.fuel
    (context_of c.args.here.context.now) (world_of c.args.world.now) c.args.statement.now _ _ c.call_procedure.result
    c.call_procedure.new.world c.args.here.depth
    (arm.call_is _ _ _ _ _ _ c.in-Call.is c.deref.ensures.value) refl c.call_procedure.ensures

pub act-returns-in-CallFormal : goal.statements::act-returns-in-CallFormal
act-returns-in-CallFormal t c = arm.statement_runs c.args.here.setup.now c.args.here.fuel
    (context_of c.args.here.context.now) (world_of c.args.world.now) c.args.statement.now _ _
    c.call_procedure-in-CallFormal.result c.call_procedure-in-CallFormal.new.world c.args.here.depth
    (arm.call_formal_is _ _ _ _ _ _ c.in-CallFormal.is c.deref-in-CallFormal.ensures.value) refl
    c.call_procedure-in-CallFormal.ensures

pub act-returns-in-Compound : goal.statements::act-returns-in-Compound
act-returns-in-Compound t c = arm.statement_runs c.args.here.setup.now c.args.here.fuel
    (context_of c.args.here.context.now) (world_of c.args.world.now) c.args.statement.now _ _ c.act_all.result
    c.act_all.new.world c.args.here.depth (arm.compound_is _ _ _ c.in-Compound.is c.deref-in-Compound.ensures.value)
    refl c.act_all.ensures

pub act-returns-in-If : goal.statements::act-returns-in-If
act-returns-in-If t c = arm.statement_runs c.args.here.setup.now c.args.here.fuel
    (context_of c.args.here.context.now) (world_of c.args.world.now) c.args.statement.now _ _ c.act_if.result
    c.act_if.new.world c.args.here.depth (arm.if_is _ _ _ _ c.in-If.is c.deref-in-If.ensures) refl c.act_if.ensures

pub act-returns-in-IfElse : goal.statements::act-returns-in-IfElse
act-returns-in-IfElse t c = arm.statement_runs c.args.here.setup.now c.args.here.fuel
    (context_of c.args.here.context.now) (world_of c.args.world.now) c.args.statement.now _ _ c.act_if_else.result
    c.act_if_else.new.world c.args.here.depth
    (arm.if_else_is _ _ _ _ _ _ c.in-IfElse.is c.deref-in-IfElse.ensures c.deref-in-IfElse-2.ensures) refl
    c.act_if_else.ensures

pub act-returns-in-While : goal.statements::act-returns-in-While
act-returns-in-While t c = arm.statement_runs c.args.here.setup.now c.args.here.fuel
    (context_of c.args.here.context.now) (world_of c.args.world.now) c.args.statement.now _ _ c.repeat_while.result
    c.repeat_while.new.world c.args.here.depth
    (arm.while_is _ _ _ _ c.in-While.is c.deref-in-While.ensures) refl c.repeat_while.ensures

pub act-returns-in-With : goal.statements::act-returns-in-With
act-returns-in-With t c = arm.statement_runs c.args.here.setup.now c.args.here.fuel
    (context_of c.args.here.context.now) (world_of c.args.world.now) c.args.statement.now _ _ c.act_with.result
    c.act_with.new.world c.args.here.depth (arm.with_is _ _ _ _ _ c.in-With.is c.deref-in-With.ensures.value
    c.deref-in-With-2.ensures) refl c.act_with.ensures

pub act-returns-in_err-spot-in-New : goal.statements::act-returns-in_err-spot-in-New
act-returns-in_err-spot-in-New t c = arm.statement_runs c.args.here.setup.now c.args.here.fuel
    (context_of c.args.here.context.now) (world_of c.args.world.now) c.args.statement.now _ _ _ _ c.args.here.depth
    (arm.new_is _ _ _ _ c.in-New.is) refl (handed_on _ _ _ _ _ _ _ c.from_residual.ensures.1
    (halted_alone c.args.here.setup.now c.args.here.fuel _ _ _ _ _ _ c.in_err-spot-in-New.ensures))

pub act-returns-in_ok-spot-in-New : goal.statements::act-returns-in_ok-spot-in-New
act-returns-in_ok-spot-in-New t c = arm.statement_runs c.args.here.setup.now c.args.here.fuel
    (context_of c.args.here.context.now) (world_of c.args.world.now) c.args.statement.now _ _ c.put_object.result
    c.put_object.new.self c.args.here.depth (arm.new_is _ _ _ _ c.in-New.is) refl
    (a.new_runs c.args.here.setup.now c.args.here.fuel (place_of c.in-New.place) _ _
    (context_of c.args.here.context.now) (spot_of c.in_ok-spot-in-New.spot) (world_of c.args.world.now)
    (world_of c.access.new.world) c.put_object.result c.put_object.new.self (c.args.here.depth - 1)
    (levels c.args.here.setup.now c.args.here.fuel (place_height (place_of c.in-New.place))) c.in_ok-spot-in-New.ensures
    (c.put_object.ensures c.args.here.fuel))

pub act-returns-in-Pack : goal.statements::act-returns-in-Pack
act-returns-in-Pack t c = arm.statement_runs c.args.here.setup.now c.args.here.fuel
    (context_of c.args.here.context.now) (world_of c.args.world.now) c.args.statement.now _ _ c.pack.result
    c.pack.new.world c.args.here.depth (arm.pack_is _ _ _ _ _ _ _ _ _ _ _ c.in-Pack.is c.deref-in-Pack.ensures
    c.deref-in-Pack-2.ensures c.deref-in-Pack-3.ensures c.deref-in-Pack-4.ensures) refl c.pack.ensures

pub act-returns-in-Unpack : goal.statements::act-returns-in-Unpack
act-returns-in-Unpack t c = arm.statement_runs c.args.here.setup.now c.args.here.fuel
    (context_of c.args.here.context.now) (world_of c.args.world.now) c.args.statement.now _ _ c.unpack.result
    c.unpack.new.world c.args.here.depth (arm.unpack_is _ _ _ _ _ _ _ _ _ _ _ c.in-Unpack.is c.deref-in-Unpack.ensures
    c.deref-in-Unpack-2.ensures c.deref-in-Unpack-3.ensures c.deref-in-Unpack-4.ensures) refl c.unpack.ensures

pub act-returns-in-Read : goal.statements::act-returns-in-Read
act-returns-in-Read t c = arm.statement_runs c.args.here.setup.now c.args.here.fuel
    (context_of c.args.here.context.now) (world_of c.args.world.now) c.args.statement.now _ _ c.read_all.result
    c.read_all.new.world c.args.here.depth (arm.read_is _ _ _ c.in-Read.is c.deref-in-Read.ensures.value) refl
    c.read_all.ensures

pub act-returns-in-Write : goal.statements::act-returns-in-Write
act-returns-in-Write t c = arm.statement_runs c.args.here.setup.now c.args.here.fuel
    (context_of c.args.here.context.now) (world_of c.args.world.now) c.args.statement.now _ _ c.write_all.result
    c.write_all.new.world c.args.here.depth (arm.write_is _ _ _ c.in-Write.is c.deref-in-Write.ensures.value) refl
    c.write_all.ensures

pub act_if-returns-in_err-x : goal.choices::act_if-returns-in_err-x
act_if-returns-in_err-x t c = handed_on _ _ _ _ _ _ _ c.from_residual.ensures.1
    (halted_left c.args.here.setup.now c.args.here.fuel _ _ _ _ _ _ _ c.in_err-x.ensures)

pub act_if_else-returns-in_err-x : goal.choices::act_if_else-returns-in_err-x
act_if_else-returns-in_err-x t c = handed_on _ _ _ _ _ _ _ c.from_residual.ensures.1
    (halted_left c.args.here.setup.now c.args.here.fuel _ _ _ _ _ _ _ c.in_err-x.ensures)

pub choose-returns-in_err-x : goal.choices::choose-returns-in_err-x
choose-returns-in_err-x t c = handed_on _ _ _ _ _ _ _ c.from_residual.ensures.1
    (halted_left c.args.here.setup.now c.args.here.fuel _ _ _ _ _ _ _ c.in_err-x.ensures)

pub act-returns-in-AssignSet : goal.statements::act-returns-in-AssignSet
unfolding statement_of
act-returns-in-AssignSet t c = grind (arith, runs_deeper)

pub act-returns-in_err-read_all-in-Readln : goal.statements::act-returns-in_err-read_all-in-Readln
act-returns-in_err-read_all-in-Readln t c = arm.statement_runs c.args.here.setup.now c.args.here.fuel
    (context_of c.args.here.context.now) (world_of c.args.world.now) c.args.statement.now _ _ _ _ c.args.here.depth
    (arm.readln_is _ _ _ _ c.in-Readln.is c.deref-in-Readln.ensures.value) refl
    (handed_on _ _ _ _ _ _ _ c.from_residual-in_err-read_all-in-Readln.ensures.1
    (halted_alone c.args.here.setup.now c.args.here.fuel _ _ _ _ _ _ c.in_err-read_all-in-Readln.ensures))

pub act-returns-in_err-write_all-in-Writeln : goal.statements::act-returns-in_err-write_all-in-Writeln
act-returns-in_err-write_all-in-Writeln t c = arm.statement_runs c.args.here.setup.now c.args.here.fuel
    (context_of c.args.here.context.now) (world_of c.args.world.now) c.args.statement.now _ _ _ _ c.args.here.depth
    (arm.writeln_is _ _ _ c.in-Writeln.is c.deref-in-Writeln.ensures.value) refl
    (handed_on _ _ _ _ _ _ _ c.from_residual-in_err-write_all-in-Writeln.ensures.1
    (halted_alone c.args.here.setup.now c.args.here.fuel _ _ _ _ _ _ c.in_err-write_all-in-Writeln.ensures))

pub act-returns-in_ok-read_all-in-Readln : goal.statements::act-returns-in_ok-read_all-in-Readln
act-returns-in_ok-read_all-in-Readln t c = arm.statement_runs c.args.here.setup.now c.args.here.fuel
    (context_of c.args.here.context.now) (world_of c.args.world.now) c.args.statement.now _ _ _ _ c.args.here.depth
    (arm.readln_is _ _ _ _ c.in-Readln.is c.deref-in-Readln.ensures.value) refl
    (a.then_runs _ _ _ _ _ _ _ _ _ c.in_ok-read_all-in-Readln.ensures c.line_taken.ensures)

pub act-returns-in_ok-write_all-in-Writeln : goal.statements::act-returns-in_ok-write_all-in-Writeln
unfolding statement_of
act-returns-in_ok-write_all-in-Writeln t c = grind (arith, answers_run)

pub assign-returns-in_err-spot : goal.statements::assign-returns-in_err-spot
assign-returns-in_err-spot t c = handed_on _ _ _ _ _ _ _ c.from_residual.ensures.1
    (halted_left c.args.here.setup.now c.args.here.fuel _ _ _ _ _ _ _ c.in_err-spot.ensures)

pub assign-returns-in_err-x : goal.statements::assign-returns-in_err-x
assign-returns-in_err-x t c = a.then_ran _ _ _ _ _ _ _ _ _ c.in_ok-spot.ensures
    (handed_on _ _ _ _ _ _ _ c.from_residual-in_err-x.ensures.1
    (halted_right c.args.here.setup.now c.args.here.fuel _ _ _ _ _ _ _ c.in_err-x.ensures))

pub assign-returns : goal.statements::assign-returns
assign-returns t c = a.then_ran _ _ _ _ _ _ _ _ _ c.in_ok-spot.ensures
    (a.then_runs _ _ _ _ _ _ _ _ _ c.in_ok-x.ensures c.put_fitting.ensures)

pub assign_set-returns-in_err-spot : goal.statements::assign_set-returns-in_err-spot
assign_set-returns-in_err-spot t c = handed_on _ _ _ _ _ _ _ c.from_residual.ensures.1
    (halted_left c.args.here.setup.now c.args.here.fuel _ _ _ _ _ _ _ c.in_err-spot.ensures)

pub assign_set-returns-in_err-x : goal.statements::assign_set-returns-in_err-x
assign_set-returns-in_err-x t c = a.then_ran _ _ _ _ _ _ _ _ _ c.in_ok-spot.ensures
    (handed_on _ _ _ _ _ _ _ c.from_residual-in_err-x.ensures.1
    (halted_right c.args.here.setup.now c.args.here.fuel _ _ _ _ _ _ _ c.in_err-x.ensures))

pub assign_structure-returns-in_err-spot : goal.statements::assign_structure-returns-in_err-spot
assign_structure-returns-in_err-spot t c = handed_on _ _ _ _ _ _ _ c.from_residual.ensures.1
    (halted_left c.args.here.setup.now c.args.here.fuel _ _ _ _ _ _ _ c.in_err-spot.ensures)

pub assign_structure-returns-in_err-held : goal.statements::assign_structure-returns-in_err-held
assign_structure-returns-in_err-held t c = a.then_ran _ _ _ _ _ _ _ _ _ c.in_ok-spot.ensures
    (handed_on _ _ _ _ _ _ _ c.from_residual-in_err-held.ensures.1
    (halted_right c.args.here.setup.now c.args.here.fuel _ _ _ _ _ _ _ c.in_err-held.ensures))

pub assign_structure-returns : goal.statements::assign_structure-returns
assign_structure-returns t c = a.then_ran _ _ _ _ _ _ _ _ _ c.in_ok-spot.ensures
    (a.then_runs _ _ _ _ _ _ _ _ _ c.in_ok-held.ensures c.put_contents.ensures)

pub pack-returns-in_err-a : goal.statements::pack-returns-in_err-a
pack-returns-in_err-a t c = handed_on _ _ _ _ _ _ _ c.from_residual.ensures.1
    (halted_left c.args.here.setup.now c.args.here.fuel _ _ _ _ _ _ _ c.in_err-a.ensures)

pub pack-returns-in_err-evaluate : goal.statements::pack-returns-in_err-evaluate
pack-returns-in_err-evaluate t c = a.then_ran _ _ _ _ _ _ _ _ _ c.in_ok-a.ensures
    (handed_on _ _ _ _ _ _ _ c.from_residual-in_err-evaluate.ensures.1
    (halted_middle c.args.here.setup.now c.args.here.fuel _ _ _ _ _ _ _ _ c.in_err-evaluate.ensures))

pub unpack-returns-in_err-z : goal.statements::unpack-returns-in_err-z
unpack-returns-in_err-z t c = handed_on _ _ _ _ _ _ _ c.from_residual.ensures.1
    (halted_left c.args.here.setup.now c.args.here.fuel _ _ _ _ _ _ _ c.in_err-z.ensures)

pub unpack-returns-in_err-a : goal.statements::unpack-returns-in_err-a
unpack-returns-in_err-a t c = a.then_ran _ _ _ _ _ _ _ _ _ c.in_ok-z.ensures
    (handed_on _ _ _ _ _ _ _ c.from_residual-in_err-a.ensures.1
    (halted_middle c.args.here.setup.now c.args.here.fuel _ _ _ _ _ _ _ _ c.in_err-a.ensures))

pub unpack-returns-in_err-evaluate : goal.statements::unpack-returns-in_err-evaluate
unpack-returns-in_err-evaluate t c = a.then_ran _ _ _ _ _ _ _ _ _ c.in_ok-z.ensures
    (a.then_ran _ _ _ _ _ _ _ _ _ c.in_ok-a.ensures
    (handed_on _ _ _ _ _ _ _ c.from_residual-in_err-evaluate.ensures.1
    (halted_last c.args.here.setup.now c.args.here.fuel _ _ _ _ _ _ _ _ c.in_err-evaluate.ensures)))

pub pack-returns-in_err-k : goal.statements::pack-returns-in_err-k
pack-returns-in_err-k t c =
    let fits : SFits w32 c.number-x.result = search rules in
    a.then_ran _ _ _ _ _ _ _ _ _ c.in_ok-a.ensures
    (a.then_ran _ _ _ _ _ _ _ _ _ c.in_ok-evaluate.ensures
    (handed_on _ _ _ _ _ _ _ c.from_residual-in_err-k.ensures.1 (stopped_halts_then _ _ _ _ _ _
    (tested.place_stops (type_of c.args.from.ty.now) (value_of c.in_ok-evaluate.field-0)
    c.index_of.result (to_z w32 (of_z w32 c.number-x.result)) c.args.line (context_of c.args.here.context.now)
    (world_of c.evaluate.new.world) _ _ c.in_err-k.ensures c.index_of.ensures (to_z-of_z fits ∙ c.number-x.ensures)))))

pub pack-returns : goal.statements::pack-returns
pack-returns t c =
    let fits : SFits w32 c.number-x.result = search rules in
    a.then_ran _ _ _ _ _ _ _ _ _ c.in_ok-a.ensures
    (a.then_ran _ _ _ _ _ _ _ _ _ c.in_ok-evaluate.ensures (a.then_ran _ _ _ _ _ _ _ _ _
    (tested.place_gives (type_of c.args.from.ty.now) (value_of c.in_ok-evaluate.field-0)
    c.index_of.result (to_z w32 (of_z w32 c.number-x.result)) c.args.line (context_of c.args.here.context.now)
    (world_of c.evaluate.new.world) _ c.in_ok-k.ensures c.index_of.ensures (to_z-of_z fits ∙ c.number-x.ensures))
    (a.then_runs _ _ _ _ _ _ _ _ _ c.in_ok-z.ensures
    (tested.packs (spot_of c.in_ok-a.a) (spot_of c.in_ok-z.z) (type_of c.args.from.ty.now) (type_of c.args.to.ty.now)
    c.index_of-2.result c.index_of-3.result c.in_ok-k.k c.args.line (context_of c.args.here.context.now)
    (world_of c.access-2.new.world) _ _ c.index_of-2.ensures c.index_of-3.ensures c.pack.ensures))))

pub unpack-returns-in_err-k : goal.statements::unpack-returns-in_err-k
unpack-returns-in_err-k t c =
    let fits : SFits w32 c.number-x.result = search rules in
    a.then_ran _ _ _ _ _ _ _ _ _ c.in_ok-z.ensures
    (a.then_ran _ _ _ _ _ _ _ _ _ c.in_ok-a.ensures (a.then_ran _ _ _ _ _ _ _ _ _ c.in_ok-evaluate.ensures
    (handed_on _ _ _ _ _ _ _ c.from_residual-in_err-k.ensures.1 (stopped_halts_then _ _ _ _ _ _
    (tested.place_stops (type_of c.args.to.ty.now) (value_of c.in_ok-evaluate.field-0)
    c.index_of.result (to_z w32 (of_z w32 c.number-x.result)) c.args.line (context_of c.args.here.context.now)
    (world_of c.evaluate.new.world) _ _ c.in_err-k.ensures c.index_of.ensures (to_z-of_z fits ∙ c.number-x.ensures))))))

pub unpack-returns : goal.statements::unpack-returns
unpack-returns t c =
    let fits : SFits w32 c.number-x.result = search rules in
    a.then_ran _ _ _ _ _ _ _ _ _ c.in_ok-z.ensures
    (a.then_ran _ _ _ _ _ _ _ _ _ c.in_ok-a.ensures (a.then_ran _ _ _ _ _ _ _ _ _ c.in_ok-evaluate.ensures
    (a.then_runs _ _ _ _ _ _ _ _ _
    (tested.place_gives (type_of c.args.to.ty.now) (value_of c.in_ok-evaluate.field-0)
    c.index_of.result (to_z w32 (of_z w32 c.number-x.result)) c.args.line (context_of c.args.here.context.now)
    (world_of c.evaluate.new.world) _ c.in_ok-k.ensures c.index_of.ensures (to_z-of_z fits ∙ c.number-x.ensures))
    (tested.unpacks (spot_of c.in_ok-z.z) (spot_of c.in_ok-a.a) (type_of c.args.from.ty.now)
    (type_of c.args.to.ty.now) c.index_of-2.result c.index_of-3.result c.in_ok-k.k c.args.line
    (context_of c.args.here.context.now) (world_of c.evaluate.new.world) _ _ c.index_of-2.ensures
    c.index_of-3.ensures c.unpack.ensures))))

pub act-returns-in-For : goal.statements::act-returns-in-For
act-returns-in-For t c = arm.statement_runs c.args.here.setup.now c.args.here.fuel
    (context_of c.args.here.context.now) (world_of c.args.world.now) c.args.statement.now _ _ c.count.result
    c.count.new.world c.args.here.depth (arm.for_is _ _ _ _ _ _ _ _ _ _ _ _ _ _ _ _ c.in-For.is c.deref-in-For.ensures
    c.deref-in-For-2.ensures c.deref-in-For-3.ensures (grind arith) (grind arith)) refl c.count.ensures
