use Rattle.std.proofs.Common.{◌≡◌, ◌∙◌, [], sym, ap, subst}
use Rattle.ps_meaning.specs.Worlds as m
use Rattle.ps_meaning.specs.Run as d
use Rattle.ps_meaning_runner.specs.Worlds.{caller, world_of, program_of, costs_in}
use Rattle.ps_meaning_runner.specs.Runs.{Halted, levels}
use Rattle.ps_meaning_runner.proofs.Runs.{answer_is, shown_done, shown_stopped}
use Rattle.ps_meaning_runner.proofs.run.run_on.Goals as goal

pub returns-in-Ok-clause-told : goal.returns-in-Ok-clause-told
returns-in-Ok-clause-told c =
    let is : d.answer (program_of c.args.setup.now) (costs_in c.args.setup.now) c.args.input.now c.args.fuel
    ≡ m.Gives m.done (world_of c.run_setup.new.world) = sym
    (ap (caller c.args.setup.now c.args.fuel 0 m.Outside [] d.first_context) c.first_world-world.ensures
    ∙ answer_is c.args.setup.now c.args.fuel c.args.input.now) ∙ c.in-Ok.ensures in
    shown_done c.run_setup.new.world c.new.result _ is

pub returns-in-Err-Ended-clause-told : goal.returns-in-Err-Ended-clause-told
returns-in-Err-Ended-clause-told c =
    let h : Halted (d.answer (program_of c.args.setup.now) (costs_in c.args.setup.now) c.args.input.now c.args.fuel)
    c.args.depth (levels c.args.setup.now c.args.fuel 0) c.in-Err-Ended.field-0 c.run_setup.new.world = subst
    (λ (a : m.Answer m.Done). Halted a c.args.depth
    (levels c.args.setup.now c.args.fuel 0) c.in-Err-Ended.field-0 c.run_setup.new.world)
    (ap (caller c.args.setup.now c.args.fuel 0 m.Outside [] d.first_context) c.first_world-world.ensures
    ∙ answer_is c.args.setup.now c.args.fuel c.args.input.now) c.in-Err-Ended.ensures in
    shown_stopped c.run_setup.new.world c.in-Err-Ended.ending c.in-Err-Ended.calls c.in-Err-Ended.field-0 _ c.args.depth
    (levels c.args.setup.now c.args.fuel 0) h c.in-Err-Ended.field-0-is
