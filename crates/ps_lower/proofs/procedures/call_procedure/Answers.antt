use Rattle.std.proofs.Common.{◌≡◌, ◌∷◌, [], ◌++◌, OnOk, refl, subst, arith}
use Rattle.ps_tree.specs.View.{arguments_of}
use Rattle.tac_code.specs.declared.code.Instruction.TheVariants as i
use Rattle.ps_lower_code.specs.Scopes.{link_code}
use Rattle.ps_lower_code.specs.Values.{arguments_code, arguments_words}
use Rattle.ps_lower.specs.Levels.{scope_of}
use Rattle.ps_lower.proofs.Weighing.{arguments_far}
use Rattle.ps_lower.proofs.Handing.{link_at, call_made}
use Rattle.ps_lower.proofs.procedures.call_procedure.Goals as goal

pub returns : goal.returns
returns c =
    subst (λ n. OnOk c.call.result (c.call.new.out ≡ c.args.out.now
    ++ ((arguments_code (scope_of c.args.level.now) (arguments_of c.args.actual.now) c.args.d 0 ++ link_code
    (scope_of c.args.level.now) (link_at (arguments_of c.args.actual.now) c.args.d) c.args.up)
    ++ i.Call n c.args.routine (link_at (arguments_of c.args.actual.now) c.args.d ∷ arguments_words
    (arguments_of c.args.actual.now) c.args.d) c.args.line.number ∷ []))) c.link_temporary-t.ensures.value
    (call_made (scope_of c.args.level.now) c.args.actual.now c.args.actual.now c.args.routine c.args.up
    c.args.line.number c.args.d
    0 c.link_temporary-t.result c.call.result c.call.new.out c.arguments.new.out c.args.out.now refl
    c.in_ok-arguments.ensures c.call.ensures)

pub link_temporary-t-requires : goal.link_temporary-t-requires
link_temporary-t-requires c =
    let a = arguments_far (scope_of c.args.level.now) (arguments_of c.args.actual.now) c.args.d in
    let r = c.requires in
    omega (arith, a, r)

pub call-requires : goal.call-requires
call-requires c =
    let a = arguments_far (scope_of c.args.level.now) (arguments_of c.args.actual.now) c.args.d in
    let r = c.requires in
    omega (arith, a, r)
