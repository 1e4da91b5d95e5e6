use Rattle.std.proofs.Common.{◌≡◌, ◌∷◌, [], ◌++◌, OnOk, refl, subst, arith}
use Rattle.ps_tree.specs.View.{arguments_of}
use Rattle.tac_code.specs.declared.code.Instruction.TheVariants as i
use Rattle.ps_lower_code.specs.Scopes.{beside, formal_code}
use Rattle.ps_lower_code.specs.Values.{arguments_code, arguments_words}
use Rattle.ps_lower.specs.Levels.{scope_of}
use Rattle.ps_lower.proofs.Weighing.{arguments_far}
use Rattle.ps_lower.proofs.Handing.{link_at, call_formal_made}
use Rattle.ps_lower.proofs.procedures.call_formal_procedure.Goals as goal

pub returns : goal.returns
returns c =
    subst (λ n. OnOk c.call_formal.result (c.call_formal.new.out ≡ c.args.out.now
    ++ ((arguments_code (scope_of c.args.level.now) (arguments_of c.args.actual.now) c.args.d 0 ++ formal_code
    (scope_of c.args.level.now) (link_at (arguments_of c.args.actual.now) c.args.d) c.args.up c.args.index)
    ++ i.CallValue n (link_at (arguments_of c.args.actual.now) c.args.d)
    (beside (link_at (arguments_of c.args.actual.now) c.args.d) ∷ arguments_words
    (arguments_of c.args.actual.now) c.args.d) c.args.line.number ∷ []))) c.link_temporary-t.ensures.value
    (call_formal_made (scope_of c.args.level.now) c.args.actual.now c.args.actual.now c.args.up c.args.index
    c.args.line.number
    c.args.d 0 c.link_temporary-t.result c.call_formal.result c.call_formal.new.out c.arguments.new.out
    c.args.out.now refl c.in_ok-arguments.ensures c.call_formal.ensures)

pub link_temporary-t-requires : goal.link_temporary-t-requires
link_temporary-t-requires c =
    let a = arguments_far (scope_of c.args.level.now) (arguments_of c.args.actual.now) c.args.d in
    let r = c.requires in
    omega (arith, a, r)

pub call_formal-requires-clause-depth : goal.call_formal-requires-clause-depth
call_formal-requires-clause-depth c =
    let a = arguments_far (scope_of c.args.level.now) (arguments_of c.args.actual.now) c.args.d in
    let r = c.requires in
    omega (arith, a, r)
