use Rattle.std.proofs.Common.{◌∷◌, ◌++◌, length, ap, ◌∙◌, arith, length-append}
use Rattle.ps_tree.specs.View.{expr_of}
use Rattle.tac_code.specs.declared.code.Instruction.TheVariants as i
use Rattle.ps_lower.specs.Loops.{first_turn_code, opening_code}
use Rattle.ps_lower.proofs.Appends.{and_then}
use Rattle.ps_lower.proofs.turns.open_turns.Goals as goal

pub returns-clause-code : goal.returns-clause-code
returns-clause-code c =
    and_then c.bounds.new.out c.checks.new.out c.first_turn.new.out _ _
    (and_then c.bounds.new.out c.room.new.self c.checks.new.out _ _ c.in_ok-past.ensures.room
    c.in_ok-checks.ensures) c.in_ok-begin.ensures.code
    ∙ ap (λ o. o ++ i.End ∷ opening_code c.args.control (expr_of c.args.from.now) (expr_of c.args.to.now) c.args.turns)
    c.in_ok-bounds.ensures

pub returns-clause-past : goal.returns-clause-past
returns-clause-past c = c.in_ok-past.ensures.place ∙ ap length c.in_ok-bounds.ensures

pub returns-clause-begin : goal.returns-clause-begin
returns-clause-begin c =
    let p = c.in_ok-begin.ensures.place in
    let e = ap length c.in_ok-begin.ensures.code ∙ length-append c.checks.new.out
    (first_turn_code c.args.control.direction c.args.turns) in
    omega (arith, p, e)
