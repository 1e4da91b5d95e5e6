use Rattle.std.proofs.Common.{◌≡◌, ◌+◌, [], ◌∷◌, ◌++◌, length, rules, arith}
use Rattle.std.proofs.lemmas.Grind.{common_steps}
use Rattle.risc_word.specs.declared.instr.Condition.TheVariants as on
use Rattle.risc_emit_forms.specs.Pieces as piece
use Rattle.risc_emit_forms.specs.Forms as form
use Rattle.risc_emit.specs.Frames.{context_of}
use Rattle.risc_emit.proofs.Parts.{divided}
use Rattle.risc_emit.proofs.arithmetic.division.put_divide_by_any.Goals as goal

pub returns : goal.returns
returns c =
    let k = context_of c.args.frame.now in
    let r = c.args.frame.now.number in
    let tested : c.all.new.self ≡ c.put_divisor.new.pieces
    ++ (piece.Fails on.Equal 2 c.args.line ∷ form.skip on.Minus (length (form.quotient k r c.args.operands.left) + 1) ∷
    []) = first_of (search rules, grind (arith, common_steps)) in
    let passed : c.plain.new.self ≡ c.put_quotient.new.pieces
    ++ (form.skip on.Always (length (form.quotient_by_negative k r c.args.operands.left c.args.error c.args.line)) ∷ [])
    = first_of (search rules, grind (arith, common_steps)) in
    divided k r c.args.operands.to c.args.operands.left c.args.operands.right c.args.error c.args.line c.receive.result
    c.args.pieces.now c.put_divisor.new.pieces c.all.new.self c.put_quotient.new.pieces c.plain.new.self
    c.put_quotient_by_negative.new.pieces c.receive.new.pieces c.requires c.in_ok-put_divisor.ensures tested
    c.in_ok-put_quotient.ensures passed c.in_ok-put_quotient_by_negative.ensures c.receive.ensures
