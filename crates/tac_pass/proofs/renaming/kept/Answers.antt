use Rattle.std.proofs.Common.{IfSome, sym, subst}
use Rattle.tac_code.specs.declared.code.Instruction.{Instruction}
use Rattle.tac_pass.specs.Acts as act
use Rattle.tac_pass.specs.Walk.{IsMade}
use Rattle.tac_pass.proofs.renaming.kept.Goals as goal

pub returns-in-Copy : goal.returns-in-Copy
returns-in-Copy c =
    subst (λ (i : Instruction). IfSome c.kept_copy.result
    (λ new_one. IsMade (act.kept c.args.routine c.args.minded.now c.args.rows.now c.args.to i) new_one
    c.kept_copy.new.rows)) (sym c.in-Copy.is) (c.kept_copy.ensures c.args.routine c.args.minded.now)
