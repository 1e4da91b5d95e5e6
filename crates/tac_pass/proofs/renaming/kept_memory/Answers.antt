use Rattle.std.proofs.Common.{IfSome, sym, subst}
use Rattle.tac_code.specs.declared.code.Instruction.{Instruction}
use Rattle.tac_pass.specs.Acts as act
use Rattle.tac_pass.specs.Walk.{IsMade}
use Rattle.tac_pass.proofs.renaming.kept_memory.Goals as goal

pub returns-in-Store : goal.returns-in-Store
returns-in-Store c =
    subst (λ (i : Instruction). IfSome c.kept_store.result
    (λ new_one. IsMade (act.kept c.args.routine c.args.minded.now c.args.rows.now c.args.to i) new_one
    c.kept_store.new.rows)) (sym c.in-Store.is) (c.kept_store.ensures c.args.to)

pub returns-in-StoreByte : goal.returns-in-StoreByte
returns-in-StoreByte c =
    subst (λ (i : Instruction). IfSome c.kept_store_byte.result
    (λ new_one. IsMade (act.kept c.args.routine c.args.minded.now c.args.rows.now c.args.to i) new_one
    c.kept_store_byte.new.rows)) (sym c.in-StoreByte.is) (c.kept_store_byte.ensures c.args.to)
