use Rattle.tac_code.specs.declared.code.Instruction.TheVariants as i
use Rattle.std.proofs.Common.{◌∙◌}
use Rattle.ps_lower.proofs.Rooms.{set_room}
use Rattle.ps_lower.proofs.filling.fill_with_jump.Goals as goal

pub returns-then-place-len : goal.returns-then-place-len
returns-then-place-len c = λ before filler behind e p. c.put.ensures ∙ set_room
    (λ n. i.Jump n) before behind filler _ _ _ e p (c.len-then-place-len.ensures ∙ c.args.list.now.ok.0)
