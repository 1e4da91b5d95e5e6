use Rattle.risc_alloc.proofs.Steps.{flows_of}
use Rattle.risc_alloc.proofs.walk.flow_back.Goals as goal

pub returns : goal.returns
returns c =
    λ t. flows_of c.args.window.now c.args.claims.now c.args.instruction.now c.args.place c.in-Some.exit
    c.args.table.now.holders.items c.fall_back.new.table.holders.items c.jump_back.new.table.holders.items
    c.in-Some.ensures c.fall_back.ensures (c.jump_back.ensures.kept t) (c.jump_back.ensures.claimed t)
