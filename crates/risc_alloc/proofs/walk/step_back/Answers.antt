use Rattle.risc_alloc.proofs.Steps.{step_at}
use Rattle.risc_alloc.proofs.walk.step_back.Goals as goal

pub returns : goal.returns
returns c =
    λ t i e. step_at c.args.window.now c.args.claims.now c.args.body.now c.index-body-place.result i c.args.place
    c.args.table.now.holders.items c.flow_back.new.table.holders.items c.write_back.new.table.holders.items
    c.read_back.new.table.holders.items c.requires c.index-body-place.is
    (c.flow_back.ensures c.if-not-flow_back.false) (c.write_back.ensures c.if-not-write_back.false)
    (c.read_back.ensures t) e
