use Rattle.risc_alloc.proofs.Steps.{reads_of}
use Rattle.risc_alloc.proofs.walk.read_back.Goals as goal

pub returns : goal.returns
returns c =
    λ t. reads_of c.args.window.now c.args.instruction.now c.read_first.result c.read_second.result
    c.read_passed.result.now c.args.table.now.holders.items c.add_some.new.self.holders.items
    c.add_some-2.new.self.holders.items c.add_all.new.self.holders.items c.read_first.ensures c.read_second.ensures
    c.read_passed.ensures (c.add_some.ensures.kept c.if-not-add_some.false)
    (c.add_some.ensures.added c.if-not-add_some.false) (c.add_some-2.ensures.kept c.if-not-add_some-2.false)
    (c.add_some-2.ensures.added c.if-not-add_some-2.false) (c.add_all.ensures.kept t) (c.add_all.ensures.added t)
