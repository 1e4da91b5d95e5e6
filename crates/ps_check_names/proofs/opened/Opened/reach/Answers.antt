use Rattle.std.proofs.Common.{length, map, ap, arith}
use Rattle.ps_check_names.specs.Wides.{kind_of}
use Rattle.ps_check_names.proofs.NoteLemmas.{none_behind}
use Rattle.ps_check_names.proofs.opened.Opened.reach.Goals as goal

pub returns-clause-none : goal.returns-clause-none
returns-clause-none c = none_behind c.args.self.now.records.items
    (kind_of c.args.self.now.wides.now.names (map (λ v. v.items) c.args.self.now.wides.now.kinds.items))
    c.args.self.now.present.items
    c.args.self.now.latest.items c.args.name.now c.narrow_reach.result c.wide_reach.result c.larger-reach.result _
    c.narrow_reach.ensures c.wide_reach.ensures c.larger-reach.ensures.first c.larger-reach.ensures.second
    (λ k l r. let n = ap length c.as_slice-count.ensures.value in c.smaller.ensures.both k r (omega (arith, l, n)))
