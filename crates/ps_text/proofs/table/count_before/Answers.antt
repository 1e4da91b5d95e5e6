use Rattle.std.proofs.Common.{rules}
use Rattle.std.proofs.lemmas.List.Sorted.{IsPartitionPoint-from_clause, IsPartitionedBy-ltb}
use Rattle.std.specs.Prelude.{nat_lt}
use Rattle.ps_text.proofs.table.count_before.Goals as goal

pub returns-clause-point : goal.returns-clause-point
returns-clause-point c =
    let parted = IsPartitionedBy-ltb (λ end. end) c.args.ends.now c.args.offset c.requires.rise in
    IsPartitionPoint-from_clause (λ end. nat_lt end c.args.offset) _ _ c.partition_point.ensures.partitioned parted
    (λ a r q k. search rules)
