use Rattle.std.proofs.lemmas.List.Sums.{prefix_len-le-length}
use Rattle.pascal_cli.proofs.need_lines.put_endless.Goals as goal

pub split_at-requires : goal.split_at-requires
split_at-requires c = rw c.place_of.ensures (prefix_len-le-length _ _)
