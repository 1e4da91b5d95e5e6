use Rattle.pascal_cli.proofs.NeededLines.{put_three}
use Rattle.pascal_cli.proofs.need_lines.put_least.Goals as goal

pub returns : goal.returns
returns c =
    put_three c.put.result c.args.out.now.items c.put_with_number.new.out.items c.put_path.new.out.items
    c.put.new.out.items _ _ _ c.in_ok-put_with_number.ensures c.in_ok-put_path.ensures c.put.ensures
