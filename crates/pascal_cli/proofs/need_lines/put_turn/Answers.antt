use Rattle.pascal_cli.proofs.NeededLines.{put_both, turned}
use Rattle.pascal_cli.proofs.need_lines.put_turn.Goals as goal

pub returns : goal.returns
returns c =
    put_both c.put_turn_bytes.result c.args.out.now.items c.put_turn_name.new.out.items c.put_turn_bytes.new.out.items _
    _ _ c.in_ok-put_turn_name.ensures c.put_turn_bytes.ensures
    (turned c.args.told.text.now c.args.told.needed.now c.args.before.now c.args.turn.now _ c.in-len1-up.len_at_least)
