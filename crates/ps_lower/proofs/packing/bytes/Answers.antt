use Rattle.ps_lower.proofs.Arms.{behind}
use Rattle.ps_lower.proofs.packing.bytes.Goals as goal

pub returns : goal.returns
returns c = behind c.help.result c.help.new.out c.amount.new.out c.args.out.now _ _ c.in_ok-amount.ensures
    c.help.ensures
