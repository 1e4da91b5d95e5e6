use Rattle.ps_lower.proofs.Arms.{behind}
use Rattle.ps_lower.proofs.sets.included.Goals as goal

pub returns : goal.returns
returns c = behind c.help.result c.help.new.out c.offsets.new.out c.args.out.now _ _ c.in_ok-offsets.ensures
    c.help.ensures
