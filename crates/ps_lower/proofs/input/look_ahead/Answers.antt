use Rattle.ps_lower.specs.Levels.{scope_of, site_of}
use Rattle.ps_lower.proofs.Looking.{look_told}
use Rattle.ps_lower.proofs.input.look_ahead.Goals as goal

pub returns : goal.returns
returns c = look_told (scope_of c.args.level.now) c.args.d c.even_from-t.result
    (site_of c.input-site.result) c.help.result c.help.new.out c.address.new.out c.args.out.now
    c.even_from-t.ensures.value c.input-site.ensures c.in_ok-address.ensures c.help.ensures
