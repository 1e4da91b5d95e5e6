use Rattle.ps_lower.specs.Levels.{scope_of}
use Rattle.ps_lower.proofs.Reading.{number_made}
use Rattle.ps_lower.proofs.reads.take_number.Goals as goal

pub returns : goal.returns
returns c =
    number_made (scope_of c.args.level.now) c.args.low.now c.args.high.now c.args.line.number c.args.a
    c.beside-into.result
    c.fits.result c.fits.new.out c.load.new.self c.check_number.new.out c.help.new.out c.offset.new.self
    c.args.out.now
    c.beside-into.ensures.value c.in_ok-offset.ensures
    c.in_ok-help.ensures c.in_ok-check_number.ensures c.in_ok-load.ensures c.fits.ensures
