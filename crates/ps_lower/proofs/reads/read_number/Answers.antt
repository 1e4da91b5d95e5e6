use Rattle.ps_tree.specs.View.{place_of}
use Rattle.ps_lower.specs.Levels.{scope_of, site_of}
use Rattle.ps_lower.specs.Reads.{number_taken}
use Rattle.ps_lower.proofs.Reading.{read_made}
use Rattle.ps_lower.proofs.reads.read_number.Goals as goal

pub returns : goal.returns
returns c =
    read_made (scope_of c.args.level.now) (place_of c.args.target.now)
    (number_taken (scope_of c.args.level.now) c.args.low.now c.args.high.now c.args.line.number) c.args.d
    c.held-t.result c.even_above-a.result (site_of c.in_ok-site.site) c.is_byte.result c.keep.result c.keep.new.out
    c.take_number.new.out c.ahead.new.out c.place.new.out c.args.out.now
    c.held-t.ensures.value c.even_above-a.ensures.value c.in_ok-site.ensures.code c.in_ok-site.ensures.site
    c.is_byte.ensures c.in_ok-ahead.ensures c.in_ok-take_number.ensures c.keep.ensures
