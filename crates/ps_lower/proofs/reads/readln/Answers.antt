use Rattle.std.proofs.Common.{map}
use Rattle.ps_tree.specs.View.{read_of}
use Rattle.ps_lower.specs.Levels.{scope_of}
use Rattle.ps_lower.specs.Reads.{line_taken}
use Rattle.ps_lower.proofs.Reading.{line_made}
use Rattle.ps_lower.proofs.reads.readln.Goals as goal

pub returns : goal.returns
returns c = line_made (scope_of c.args.level.now) (map read_of c.args.variables.now) c.args.d c.even_from-a.result
    (line_taken (scope_of c.args.level.now) c.args.line.number) c.take_line.result c.take_line.new.out c.ahead.new.out
    c.reads.new.out c.args.out.now c.even_from-a.ensures.value c.in_ok-reads.ensures c.in_ok-ahead.ensures
    c.take_line.ensures
