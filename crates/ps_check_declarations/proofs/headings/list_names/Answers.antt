use Rattle.std.proofs.Common.{◌≤◌, length, map, arith}
use Rattle.ps_check_names.specs.Views.{meaning_of}
use Rattle.ps_check_declarations.specs.Views.{frame_of}
use Rattle.ps_check_declarations.proofs.HeadingLemmas.{names_end}
use Rattle.ps_check_declarations.proofs.headings.list_names.Goals as goal

pub returns : goal.returns
returns c =
    let over : length c.args.list.now ≤ c.loop-written.written-index = omega (arith, c.loop-written-test.false) in
    names_end (frame_of c.args.place.now.frame)
    (map meaning_of c.args.known.now) c.args.list.now c.loop-written.written-index c.loop-written.names over
    c.loop-written.invariant
