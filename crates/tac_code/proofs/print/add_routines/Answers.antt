use Rattle.std.proofs.Common.{length, refl}
use Rattle.std.specs.String.{string_bytes}
use Rattle.std.proofs.lemmas.Option.{slice_get_read}
use Rattle.tac_code.specs.Printed.{printed_routine}
use Rattle.tac_code.proofs.Texts.{line_added}
use Rattle.tac_code.proofs.print.add_routines.Goals as goal

pub loop-place-preserved : goal.loop-place-preserved
loop-place-preserved c =
    let k = c.loop-place.place in
    let here = slice_get_read c.args.routines.now
    (length c.args.routines.now) k c.index-routines-place.result refl c.loop-place-test.true
    c.index-routines-place.is in
    line_added printed_routine c.args.first c.args.routines.now k c.index-routines-place.result
    (string_bytes c.args.text.now) (string_bytes c.loop-place.text)
    (string_bytes c.add_routine.new.text) here c.loop-place.invariant c.in_ok-add_routine.ensures
