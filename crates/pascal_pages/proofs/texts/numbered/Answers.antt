-- Behind the last page there is none.
use Rattle.std.proofs.Common.{◌≤◌, arith, length, sym}
use Rattle.std.proofs.lemmas.Option.{slice_get_past}
use Rattle.pascal_pages.specs.Pages.{pages}
use Rattle.pascal_pages.proofs.texts.numbered.Goals as goal

pub returns-in_default : goal.returns-in_default
returns-in_default c =
    let past : length pages ≤ c.args.at = omega (arith, c.in_default) in
    sym (slice_get_past pages c.args.at past)
