use Rattle.std.proofs.Common.{◌≡◌, ◌<◌, ◌∙◌, ap, arith, length}
use Rattle.pascal_cli.proofs.Done.{page_is_there}
use Rattle.pascal_cli.proofs.jobs.print_pages.Goals as goal

pub returns-in-Ok-clause-found : goal.returns-in-Ok-clause-found
returns-in-Ok-clause-found g c = λ zero.
    let found = c.in-Ok.ensures in
    let some : 0 < length c.as_str.result.now = c.print_found.ensures.found zero in
    page_is_there c.args.topic.now found.0 found.1 (λ none.
    let empty : length c.as_str.result.now ≡ 0 = ap length (c.as_str.ensures.value ∙ (found.2 ∙ none)) in
    omega (arith, some, empty))
