use Rattle.pascal_cli.proofs.Done.{one_of_two}
use Rattle.pascal_cli.proofs.jobs.listing.print_source_listing.Goals as goal

pub returns-in-Ok : goal.returns-in-Ok
returns-in-Ok g c = one_of_two c.print_shown.result _ c.print_shown.ensures
    (λ done. (_, _, c.requires.built, c.requires.listed))
