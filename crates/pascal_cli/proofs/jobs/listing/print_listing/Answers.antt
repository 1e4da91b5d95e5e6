use Rattle.pascal_cli.proofs.Done.{one_of_two}
use Rattle.pascal_cli.proofs.jobs.listing.print_listing.Goals as goal

pub returns : goal.returns
returns g c = one_of_two c.print_all.result _ c.print_all.ensures
    (λ done. (_, _, c.requires.built, c.requires.listed))
