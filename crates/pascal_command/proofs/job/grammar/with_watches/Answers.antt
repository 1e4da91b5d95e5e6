use Rattle.std.proofs.Common.{codes}
use Rattle.pascal_command.specs.App.{watch_app}
use Rattle.pascal_command.proofs.job.grammar.with_watches.Goals as goal

pub returns : goal.returns
returns c = λ app made.
    let with_why = c.with_subcommand-pascal.ensures app (watch_app (codes "why")) made c.watch_command.ensures in
    let with_trace = c.with_subcommand-pascal-2.ensures _ (watch_app (codes "trace")) with_why c.watch_command-2.ensures in
    let with_cover = c.with_subcommand-pascal-3.ensures _ (watch_app (codes "cover")) with_trace c.watch_command-3.ensures
    in
    c.with_subcommand.ensures _ (watch_app (codes "profile")) with_cover c.watch_command-4.ensures
