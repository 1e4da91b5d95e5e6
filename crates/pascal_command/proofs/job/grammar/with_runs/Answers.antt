use Rattle.pascal_command.specs.App.{compile_app, go_app, list_app, run_app}
use Rattle.pascal_command.proofs.job.grammar.with_runs.Goals as goal

pub returns : goal.returns
returns c = λ app made.
    let with_compile = c.with_subcommand-pascal.ensures app compile_app made c.compile_command.ensures in
    let with_list = c.with_subcommand-pascal-2.ensures _ list_app with_compile c.list_command.ensures in
    let with_run = c.with_subcommand-pascal-3.ensures _ run_app with_list c.run_command.ensures in
    c.with_subcommand.ensures _ go_app with_run c.go_command.ensures
