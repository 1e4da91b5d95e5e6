use Rattle.pascal_command.specs.App.{certify_app, check_app, explain_app, needs_app, verify_app}
use Rattle.pascal_command.proofs.job.grammar.with_checks.Goals as goal

pub returns : goal.returns
returns c = λ app made.
    let with_explain = c.with_subcommand-pascal.ensures app explain_app made c.explain_command.ensures in
    let with_check = c.with_subcommand-pascal-2.ensures _ check_app with_explain c.check_command.ensures in
    let with_certify = c.with_subcommand-pascal-3.ensures _ certify_app with_check c.certify_command.ensures in
    let with_verify = c.with_subcommand-pascal-4.ensures _ verify_app with_certify c.verify_command.ensures in
    c.with_subcommand.ensures _ needs_app with_verify c.needs_command.ensures
