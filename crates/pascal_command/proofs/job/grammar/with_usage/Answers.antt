use Rattle.std.proofs.Common.{◌∙◌, ap}
use Rattle.clap.specs.Simple.{app_of_fields}
use Rattle.pascal_command.proofs.Commands.{taken}
use Rattle.pascal_command.proofs.job.grammar.with_usage.Goals as goal

pub returns-in-Ok : goal.returns-in-Ok
returns-in-Ok c = λ app made.
    let had = taken app _ _ c.in-Ok.is made in (
      ap (λ fields. app_of_fields fields) c.override_usage.ensures ∙ had.0,
      ap (λ fields. fields.has_globals) c.override_usage.ensures ∙ had.1,
    )
