use Rattle.std.proofs.Common.{◌∙◌, ap}
use Rattle.clap.specs.Simple.{app_of_fields}
use Rattle.pascal_command.proofs.Commands.{argument_added}
use Rattle.pascal_command.proofs.job.grammar.command_with.Goals as goal

pub returns : goal.returns
returns c = λ rule of.
    argument_added c.after_help.result c.args.arg c.arg.result c.arg.ensures _ rule (
      ap (λ fields. app_of_fields fields) c.after_help.ensures
          ∙ (ap (λ fields. app_of_fields fields) c.about.ensures ∙ c.new.ensures.app),
      ap (λ fields. fields.has_globals) c.after_help.ensures
          ∙ (ap (λ fields. fields.has_globals) c.about.ensures ∙ c.new.ensures.local),
    )
    of
