use Rattle.std.proofs.Common.{◌∙◌, ap, not}
use Rattle.clap.specs.Words.{found_of}
use Rattle.clap.proofs.WalkLemmas.{first_value-rows}
use Rattle.pascal_command.specs.Command.{are_digits}
use Rattle.pascal_command.proofs.job.odd_text.Goals as goal

pub returns : goal.returns
returns c = c.odd_of.ensures ∙ ap (λ o. not (are_digits o))
    (c.get_str.ensures ∙ first_value-rows (found_of c.args.matches.now) c.args.name.now)
