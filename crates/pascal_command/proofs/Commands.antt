-- Commands as they are built step by step.
use Rattle.std.proofs.Common.{◌≡◌, ◌∙◌, ap, ap₂, subst, ◌||◌, Bool, true, false}
use Rattle.std.proofs.lemmas.Result.{IfOk-weaker}
use Rattle.std.specs.Prelude.{Result, Ok, IfOk}
use Rattle.clap.specs.Built.{AddsArg, AddsSubcommand}
use Rattle.clap.specs.Simple.{App, with_rule, with_subcommand}
use Rattle.clap.specs.Walk.{Rule}
use Rattle.clap.specs.declared.builder.arg.Arg.{Arg}
use Rattle.clap.specs.declared.builder.command.Command.{Command}
use Rattle.pascal_command.specs.App.{IsArgument, IsCommand, Makes}

-- what is added has nothing global, so there is nothing global but what was there
or_same : (new old added : Bool) → new ≡ (old || added) → added ≡ false → new ≡ old
or_same new true added is none = is
or_same new false added is none = is ∙ none

module _ {E : Type 0} where
  pub argument_added : (old : Command) (arg : Arg) (added : Result Command E) → IfOk added (AddsArg old arg)
      → (app : App) (rule : Rule) → IsCommand app old → IsArgument rule arg → Makes (with_rule app rule) added
  argument_added old arg added adds app rule had of =
      IfOk-weaker added (AddsArg old arg) (IsCommand (with_rule app rule))
      (λ new h. (h.shape of.1 ∙ ap₂ with_rule had.0 of.0, or_same _ _ _ h.globals of.1 ∙ had.1)) adds

  pub subcommand_added : (old sub : Command) (added : Result Command E) → IfOk added (AddsSubcommand old sub)
      → (app below : App) → IsCommand app old → IsCommand below sub → Makes (with_subcommand app below.top) added
  subcommand_added old sub added adds app below had has =
      IfOk-weaker added (AddsSubcommand old sub) (IsCommand (with_subcommand app below.top))
      (λ new h. (
        h.shape has.1 ∙ ap₂ with_subcommand had.0
            (ap (λ (a : App). a.top) has.0),
        or_same _ _ _ h.globals has.1 ∙ had.1,
      )) adds

  pub taken : (app : App) (made : Result Command E) (command : Command) → made ≡ Ok command → Makes app made
      → IsCommand app command
  taken app made command is was = subst (Makes app) is was
