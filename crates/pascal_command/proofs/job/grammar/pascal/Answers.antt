use Rattle.std.proofs.Common.{◌∙◌, ap, codes, true}
use Rattle.std.proofs.lemmas.Result.{IfOk-weaker}
use Rattle.clap.specs.Simple.{App, app_of_fields, new_app, on_top}
use Rattle.pascal_command.specs.App.{IsCommand}
use Rattle.pascal_command.proofs.job.grammar.pascal.Goals as goal

abbrev nameless : App → App
nameless = on_top (λ shape. record shape { no_binary_name = true })

pub returns : goal.returns
returns c =
    let begun = IfOk-weaker c.bin_name-pascal.result _ (IsCommand (nameless (new_app (codes "pascal")))) (λ r h. (
      ap app_of_fields h.0 ∙ (ap (λ fields. app_of_fields fields) c.no_binary_name.ensures
          ∙ (ap (λ fields. app_of_fields (record fields { no_binary_name = true })) c.after_help.ensures
          ∙ (ap (λ fields. app_of_fields (record fields { no_binary_name = true })) c.about.ensures
          ∙ ap nameless c.new.ensures.app))),
      ap (λ fields. fields.has_globals) h.0 ∙ (ap (λ fields. fields.has_globals) c.no_binary_name.ensures
          ∙ (ap (λ fields. fields.has_globals) c.after_help.ensures
          ∙ (ap (λ fields. fields.has_globals) c.about.ensures ∙ c.new.ensures.local))),
    )) c.bin_name-pascal.ensures in
    let runs = c.with_runs-pascal.ensures _ begun in
    let checks = c.with_checks-pascal.ensures _ runs in
    IfOk-weaker c.with_watches.result _ _ (λ r h. h.0) (c.with_watches.ensures _ checks)
