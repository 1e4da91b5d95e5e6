use Rattle.std.proofs.Common.{◌≡◌, ◌++◌, subst, ap, ◌∙◌, string_bytes, OnOk}
use Rattle.ps_diagnostic.specs.Printable.{printable_bytes}
use Rattle.ps_diagnostic.proofs.Letters.{printable_text}
use Rattle.ps_diagnostic.proofs.shown.put_text.Goals as goal

pub returns : goal.returns
returns c = subst (λ text. OnOk c.put.result (string_bytes c.put.new.out ≡ string_bytes c.args.out.now ++ text))
    (ap printable_bytes c.as_bytes.ensures.value ∙ printable_text c.args.text.now c.utf8.text)
    c.put.ensures
