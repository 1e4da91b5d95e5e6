use Rattle.std.proofs.Common.{List, ℕ, ◌++◌, get_or, ap, ◌∙◌}
use Rattle.std.specs.String.{string_bytes}
use Rattle.std.proofs.lemmas.Option.{slice_get-get_or}
use Rattle.tac_code.specs.Printed.{type_line}
use Rattle.tac_code.proofs.Texts.{first_line_added}
use Rattle.tac_code.proofs.print.add_types.Goals as goal

pub loop-number-preserved : goal.loop-number-preserved
loop-number-preserved c =
    let k = c.loop-number.number-counter in
    let here = slice_get-get_or c.args.objects.now k 0 c.loop-number-test.true in
    first_line_added type_line c.args.objects.now k (get_or c.args.objects.now k 0) (string_bytes c.args.text.now)
    (string_bytes c.loop-number.text) (string_bytes c.push_str.new.self) here c.loop-number.invariant
    (c.in_ok-push_str.ensures.bytes ∙ ap (λ (t : List ℕ). string_bytes c.loop-number.text ++ t)
    (c.as_str.ensures.value ∙ c.in_ok-line.ensures.ok))
