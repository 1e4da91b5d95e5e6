use Rattle.std.proofs.Common.{List, ℕ, ◌++◌, length, refl, ap, ◌∙◌}
use Rattle.std.specs.String.{string_bytes}
use Rattle.std.proofs.lemmas.Option.{slice_get_read}
use Rattle.tac_code.specs.Printed.{instruction_line}
use Rattle.tac_code.proofs.Texts.{first_line_added}
use Rattle.tac_code.proofs.print.add_instructions.Goals as goal

pub loop-place-preserved : goal.loop-place-preserved
loop-place-preserved c =
    let k = c.loop-place.place-counter in
    let here = slice_get_read c.args.body.now
    (length c.args.body.now) k c.index-body-place.result refl c.loop-place-test.true c.index-body-place.is in
    first_line_added instruction_line c.args.body.now k c.index-body-place.result (string_bytes c.args.text.now)
    (string_bytes c.loop-place.text) (string_bytes c.push_str.new.self) here c.loop-place.invariant
    (c.in_ok-push_str.ensures.bytes ∙ ap (λ (t : List ℕ). string_bytes c.loop-place.text ++ t)
    (c.as_str.ensures.value ∙ c.in_ok-line.ensures.ok))
