use Rattle.std.proofs.lemmas.Result.{IfOk-weaker}
use Rattle.pascal_certificate.proofs.Readings.{none_weaker, not_others_in}
use Rattle.pascal_certificate.proofs.read.+read_lines.Goals as goal

pub returns-clause-none : goal.returns-clause-none
returns-clause-none t c =
    IfOk-weaker c.read_lines.result _ _ (λ found holds. none_weaker found _ _ holds (λ none more rest are is.
    not_others_in c.args.text.now c.in-Some-value_line.rest.now c.in-Some-value_line.value.now c.args.facts.now
    c.in-Some.fact c.in-Some.facts_behind.now c.in-Some.ensures.some
    c.in-Some-value_line.ensures.some.0 c.in-Some-value_line.ensures.some.1 none more rest are is))
    c.read_lines.ensures.none
