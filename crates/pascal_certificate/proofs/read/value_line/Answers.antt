use Rattle.std.proofs.Common.{◌∙◌, ◌++◌, ap, sym}
use Rattle.pascal_certificate.proofs.Lines.{no_value}
use Rattle.pascal_certificate.proofs.read.value_line.Goals as goal

pub returns-else-fits-clause-none : goal.returns-else-fits-clause-none
returns-else-fits-clause-none c = λ value rest fit.
    no_value c.args.fact c.args.text.now c.in_ok-rest.rest.now c.in_ok-rest-2.rest.now c.in_ok-value.value.now
    c.in_ok-value.rest.now value rest
    (c.in_ok-rest.ensures.some ∙ ap (λ l. l ++ c.in_ok-rest.rest.now) (c.as_bytes.ensures.value ∙ c.label.ensures))
    c.in_ok-rest-2.ensures.some
    c.in_ok-value.ensures.some.0 c.in_ok-value.ensures.some.1 (sym c.fits.ensures ∙ c.if-fits.false) fit
