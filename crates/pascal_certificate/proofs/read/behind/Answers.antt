use Rattle.std.proofs.Common.{◌∙◌, sym}
use Rattle.pascal_certificate.proofs.Lines.{not_begun}
use Rattle.pascal_certificate.proofs.read.behind.Goals as goal

pub returns-else-eq-clause-none : goal.returns-else-eq-clause-none
returns-else-eq-clause-none c = λ rest. not_begun c.args.text.now c.args.front.now _ rest c.split_at.ensures.front
    (sym c.eq.ensures ∙ c.if-eq.false)
