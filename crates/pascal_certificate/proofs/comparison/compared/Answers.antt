use Rattle.std.proofs.Common.{◌∙◌, ◌&&◌, ◌==◌, ap, length, map, ℕ, List}
use Rattle.std.proofs.lemmas.Result.{IfOk-weaker}
use Rattle.std.specs.Borrow.{Bor}
use Rattle.pascal_certificate.specs.Differences.{differences}
use Rattle.pascal_certificate.specs.Facts.{facts}
use Rattle.pascal_certificate.proofs.Holding.{certifies_found}
use Rattle.pascal_certificate.proofs.comparison.compared.Goals as goal

pub returns-clause-certifies : goal.returns-clause-certifies
returns-clause-certifies c =
    let olds = map (λ (value : Bor (List ℕ)). value.now) c.args.olds.now in
    IfOk-weaker c.compared_values.result _ _ (λ comparison holds. certifies_found olds c.args.found.now comparison
    (holds ∙ ap (λ news. c.args.found.now.is_built && (length (differences facts olds news) == 0))
    (ap (map (λ (value : Bor (List ℕ)). value.now)) c.deref.ensures.value ∙ c.in_ok-news.ensures)))
    c.compared_values.ensures.holds
