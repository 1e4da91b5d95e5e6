use Rattle.std.proofs.Common.{◌++◌, ◌∷◌, length, sym, ap, ◌∙◌}
use Rattle.std.specs.Option.{option_copied}
use Rattle.ps_lower.proofs.Elements.{last_is}
use Rattle.ps_lower.proofs.cases.close_tests.Goals as goal

pub returns-in-Some : goal.returns-in-Some
returns-in-Some c = λ before filler behind e p. c.close_test.ensures before filler behind e p
    ∙ ap (λ x. before ++ x ∷ behind) (last_is c.args.constants.now _ c.args.d (length behind)
    (sym (ap option_copied c.in-Some.is) ∙ c.last.ensures.value))
