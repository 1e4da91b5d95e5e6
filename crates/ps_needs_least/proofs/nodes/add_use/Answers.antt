use Rattle.std.proofs.Common.{◌++◌, sym, ap, ◌∙◌}
use Rattle.std.proofs.lemmas.List.{append-nil}
use Rattle.ps_needs_least.specs.Nodes.{passed_in}
use Rattle.ps_needs_least.proofs.nodes.add_use.Goals as goal

pub returns-in-Called : goal.returns-in-Called
returns-in-Called c = sym (append-nil _) ∙ ap (λ u. c.args.passed.now.items ++ passed_in u) (sym c.in-Called.is)

pub returns-in-ParameterCalled : goal.returns-in-ParameterCalled
returns-in-ParameterCalled c = sym (append-nil _) ∙ ap (λ u. c.args.passed.now.items ++ passed_in u)
    (sym c.in-ParameterCalled.is)
