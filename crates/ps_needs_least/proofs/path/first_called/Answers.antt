use Rattle.std.proofs.Common.{sym, ap, ◌∙◌, subst}
use Rattle.std.specs.List.{Contains}
use Rattle.ps_needs_least.specs.declared.uses.Use.TheVariants.{Called, ParameterCalled}
use Rattle.ps_needs_least.specs.Settled.{depth_of}
use Rattle.ps_needs_least.proofs.Telling.{leads_as_parameter, leads_by_name, some_depths}
use Rattle.ps_needs_least.proofs.path.first_called.Goals as goal

pub returns-in-Called-clause-leads : goal.returns-in-Called-clause-leads
returns-in-Called-clause-leads c =
    leads_by_name c.args.nodes.now c.args.routine c.in-Called.called c.requires.within
    (subst (λ us. Contains us (Called c.in-Called.called)) c.uses.ensures
    (subst (λ u. Contains c.uses.result.now u) c.in-Called.is c.first_use.ensures.there))

pub returns-in-ParameterCalled-clause-leads : goal.returns-in-ParameterCalled-clause-leads
returns-in-ParameterCalled-clause-leads c =
    leads_as_parameter c.args.nodes.now c.args.routine c.first_passed.result c.requires.within
    (subst (λ us. Contains us ParameterCalled) c.uses.ensures
    (subst (λ u. Contains c.uses.result.now u) c.in-ParameterCalled.is c.first_use.ensures.there))
    c.first_passed.ensures.passed

pub returns-in-Called-clause-depth : goal.returns-in-Called-clause-depth
returns-in-Called-clause-depth c = ap (depth_of c.args.depths.now) (sym c.in-Called.is) ∙ c.first_use.ensures.depth

pub returns-in-ParameterCalled-clause-depth : goal.returns-in-ParameterCalled-clause-depth
returns-in-ParameterCalled-clause-depth c = c.first_passed.ensures.depth

pub first_use-requires-clause-some : goal.first_use-requires-clause-some
first_use-requires-clause-some c =
    some_depths c.args.nodes.now c.requires.tabled.0 c.args.depths.now c.requires.tabled.1

pub first_use-requires-clause-there : goal.first_use-requires-clause-there
first_use-requires-clause-there c =
    let there = c.requires.there in
    (there.0, subst (λ us. Contains us there.0) (sym c.uses.ensures) there.1, there.2)

pub first_passed-requires-clause-depth : goal.first_passed-requires-clause-depth
first_passed-requires-clause-depth c =
    ap (depth_of c.args.depths.now) (sym c.in-ParameterCalled.is) ∙ c.first_use.ensures.depth

pub unreachable-requires : goal.unreachable-requires
unreachable-requires c =
    absurd (c.requires.deep (sym c.first_use.ensures.depth ∙ ap (depth_of c.args.depths.now) c.in-Passed.is))
