use Rattle.std.proofs.Common.{◌≡◌, ◌-◌, [], get_or, ap, sym, ◌∙◌, subst}
use Rattle.std.specs.List.{Contains}
use Rattle.ps_needs_least.specs.Settled.{depth_of}
use Rattle.ps_needs_least.specs.Tabled.{passed_of}
use Rattle.ps_needs_least.proofs.Telling.{passed_called, passed_there, some_depths}
use Rattle.ps_needs_least.proofs.path.first_passed.Goals as goal

pub first_use-requires-clause-there : goal.first_use-requires-clause-there
first_use-requires-clause-there c =
    let is : c.uses.result.now ≡ passed_of c.args.nodes.now = c.uses.ensures
    ∙ ap (λ n. get_or c.args.nodes.now (n - 1) []) c.count.ensures in
    let there = passed_there c.args.nodes.now c.requires.tabled.0 c.args.depths.now c.requires.tabled.1 c.args.wanted
    c.requires.deep c.requires.depth in
    (there.0, subst (λ us. Contains us there.0) (sym is) there.1, there.2)

pub unreachable-requires-in-ParameterCalled : goal.unreachable-requires-in-ParameterCalled
unreachable-requires-in-ParameterCalled c =
    let is : c.uses.result.now ≡ passed_of c.args.nodes.now = c.uses.ensures
    ∙ ap (λ n. get_or c.args.nodes.now (n - 1) []) c.count.ensures in
    let called = passed_called c.args.nodes.now c.requires.tabled.1.program c.requires.tabled.1.nodes_are
    c.first_use.result (subst (λ us. Contains us c.first_use.result) is c.first_use.ensures.there) in
    absurd (let e = sym c.in-ParameterCalled.is ∙ called.1 in cc e)

pub unreachable-requires : goal.unreachable-requires
unreachable-requires c =
    absurd (c.requires.deep (sym c.first_use.ensures.depth ∙ ap (depth_of c.args.depths.now) c.in-Passed.is))

pub first_use-requires-clause-some : goal.first_use-requires-clause-some
first_use-requires-clause-some c =
    some_depths c.args.nodes.now c.requires.tabled.0 c.args.depths.now c.requires.tabled.1

pub returns-clause-passed : goal.returns-clause-passed
returns-clause-passed c =
    let is : c.uses.result.now ≡ passed_of c.args.nodes.now = c.uses.ensures
    ∙ ap (λ n. get_or c.args.nodes.now (n - 1) []) c.count.ensures in
    subst (λ u. Contains (passed_of c.args.nodes.now) u) c.in-Called.is
    (subst (λ us. Contains us c.first_use.result) is c.first_use.ensures.there)

pub returns-clause-depth : goal.returns-clause-depth
returns-clause-depth c = ap (depth_of c.args.depths.now) (sym c.in-Called.is) ∙ c.first_use.ensures.depth
