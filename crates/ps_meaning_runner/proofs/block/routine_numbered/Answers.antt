use Rattle.std.proofs.Common.{map, ap, sym, ◌∙◌, rules}
use Rattle.ps_tree.specs.Tree as Tree
use Rattle.ps_tree.specs.View.{type_of, statements_of}
use Rattle.ps_meaning_runner.proofs.Blocks.{numbered, not_numbered}
use Rattle.ps_meaning_runner.proofs.block.routine_numbered.Goals as goal

pub returns-in-Some-clause-result : goal.returns-in-Some-clause-result
returns-in-Some-clause-result c =
    let is = ap (λ (x : Tree.Routine). x.result)
    (numbered c.args.setup.now c.routines.result.now c.args.number c.in-Some.routine.now c.routines.ensures.routines
    c.in-Some.ensures.lookup.3.0 (c.in-Some.ensures.lookup.3.1 c.in-Some.routine.now)) in
    search (rules, is)

pub returns-in-Some-clause-variables : goal.returns-in-Some-clause-variables
returns-in-Some-clause-variables c =
    ap (λ (x : Tree.Routine). x.variables) (numbered c.args.setup.now c.routines.result.now c.args.number
    c.in-Some.routine.now c.routines.ensures.routines c.in-Some.ensures.lookup.3.0
    (c.in-Some.ensures.lookup.3.1 c.in-Some.routine.now)) ∙ ap (map type_of) (sym c.as_slice.ensures.value)

pub returns-in-Some-clause-body : goal.returns-in-Some-clause-body
returns-in-Some-clause-body c =
    ap (λ (x : Tree.Routine). x.body)
    (numbered c.args.setup.now c.routines.result.now c.args.number c.in-Some.routine.now
    c.routines.ensures.routines c.in-Some.ensures.lookup.3.0 (c.in-Some.ensures.lookup.3.1 c.in-Some.routine.now))
    ∙ ap statements_of (sym c.as_slice-in-Some.ensures.value)

pub returns-in-Some-clause-line : goal.returns-in-Some-clause-line
returns-in-Some-clause-line c =
    ap (λ (x : Tree.Routine). x.line)
    (numbered c.args.setup.now c.routines.result.now c.args.number c.in-Some.routine.now
    c.routines.ensures.routines c.in-Some.ensures.lookup.3.0 (c.in-Some.ensures.lookup.3.1 c.in-Some.routine.now))

pub returns-in-None-clause-result : goal.returns-in-None-clause-result
returns-in-None-clause-result c =
    ap (λ (x : Tree.Routine). x.result) (not_numbered c.args.setup.now c.routines.result.now c.args.number
    c.routines.ensures.routines c.in-None.ensures.lookup.3)

pub returns-in-None-clause-variables : goal.returns-in-None-clause-variables
returns-in-None-clause-variables c =
    let is = ap (λ (x : Tree.Routine). x.variables)
    (not_numbered c.args.setup.now c.routines.result.now c.args.number c.routines.ensures.routines
    c.in-None.ensures.lookup.3) in
    search (rules, is)

pub returns-in-None-clause-body : goal.returns-in-None-clause-body
unfolding statements_of
returns-in-None-clause-body c =
    let is = ap (λ (x : Tree.Routine). x.body)
    (not_numbered c.args.setup.now c.routines.result.now c.args.number c.routines.ensures.routines
    c.in-None.ensures.lookup.3) in
    search (rules, is)

pub returns-in-None-clause-line : goal.returns-in-None-clause-line
returns-in-None-clause-line c =
    ap (λ (x : Tree.Routine). x.line) (not_numbered c.args.setup.now c.routines.result.now c.args.number
    c.routines.ensures.routines c.in-None.ensures.lookup.3)
