use Rattle.std.proofs.Common.{ap, ◌∙◌, arith}
use Rattle.ps_lower_layout.specs.Frames.{layout_of}
use Rattle.ps_lower.proofs.Laying.{words_found}
use Rattle.ps_lower.proofs.Limits.{input_few}
use Rattle.ps_tree.specs.Checked.{Parts, program_in}
use Rattle.ps_tree.specs.Tree.{routine_at}
use Rattle.ps_lower.proofs.frames.Frames.words.Goals as goal

pub returns-clause-value : goal.returns-clause-value
returns-clause-value c =
    words_found c.self.inside.tables.items (program_in c.self.inside.checked.now).routines c.args.number
    c.as_slice.result.now c.in-Some.table.now c.self.invariant.are c.as_slice.ensures.value
    c.in-Some.ensures.lookup.3.0 (c.in-Some.ensures.lookup.3.1 c.in-Some.table.now)
    ∙ ap (λ (p : Parts). (layout_of (routine_at (program_in p) c.args.number)).input) c.self.view_is

pub returns-clause-small : goal.returns-clause-small
returns-clause-small c =
    let l = input_few (program_in c.self.inside.checked.now) c.self.invariant.limits c.args.number in
    let e = words_found c.self.inside.tables.items
    (program_in c.self.inside.checked.now).routines c.args.number c.as_slice.result.now c.in-Some.table.now
    c.self.invariant.are c.as_slice.ensures.value c.in-Some.ensures.lookup.3.0
    (c.in-Some.ensures.lookup.3.1 c.in-Some.table.now) in
    omega (arith, l, e)
