use Rattle.std.proofs.Common.{◌≡◌, ◌<◌, ◌∙◌, sym, ap, subst, length, get_or, min}
use Rattle.ps_tree.specs.Tree.{routine_at}
use Rattle.ps_tree.specs.Checked.{Parts, program_in}
use Rattle.ps_tree.specs.Counts.{routine_cells}
use Rattle.ps_tree.specs.View.{routine_of}
use Rattle.ps_tree.proofs.FormalLemmas.{cells_told}
use Rattle.ps_tree.proofs.program.Checked.cells.Goals as goal

pub returns : goal.returns
returns c =
    let within : c.args.routine < length c.self.inside.routines.items = subst
    (λ (parts : Parts). c.args.routine < length parts.routines) (sym c.self.view_is) c.requires in
    let told : c.cells.result ≡ min (routine_cells
    (routine_of (get_or c.self.inside.routines.items c.args.routine c.index.result.now))) 18446744073709551615 =
    c.cells.ensures ∙ ap (λ r. min (routine_cells (routine_of r)) 18446744073709551615) c.index.ensures in
    cells_told c.self.inside.routines.items c.self.inside.domains.items c.args.routine _ c.index.result.now
    c.self.invariant within told
    ∙ ap (λ (parts : Parts). routine_cells (routine_at (program_in parts) c.args.routine)) c.self.view_is
