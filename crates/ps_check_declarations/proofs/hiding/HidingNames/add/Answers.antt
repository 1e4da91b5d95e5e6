use Rattle.std.proofs.Common.{ap, ◌∙◌, not}
use Rattle.ps_tree.specs.Names.{same, has}
use Rattle.ps_tree.proofs.NameLemmas.{list_any-map}
use Rattle.ps_check_declarations.proofs.hiding.HidingNames.add.Goals as goal

pub returns-clause-added : goal.returns-clause-added
returns-clause-added c = c.in_ok-added.ensures.added ∙ ap not
    (list_any-map (λ v. v.items) (same c.args.name.items) c.self.inside.set.keys
    ∙ ap (λ names. has names c.args.name.items) c.self.view_is)
