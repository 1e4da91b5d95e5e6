use Rattle.std.proofs.Common.{ap, ◌∙◌}
use Rattle.ps_tree.specs.Names.{same, has}
use Rattle.ps_tree.proofs.NameLemmas.{list_any-map}
use Rattle.ps_check_declarations.proofs.hiding.HidingNames.contains.Goals as goal

pub returns : goal.returns
returns c = c.contains.ensures ∙ list_any-map (λ v. v.items) (same c.args.name.now) c.self.inside.set.keys
    ∙ ap (λ names. has names c.args.name.now) c.self.view_is
