use Rattle.std.proofs.Common.{◌∙◌, ap}
use Rattle.ps_tree.specs.Names.{same, place}
use Rattle.ps_tree.proofs.NameLemmas.{position-map}
use Rattle.ps_tree.proofs.names.Names.find.Goals as goal

pub returns : goal.returns
returns c = c.get_index_of.ensures.index ∙ position-map (λ v. v.items) (same c.args.name.now) c.self.inside.set.keys
    ∙ ap (λ names. place names c.args.name.now) c.self.view_is
