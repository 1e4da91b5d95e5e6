use Rattle.std.proofs.Common.{ap, ◌∙◌}
use Rattle.ps_tree.specs.View.{place_of, structure_of}
use Rattle.ps_lower_code.specs.Scopes.{held}
use Rattle.ps_lower.specs.Levels.{scope_of, site_of}
use Rattle.ps_lower.proofs.Handing.{assign_structure_told}
use Rattle.ps_lower.proofs.assign.assign_structure.Goals as goal

pub returns : goal.returns
returns c =
    assign_structure_told (scope_of c.args.level.now) (place_of c.args.target.now)
    (structure_of c.args.e.now) c.args.d c.held-t.result c.place_temporary.result c.even_above-from.result
    c.beside-to.result c.beside-free.result c.structure_bytes-bytes.result
    (site_of c.in_ok-site.site) c.copy.result c.copy.new.out c.address.new.out c.structure.new.out c.place.new.out
    c.args.out.now
    (c.held-t.ensures.value ∙ ap (λ b. held b c.args.d) c.structure_calls.ensures) c.place_temporary.ensures.value
    c.even_above-from.ensures.value c.beside-to.ensures.value c.beside-free.ensures.value
    c.structure_bytes-bytes.ensures c.in_ok-site.ensures.code c.in_ok-site.ensures.site c.in_ok-structure.ensures
    c.in_ok-address.ensures c.copy.ensures
