use Rattle.ps_tree.specs.View.{place_of}
use Rattle.ps_lower.specs.Levels.{scope_of, site_of}
use Rattle.ps_lower.proofs.Packed.{held_told, new_made}
use Rattle.ps_lower.proofs.objects.create.Goals as goal

pub returns : goal.returns
returns c =
    new_made (scope_of c.args.level.now) (place_of c.args.target.now) c.args.pointer c.args.line.number c.args.d
    c.held-at.result c.held-to.result c.even_above-free.result
    (site_of c.in_ok-site.site) c.is_byte.result c.keep.result c.keep.new.out c.object.new.out c.place.new.out
    c.args.out.now
    c.held-at.ensures.value (held_told c.held-at.result c.held-to.result c.held-to.ensures.value)
    c.even_above-free.ensures.value c.in_ok-site.ensures.code c.in_ok-site.ensures.site c.is_byte.ensures
    c.in_ok-object.ensures c.keep.ensures
