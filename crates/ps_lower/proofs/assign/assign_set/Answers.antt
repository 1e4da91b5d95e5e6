use Rattle.ps_tree.specs.View.{place_of, set_of}
use Rattle.ps_lower.specs.Levels.{scope_of, site_of}
use Rattle.ps_lower.proofs.Gathering.{assign_set_told}
use Rattle.ps_lower.proofs.assign.assign_set.Goals as goal

pub returns : goal.returns
returns c =
    assign_set_told (scope_of c.args.level.now)
    (place_of c.args.target.now) c.args.members.low.now c.args.members.high.now
    (set_of c.args.e.now) c.args.line.number c.args.d c.held-at.result c.even_above-t.result c.next.result
    (site_of c.in_ok-site.site) c.keep_set.result c.keep_set.new.out c.check_set.new.out c.set.new.out
    c.place.new.out c.args.out.now
    c.held-at.ensures.value c.even_above-t.ensures.value c.next.ensures.value c.in_ok-site.ensures.code
    c.in_ok-site.ensures.site c.in_ok-set.ensures c.in_ok-check_set.ensures c.keep_set.ensures
