use Rattle.std.proofs.Common.{map}
use Rattle.ps_tree.specs.View.{place_of}
use Rattle.ps_check_names.specs.Views.{scope_of}
use Rattle.ps_check_expressions.specs.View.{context_at, regions_at}
use Rattle.ps_check_statements.proofs.Opening.{opened_next}
use Rattle.ps_check_statements.proofs.with_statements.open_next.Goals as goal

pub returns-clause-opened : goal.returns-clause-opened
unfolding scope_of
returns-clause-opened c =
    let h = rw (c.within.ensures.context, c.within.ensures.regions) at
    (c.in_ok-place.ensures (map place_of c.args.places.now.items)) in
    opened_next (context_at c.args.site.now) (regions_at c.args.site.now) c.args.variable.now c.args.places.now.items
    c.push.new.self.items c.args.opened.records.items c.in_ok-all.all.records.items c.in_ok-place.place
    c.in_ok-place.ty _ _ h c.in_ok-push.ensures.items c.in_ok-all.ensures.records
