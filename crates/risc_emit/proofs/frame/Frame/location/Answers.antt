use Rattle.std.proofs.Common.{ap, ◌∙◌}
use Rattle.risc_emit_relation.specs.Context.{home}
use Rattle.risc_emit.specs.Frames.{Place, context_of}
use Rattle.risc_emit.proofs.Homes.{home_is, register_below}
use Rattle.risc_emit.proofs.frame.Frame.location.Goals as goal

pub location_of-requires : goal.location_of-requires
location_of-requires c =
    register_below _ _ _ _ c.args.temporary c.home_in.result c.self.invariant.1 c.home_in.ensures

pub returns : goal.returns
returns c =
    c.location_of.ensures ∙ (home_is _ _ _ _ c.args.temporary c.home_in.result c.self.invariant.1 c.home_in.ensures
    ∙ ap (λ (p : Place). home (context_of p) p.number c.args.temporary) c.self.view_is)
