-- One line more.
use Rattle.std.proofs.Common.{◌<◌, length, sym, ap, ◌∙◌, subst}
use Rattle.risc_emit_trail.proofs.Filled.{counted, push_fills}
use Rattle.risc_emit_trail.proofs.lines.Trail.push.Goals as goal

pub invariant_of-self : goal.invariant_of-self
invariant_of-self c = push_fills c.self.inside c.args.line c.self.invariant
    (subst (λ n. n < 16) (ap length (sym c.self.view_is) ∙ counted c.self.inside c.self.invariant) c.requires)
