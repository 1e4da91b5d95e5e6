use Rattle.std.proofs.Common.{ap, ◌∙◌}
use Rattle.ps_check_declarations.specs.Points.{add_name}
use Rattle.ps_check_declarations.proofs.HidingLemmas.{entering_next, entering_end}
use Rattle.ps_check_declarations.proofs.hiding.add_all.Goals as goal

pub loop-name-preserved : goal.loop-name-preserved
loop-name-preserved c = entering_next (λ v. v.items) c.args.hiding.now c.args.names.now c.loop-name.name-index
    c.loop-name.hiding c.name-item.result c.add_copy.new.hiding c.loop-name-test.true c.name-item.is
    c.loop-name.invariant
    (c.in_ok-add_copy.ensures ∙ ap (add_name c.loop-name.hiding) c.as_slice.ensures.value)

pub returns : goal.returns
returns c = entering_end (λ v. v.items) c.args.hiding.now c.args.names.now c.loop-name.name-index c.loop-name.hiding
    c.loop-name-test.false c.loop-name.invariant
