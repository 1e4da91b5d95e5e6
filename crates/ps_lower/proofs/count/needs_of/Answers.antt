use Rattle.std.proofs.Common.{refl, ap, ◌∙◌}
use Rattle.ps_lower_code.specs.Programs.{temporaries_in, named_in, scratch_in, meant_by}
use Rattle.ps_lower.proofs.Largest.{largest_start, largest_next, largest_all}
use Rattle.ps_lower.proofs.count.needs_of.Goals as goal

pub loop-instruction-init : goal.loop-instruction-init
loop-instruction-init c = (largest_start temporaries_in _, largest_start scratch_in _)

pub loop-instruction-preserved : goal.loop-instruction-preserved
loop-instruction-preserved c = (
  largest_next temporaries_in named_in
      (λ x xs. refl) _ _ _ _ _ c.instruction-item.result c.loop-instruction-test.true c.loop-instruction.invariant.0
      (c.named_in.ensures ∙ ap named_in c.instruction-item.is) c.larger-temporaries.ensures,
  largest_next scratch_in meant_by
      (λ x xs. refl) _ _ _ _ _ c.instruction-item.result c.loop-instruction-test.true c.loop-instruction.invariant.1
      (c.meant_by.ensures ∙ ap meant_by c.instruction-item.is) c.larger-scratch.ensures,
)

pub returns-clause-temporaries : goal.returns-clause-temporaries
returns-clause-temporaries c =
    largest_all temporaries_in refl _ _ _ c.loop-instruction-test.false c.loop-instruction.invariant.0

pub returns-clause-scratch : goal.returns-clause-scratch
returns-clause-scratch c =
    largest_all scratch_in refl _ _ _ c.loop-instruction-test.false c.loop-instruction.invariant.1
