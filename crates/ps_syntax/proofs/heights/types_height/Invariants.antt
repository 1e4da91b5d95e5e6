use Rattle.ps_syntax.specs.declared.program.TypeDefinition.{TypeDefinition}
use Rattle.ps_syntax.specs.Height.{height_of_type}
use Rattle.ps_syntax.proofs.Greatest.{Reached}
use Rattle.ps_syntax.proofs.heights.types_height.Given as goal

abbrev pub invariant-loop-definition : goal.invariant-loop-definition
invariant-loop-definition l = Reached 4294967295
    (λ (d : TypeDefinition). height_of_type d.ty) l.definitions l.definition-index l.most
