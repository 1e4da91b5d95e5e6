use Rattle.std.proofs.Common.{◌∷◌, []}
use Rattle.tac_code.specs.declared.code.Base.TheVariants as base
use Rattle.tac_code.specs.declared.code.Instruction.TheVariants as i
use Rattle.ps_tree.specs.Tree.{domain_at}
use Rattle.ps_lower_layout.specs.Shapes.{shape_of}
use Rattle.ps_lower_code.specs.Statements.{first_code}
use Rattle.ps_lower.specs.Levels.{scope_of}
use Rattle.ps_lower.proofs.Arms.{behind}
use Rattle.ps_lower.proofs.objects.object.Goals as goal

pub returns : goal.returns
returns c = behind c.first_of_domain.result c.first_of_domain.new.out c.push_at.new.self c.args.out.now
    (i.New c.args.to c.args.pointer c.args.line.number ∷ [])
    (first_code (scope_of c.args.level.now) (base.Temporary c.args.to) c.args.t 0
    (shape_of (domain_at (scope_of c.args.level.now).program c.args.pointer))) c.in_ok-push_at.ensures
    c.first_of_domain.ensures
