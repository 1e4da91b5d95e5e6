use Rattle.std.proofs.Common.{◌∷◌, [], pos}
use Rattle.tac_code.specs.declared.code.Instruction.TheVariants as i
use Rattle.tac_rt.specs.declared.run_time.RunTime.TheVariants.{ReadLine}
use Rattle.ps_lower_code.specs.Scopes.{helper}
use Rattle.ps_lower.specs.Levels.{scope_of}
use Rattle.ps_lower.proofs.Arms.{behind}
use Rattle.ps_lower.proofs.reads.take_line.Goals as goal

pub returns : goal.returns
returns c =
    behind c.check_range.result c.check_range.new.self c.help.new.out c.args.out.now
    (helper (scope_of c.args.level.now) ReadLine (c.args.a ∷ []) c.args.a ∷ [])
    (i.CheckRange c.args.a (pos 0) (pos 0) 9 c.args.line.number ∷ [])
    c.in_ok-help.ensures c.check_range.ensures
