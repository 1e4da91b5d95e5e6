use Rattle.std.proofs.Common.{true, ◌∷◌, [], pos, None}
use Rattle.ps_tree.specs.declared.tree.operators.Range.TheVariants.{Within}
use Rattle.tac_code.specs.declared.code.Instruction.TheVariants as i
use Rattle.tac_rt.specs.declared.run_time.RunTime.TheVariants.{ReadCharacter}
use Rattle.ps_lower_code.specs.Scopes.{greatest, fitting_code, helper}
use Rattle.ps_lower.specs.Levels.{scope_of}
use Rattle.ps_lower.proofs.Appends.{and_then}
use Rattle.ps_lower.proofs.Arms.{behind}
use Rattle.ps_lower.proofs.reads.take_character.Goals as goal

pub returns : goal.returns
returns c =
    behind c.byte_fits.result c.byte_fits.new.out c.check_range.new.self c.args.out.now
    (helper (scope_of c.args.level.now) ReadCharacter (c.args.a ∷ []) c.args.a ∷ i.CheckRange c.args.a
    (pos 0) greatest 9 c.args.line.number ∷ []) (fitting_code true None c.args.a
    (Within c.args.low.now c.args.high.now) c.args.line.number)
    (and_then c.args.out.now c.help.new.out c.check_range.new.self
    (helper (scope_of c.args.level.now) ReadCharacter (c.args.a ∷ []) c.args.a ∷ [])
    (i.CheckRange c.args.a (pos 0) greatest 9 c.args.line.number ∷ [])
    c.in_ok-help.ensures c.in_ok-check_range.ensures)
    c.byte_fits.ensures
