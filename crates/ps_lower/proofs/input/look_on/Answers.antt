use Rattle.std.proofs.Common.{◌∷◌, [], pos}
use Rattle.tac_code.specs.declared.code.Instruction.TheVariants as i
use Rattle.tac_rt.specs.declared.run_time.RunTime.TheVariants.{LookAhead}
use Rattle.ps_lower_code.specs.Scopes.{even_from, helper, input_site, site_code}
use Rattle.ps_lower.specs.Levels.{scope_of}
use Rattle.ps_lower.proofs.Looking.{look_on_told}
use Rattle.ps_lower.proofs.input.look_on.Goals as goal

pub returns : goal.returns
returns c = look_on_told c.check_range.result c.check_range.new.self c.look_ahead.new.out c.args.out.now
    (site_code (even_from c.args.d) (input_site (scope_of c.args.level.now)) 8)
    (helper (scope_of c.args.level.now) LookAhead (even_from c.args.d ∷ []) c.args.d)
    (i.CheckRange c.args.d (pos 1) (pos 2) 9 c.args.line.number) c.in_ok-look_ahead.ensures c.check_range.ensures
