-- What a refusal at a token tells of the beginnings of programs.
use Rattle.std.proofs.Common.{rules}
use Rattle.ps_diagnose.proofs.Beginning.{begun_at_end, not_a_program, not_in_profile, too_deep, deep_before}
use Rattle.ps_diagnose.proofs.begun.refused_at.Goals as goal

pub returns-in-NotAProgram : goal.returns-in-NotAProgram
returns-in-NotAProgram c = not_a_program c.args.source.now c.args.tokens.now c.args.at c.args.fault c.requires
    (search rules) (search rules)

pub returns-in-NotInProfile : goal.returns-in-NotInProfile
returns-in-NotInProfile c = not_in_profile c.args.source.now c.args.tokens.now c.args.at c.args.fault c.requires
    (search rules) (search rules)

pub returns-in-TooDeep : goal.returns-in-TooDeep
returns-in-TooDeep c = too_deep c.args.source.now c.args.tokens.now c.args.at c.args.fault c.requires (search rules)
    (search rules)

pub returns-in-TooDeep-2 : goal.returns-in-TooDeep-2
returns-in-TooDeep-2 c = deep_before c.args.source.now c.args.tokens.now c.args.at c.args.fault c.requires
    (search rules) (search rules)
