use Rattle.std.proofs.Common.{inl}
use Rattle.pascal_cli.proofs.certificates.no_stack.Goals as goal

pub returns-in_default : goal.returns-in_default
returns-in_default c = inl (c.args.refusal, c.requires, c.in_default.not-OutOfMemory)
