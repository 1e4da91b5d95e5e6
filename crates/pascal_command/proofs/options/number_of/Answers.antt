use Rattle.std.proofs.Common.{◌≡◌, true, Err}
use Rattle.std.specs.Char.{is_ascii_digit}
use Rattle.std.specs.List.{list_all}
use Rattle.pascal_command.proofs.Numbers.{read}
use Rattle.pascal_command.proofs.options.number_of.Goals as goal

pub returns-in-Err-clause-none : goal.returns-in-Err-clause-none
returns-in-Err-clause-none c =
    let all : list_all is_ascii_digit c.args.text.now ≡ true =
    (cc c.is_digits.ensures) in
    (read c.args.text.now (Err c.in-Err.field-0) all c.in-Err.ensures.value.0).1
