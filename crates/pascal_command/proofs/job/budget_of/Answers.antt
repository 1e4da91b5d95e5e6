use Rattle.std.proofs.Common.{◌≡◌, ◌∙◌, Some, arith}
use Rattle.std.specs.Str.Parse.{ExplainsUnsignedError, HasUnsignedDigitsIfOk, ParsesUnsigned}
use Rattle.clap.specs.Words.{found_of}
use Rattle.clap.proofs.WalkLemmas.{one_text-rows}
use Rattle.pascal_command.specs.App.{whole}
use Rattle.pascal_command.specs.declared.job.TheConstants.{MAX_BUDGET}
use Rattle.pascal_command.proofs.RowReads.{reads_whole}
use Rattle.pascal_command.proofs.job.budget_of.Goals as goal

pub returns-clause-none : goal.returns-clause-none
returns-clause-none c = λ e.
    let none = c.get_one.ensures.none (one_text-rows (found_of c.args.matches.now) c.args.name.now ∙ e) in
    let kept : c.unwrap_or.result ≡ c.args.default = rw none at c.unwrap_or.ensures in
    grind (arith, kept)

pub returns-clause-some : goal.returns-clause-some
returns-clause-some c = λ text e within.
    let one = c.get_one.ensures.value text (one_text-rows (found_of c.args.matches.now) c.args.name.now ∙ e) in
    let some : c.get_one.result ≡ Some (whole text) = reads_whole _
    (λ bs r. ParsesUnsigned 32 10 bs r × ExplainsUnsignedError 10 bs r × HasUnsignedDigitsIfOk bs r) 32 MAX_BUDGET
    text c.get_one.result one (λ u x g. g.0) (omega arith) within.0 within.2 in
    let kept : c.unwrap_or.result ≡ whole text = rw some at c.unwrap_or.ensures in
    grind (arith, kept)
