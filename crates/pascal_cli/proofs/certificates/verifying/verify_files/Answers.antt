use Rattle.std.proofs.Common.{List, ℕ, map}
use Rattle.std.specs.Borrow.{Bor}
use Rattle.pascal_cli.specs.Failures.{has_failed}
use Rattle.pascal_cli.proofs.Answered.{some_files}
use Rattle.pascal_cli.proofs.certificates.verifying.verify_files.Goals as goal

pub returns-in-Some : goal.returns-in-Some
returns-in-Some g c =
    some_files c.verify_pair.result (has_failed c.verify_pair.new.failures) c.in-Some.pair.source.items
    c.in-Some.pair.image.items (map (λ (value : Bor (List ℕ)). value.now) c.args.values.now) c.verify_pair.ensures
