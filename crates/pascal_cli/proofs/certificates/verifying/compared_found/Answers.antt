use Rattle.std.proofs.Common.{List, ℕ, map}
use Rattle.std.specs.Borrow.{Bor}
use Rattle.pascal_cli.proofs.Certified.{compared_ok}
use Rattle.pascal_cli.proofs.certificates.verifying.compared_found.Goals as goal

pub returns : goal.returns
returns c =
    compared_ok c.compared.result (map (λ (value : Bor (List ℕ)). value.now) c.args.values.now) c.args.found.now
    c.args.pair.now.source.items c.args.pair.now.image.items c.compared.ensures.holds c.requires.stack.0
    c.requires.stack.1 c.requires.stack.2 c.compared.ensures.certifies c.requires.found.0 c.requires.found.1
    c.requires.found.2
