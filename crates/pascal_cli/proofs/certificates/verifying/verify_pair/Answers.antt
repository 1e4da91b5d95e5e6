use Rattle.std.proofs.Common.{List, ℕ, map}
use Rattle.std.specs.Borrow.{Bor}
use Rattle.pascal_cli.specs.Certificates.{AreCertified, AreOthers}
use Rattle.pascal_cli.proofs.Failed.{told_by}
use Rattle.pascal_cli.proofs.certificates.verifying.verify_pair.Goals as goal

pub returns : goal.returns
returns g c =
    let values = map (λ (value : Bor (List ℕ)). value.now) c.args.values.now in
    told_by (AreCertified c.args.pair.now.source.items c.args.pair.now.image.items values)
    (AreOthers c.args.pair.now.source.items c.args.pair.now.image.items values) c.in-Some.comparison.holds _
    c.in-Some.ensures.compared.0 c.in-Some.ensures.compared.1
