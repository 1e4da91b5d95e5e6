use Rattle.std.proofs.Common.{ap, List, ℕ, [], ◌∷◌}
use Rattle.pascal_cli.proofs.certificates.maker.Goals as goal

pub returns : goal.returns
returns c =
    let target : List ℕ = c.as_bytes.result.now in
    let rest : List (List ℕ) = c.as_bytes-2.result.now ∷ c.as_bytes-3.result.now ∷ c.known_text-2.result.now
    ∷ c.known_sum.result.now ∷ c.known_size.result.now ∷ c.as_bytes-4.result.now ∷ [] in
    (target, rest, ap (λ stack. target ∷ stack ∷ rest) c.known_text.ensures)
