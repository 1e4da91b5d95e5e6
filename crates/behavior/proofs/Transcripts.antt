-- What transcripts write, and how they go on.
use Rattle.std.proofs.Common.{◌≡◌, ℕ, List, ◌++◌, nat_lt}
use Rattle.std.proofs.lemmas.List.Elements.{filter-append}
use Rattle.behavior.specs.Transcripts.{mark, output}

pub output_appends : (a b : List ℕ) → output (a ++ b) ≡ output a ++ output b
output_appends a b = filter-append (λ n. nat_lt n mark) a b
