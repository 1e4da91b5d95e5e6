-- What a program means always says what comes next: no run is stuck.
use Rattle.std.proofs.Common.{ℕ, List}
use Rattle.ps_tree.specs.Tree.{Program}
use Rattle.ps_meaning.specs.Statements.{Costs}
use Rattle.ps_meaning.specs.Run.{costs_of, run_within}
use Rattle.ps_meaning.proofs.Avoids.{Excluded, run_avoids}
use Rattle.ps_lower_laws.specs.Lowers.{IsStuck}

never_stuck : (costs : Costs) → Excluded IsStuck costs
never_stuck costs = record {
  more = λ h. h;
  normal = λ h. h;
  error = λ number line calls h. h;
  stack = λ active line passes h. h;
  heap = λ made line passes h. h;
}

pub meaning_goes_on : (program : Program) (F G : List ℕ) (S H : ℕ) (input : List ℕ) (n : ℕ) → IsStuck
    (run_within program F G S H input n).1 → ⊥
meaning_goes_on program F G S H = run_avoids IsStuck program (costs_of F G S H) (never_stuck (costs_of F G S H))
