-- A run that costs nothing is never stopped for stack or heap.
use Rattle.std.proofs.Common.{◌≡◌, ℕ, List, [], Bool, true, false}
use Rattle.ps_tree.specs.Tree.{Program}
use Rattle.behavior.specs.Endings.{IsStop}
use Rattle.ps_meaning.specs.Run.{costs_of, run}
use Rattle.ps_meaning.proofs.Laws.{no_cost, never}
use Rattle.ps_meaning.proofs.Avoids.{Excluded, run_avoids}

not_both : {A : Type 0} (t : Bool) → t ≡ false → t ≡ true → A
not_both t h k = absurd (cc)

costless : Excluded IsStop (costs_of [] [] 0 0)
costless = record {
  more = λ h. h;
  normal = λ h. h;
  error = λ number line calls h. h;
  stack = λ active line passes h. not_both _ (never _ (no_cost active)) passes;
  heap = λ made line passes h. not_both _ (never _ (no_cost made)) passes;
}

pub costless_never_stops : (program : Program) (input : List ℕ) (n : ℕ) → IsStop (run program input n).1 → ⊥
costless_never_stops program = run_avoids IsStop program (costs_of [] [] 0 0) costless
