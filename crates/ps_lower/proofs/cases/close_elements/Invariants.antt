use Rattle.std.proofs.Common.{◌≡◌, ℕ, List, ◌∷◌, [], ◌++◌, length, drop}
use Rattle.ps_tree.specs.Tree.{Elements}
use Rattle.tac_code.specs.declared.code.Instruction.{Instruction}
use Rattle.tac_code.specs.declared.code.Instruction.TheVariants as i
use Rattle.ps_lower_code.specs.Scopes.{Scope}
use Rattle.ps_lower_code.specs.Statements.{elements_code}
use Rattle.ps_lower.specs.Cases.{open_elements, ends_from}
use Rattle.ps_lower.proofs.Elements.{Closing}
use Rattle.ps_lower.proofs.cases.close_elements.Given as goal

abbrev pub invariant-loop-end : goal.invariant-loop-end
invariant-loop-end l = (k : Scope) (before : List Instruction) (elements : Elements) (d line : ℕ) → l.fn.out ≡ before
    ++ (open_elements k elements d ++ i.Trap 7 line ∷ []) → l.ends ≡ ends_from k elements d (length before)
    → Closing k d line (before ++ elements_code k elements d line) l.out (drop l.end-index l.ends)
