-- The rule on control variables (6.8.3.9), stated of the checked program alone: of the `for` statements of each block,
-- the statements that they repeat, and the routines within the block.
use Rattle.std.specs.Prelude.{◌≡◌, ℕ, ◌+◌, false, List, length, Some, slice_get}
use Rattle.ps_syntax.specs.declared.program.Block.{Block}
use Rattle.ps_syntax.specs.declared.program.Program as syntax
use Rattle.ps_tree.specs.Tree as Tree
use Rattle.ps_check_judgement.specs.Judged.{Yes}
use Rattle.ps_check.specs.Programs.{program}
use Rattle.ps_check.specs.RegionNames.{Each}
use Rattle.ps_check.specs.Paths.{block_at}
use Rattle.ps_check_laws.specs.Denoting.{number_at}
use Rattle.ps_check_laws.specs.Within.{IsWithin}
use Rattle.ps_check_laws.specs.Controls.{Loop, statements_loops}
use Rattle.ps_check_laws.specs.Threats.{is_entry, statement_threatens, statements_threaten}

module _ (text : List ℕ) (p : syntax.Program) (made : Tree.Program) where
  -- the checked routine of the block at a path
  pub record IsRoutineAt (v : List ℕ) (r : Tree.Routine) : Type 0 where
    pub number : ℕ
    pub numbered : number_at text p v ≡ Some number
    pub checked : slice_get made.routines number ≡ Some r

  -- A `for` statement of the block at a path: the control variable is threatened neither by the statement that it
  -- repeats nor by a routine within the block; for the routine the variable is as many blocks out as the routine is
  -- deep in this block.
  pub record IsSafe (v : List ℕ) (loop : Loop) : Type 0 where
    pub itself : Each (λ e. is_entry 0 loop.0 e ≡ false) (statement_threatens loop.1)
    pub within : (u : List ℕ) (w : IsWithin v u) (x : Block) (q : Tree.Routine) → block_at p.block u ≡ Some x
        → IsRoutineAt u q → Each (λ e. is_entry (length w.inner + 1) loop.0 e ≡ false) (statements_threaten q.body)

-- the same for all of an accepted program
abbrev pub ControlVariablesAreSafe : Type 0
ControlVariablesAreSafe = (text : List ℕ) (p : syntax.Program) (made : Tree.Program) → program text p ≡ Yes made
    → (v : List ℕ) (b : Block) (r : Tree.Routine) → block_at p.block v ≡ Some b → IsRoutineAt text p made v r → Each
    (IsSafe text p made v) (statements_loops r.body)
