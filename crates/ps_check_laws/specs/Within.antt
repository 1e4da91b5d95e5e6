-- The routines nested in a block, whose changes of its variables and of its function's result count for it (6.6.2,
-- 6.8.3.9).
use Rattle.std.specs.Prelude.{◌≡◌, ◌<◌, ℕ, ◌+◌, List, ◌∷◌, ◌++◌, length, Option, Some, slice_get}
use Rattle.ps_syntax.specs.declared.program.Block.{Block}
use Rattle.ps_syntax.specs.declared.program.Program as syntax
use Rattle.ps_tree.specs.Tree as Tree
use Rattle.ps_check.specs.Paths.{block_at}
use Rattle.ps_check_laws.specs.Denoting.{headings_within, first_number, number_at}

-- path u leads further in than path v
pub record IsWithin (v u : List ℕ) : Type 0 where
  pub inner : List ℕ
  pub number : ℕ
  pub is : u ≡ inner ++ number ∷ v

module _ (text : List ℕ) (p : syntax.Program) (made : Tree.Program) (v : List ℕ) (base : ℕ)
    (taken : List (Option Tree.Routine)) where
  -- the i-th of the routines taken is the one whose block is at path u, within the block at v
  pub record IsTaken (u : List ℕ) (i : ℕ) : Type 0 where
    pub within : IsWithin v u
    pub block : Block
    pub there : block_at p.block u ≡ Some block
    pub number : number_at text p u ≡ Some (base + i)
    pub routine : Tree.Routine
    pub is : slice_get taken i ≡ Some (Some routine)
    pub checked : slice_get made.routines (base + i) ≡ Some routine

-- the routines taken are those within block b, which is at path v, each once
pub record AreThoseWithin (text : List ℕ) (p : syntax.Program) (made : Tree.Program) (v : List ℕ) (b : Block)
    (taken : List (Option Tree.Routine)) : Type 0 where
  pub base : ℕ
  pub first : first_number text p v ≡ Some base
  pub many : length taken ≡ headings_within text b
  pub each : (u : List ℕ) (x : Block) → IsWithin v u → block_at p.block u ≡ Some x → (i : ℕ)
      × IsTaken text p made v base taken u i
  pub only : (i : ℕ) → i < length taken → (u : List ℕ) × IsTaken text p made v base taken u i
