-- Forward headings and their blocks (6.6.1, 6.6.2), stated of the routines of a block in the tree.
use Rattle.std.specs.Prelude.{◌≡◌, ◌<◌, ℕ, Bool, true, false, ◌&&◌, not, List, Some, slice_get}
use Rattle.ps_syntax.specs.declared.program.Heading.{Heading, out-Heading}
use Rattle.ps_syntax.specs.declared.program.Heading.TheOpen.{Heading-F}
use Rattle.ps_syntax.specs.declared.program.Block.{Block, out-Block}
use Rattle.ps_syntax.specs.declared.program.Routine.{Routine, out-Routine}
use Rattle.ps_syntax.specs.declared.program.Routine.TheOpen.{Routine-F}
use Rattle.ps_syntax.specs.declared.program.Program as syntax
use Rattle.ps_tree.specs.Tree as Tree
use Rattle.ps_check_judgement.specs.Judged.{Yes}
use Rattle.ps_check_names.specs.Spelling.{spelled}
use Rattle.ps_check.specs.Readings.{HeadingLayer, is_bare}
use Rattle.ps_check.specs.Paths.{block_at}
use Rattle.ps_check.specs.Programs.{program}
use Rattle.ps_check_laws.specs.Definitions.{routine_name}

abbrev pub layer_is_function : HeadingLayer → Bool
layer_is_function (Heading-F.Procedure name xs) = false
layer_is_function (Heading-F.Function name xs type) = true

unfoldable pub is_function : Heading → Bool
is_function h = layer_is_function (out-Heading h)

-- `procedure` before only a name and a block completes the forward heading of a procedure, and `function` that of a
-- function
abbrev pub layer_completes : Heading → Routine-F Routine Block → Bool
layer_completes h (Routine-F.Whole g b) = is_bare g && not (is_function h)
layer_completes h (Routine-F.Forward g) = false
layer_completes h (Routine-F.Completion name b) = is_function h

-- routine y is the block of the forward heading x
pub record Completes (text : List ℕ) (x y : Routine) : Type 0 where
  pub heading : Heading
  pub forward : out-Routine x ≡ Routine-F.Forward heading
  pub named : spelled text (routine_name y) ≡ spelled text (routine_name x)
  pub block : layer_completes heading (out-Routine y) ≡ true

-- forward heading k has its block later on
pub record HasBlock (text : List ℕ) (rs : List Routine) (k : ℕ) (x : Routine) : Type 0 where
  pub number : ℕ
  pub behind : k < number
  pub routine : Routine
  pub there : slice_get rs number ≡ Some routine
  pub completes : Completes text x routine

-- each forward heading has its block, and of two routines with the same name the second is the block of the first
pub record AreCompleted (text : List ℕ) (rs : List Routine) : Type 0 where
  pub each : (k : ℕ) (x : Routine) (h : Heading) → slice_get rs k ≡ Some x → out-Routine x ≡ Routine-F.Forward h
      → HasBlock text rs k x
  pub only : (k j : ℕ) (x y : Routine) → k < j → slice_get rs k ≡ Some x → slice_get rs j ≡ Some y → spelled text
      (routine_name y) ≡ spelled text (routine_name x) → Completes text x y

-- the same in each block
abbrev pub BlocksAreCompleted : List ℕ → syntax.Program → Type 0
BlocksAreCompleted text p = (v : List ℕ) (b : Block) → block_at p.block v ≡ Some b → AreCompleted text
    (out-Block b).routines

abbrev pub ForwardHeadingsHaveBlocks : Type 0
ForwardHeadingsHaveBlocks = (text : List ℕ) (p : syntax.Program) (made : Tree.Program) → program text p ≡ Yes made
    → BlocksAreCompleted text p
