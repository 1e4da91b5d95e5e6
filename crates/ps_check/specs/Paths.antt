-- The blocks of a program by their paths in the whole tree, and the regions in which each is read (6.2.2).
use Rattle.std.specs.Prelude.{◌≡◌, ℕ, List, [], ◌∷◌, Option, Some, None, slice_get, option_and_then}
use Rattle.ps_syntax.specs.declared.program.Block.{Block, out-Block}
use Rattle.ps_syntax.specs.declared.program.Routine.{Routine, out-Routine}
use Rattle.ps_syntax.specs.declared.program.Routine.TheOpen.{Routine-F}
use Rattle.ps_syntax.specs.declared.program.Program as syntax
use Rattle.ps_tree.specs.Tree as Tree
use Rattle.ps_check_judgement.specs.Judged.{Yes, steps}
use Rattle.ps_check_names.specs.Regions.{Region, BlockRegion, Meaning, Context}
use Rattle.ps_check.specs.Readings.{Start, Gathered, Done}
use Rattle.ps_check.specs.Blocks.{block, layer}
use Rattle.ps_check.specs.Programs.{Files, no_files, list_file, program, program_context, required}
use Rattle.ps_check.specs.RegionNames.{AreNames}

abbrev pub layer_block : Routine-F Routine Block → Option Block
layer_block (Routine-F.Whole h b) = Some b
layer_block (Routine-F.Forward h) = None
layer_block (Routine-F.Completion name b) = Some b

-- the block of a routine
unfoldable pub routine_block : Routine → Option Block
routine_block r = layer_block (out-Routine r)

-- The block at a path, which lists routines from the inside out: at k before a path v, that of routine k of the block
-- at v.
unfoldable pub block_at : Block → List ℕ → Option Block
block_at b [] = Some b
block_at b (k ∷ v) = option_and_then (λ a. option_and_then routine_block (slice_get (out-Block a).routines k))
    (block_at b v)

-- The regions that enclose the block at a path, from the inside out: those of the blocks around it, each with all its
-- defining points in the tree, including those after the place, and the region of the required names around the
-- program. Left open are the numbers of the blocks' routines, the meanings of the names, and which names come before a
-- block's own.
pub data IsEnclosed (c : Context) (root : Block) : List ℕ → List Region → Type 0 where
  outermost : IsEnclosed c root [] (required ∷ [])
  within : (k number : ℕ) (v : List ℕ) (a : Block) (first names : List (List ℕ)) (known : List Meaning)
      (Γ : List Region) → block_at root v ≡ Some a → AreNames c.text (layer c a) first names → IsEnclosed c root v Γ
      → IsEnclosed c root (k ∷ v) (BlockRegion number names known ∷ Γ)

-- a block of the tree is read in the regions that enclose it
pub record IsRead (c : Context) (root : Block) (v : List ℕ) (b : Block) : Type 0 where
  pub regions : List Region
  pub start : Start
  pub gathered : Gathered
  pub done : Done
  pub reading : block c b regions start gathered ≡ Yes done
  pub enclosed : IsEnclosed c root v regions

-- each block of a program that has a checked tree
pub record BlocksAreRead (text : List ℕ) (p : syntax.Program) : Type 0 where
  pub files : Files
  pub listed : steps (list_file text) no_files p.parameters ≡ Yes files
  pub each : (v : List ℕ) (b : Block) → block_at p.block v ≡ Some b → IsRead (program_context text files) p.block v b

abbrev pub BlocksAreEnclosed : Type 0
BlocksAreEnclosed = (text : List ℕ) (p : syntax.Program) (made : Tree.Program) → program text p ≡ Yes made
    → BlocksAreRead text p
