-- A block being filled with first values: its words are placed piece by piece, before a ghost or an object represents
-- them.
use Rattle.std.specs.Prelude.{◌≡◌, ℕ, ◌<◌, ◌≤◌, List}
use Rattle.tac_code.specs.declared.code.Block.{Block}
use Rattle.tac_code.specs.declared.code.Base.{Base}
use Rattle.tac_code.specs.Memory.{Words, Memory}
use Rattle.tac_code.specs.Meaning.{State, Tape}
use Rattle.tac_code_steps.specs.Runs.{Comes}
use Rattle.tac_code_steps.specs.Splices.{Piece, placed}
use Rattle.ps_lower_relation.specs.Here.{Setting, machine_of, Work, Activated, activation}

-- the base by which the code names the block, the block, and what there is besides its words and those of the scratch
-- block
pub record Filling : Type 0 where
  pub base : Base
  pub block : Block
  pub memory : (scratch words : Words) → Memory
  pub heap : ℕ
  pub tape : Tape

abbrev pub filling : Setting → Activated → Filling → Words → Work → (place : ℕ) → State
filling p c f words k pc = record {
  current = activation c pc k.temporaries;
  callers = c.callers;
  memory = f.memory k.scratch words;
  count = k.count;
  heap = f.heap;
  tape = f.tape;
}

-- Code from pc to pc' places these pieces, and writes no temporary below `free`.
pub record Fills (p : Setting) (c : Activated) (f : Filling) (free : ℕ) (words : Words) (k : Work) (pc pc' : ℕ)
    (pieces : List Piece) : Type 0 where
  pub work : Work
  pub temporaries : (i : ℕ) → i < free → work.temporaries i ≡ k.temporaries i
  pub scratch : work.scratch ≡ k.scratch
  pub count : k.count ≤ work.count
  pub comes : Comes (machine_of p) (filling p c f words k pc) (filling p c f (placed pieces words) work pc')
