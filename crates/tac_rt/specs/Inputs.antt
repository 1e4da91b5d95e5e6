-- The two words that record what was taken ahead of the input, and the tape that goes with them.
use Rattle.std.specs.Prelude.{◌≡◌, ℕ, ◌+◌, ℤ, pos, negsuc, ◌&&◌, ◌==◌, if◌then◌else◌, List, [], ◌∷◌, drop, Option}
use Rattle.std.specs.Prelude.{Some, None}
use Rattle.tac_code.specs.declared.code.Block.{Block}
use Rattle.tac_code.specs.declared.code.Value.TheVariants.{Number}
use Rattle.tac_code.specs.Memory.{Memory, Constants, load}
use Rattle.tac_code.specs.Meaning.{Tape}
use Rattle.ps_meaning.specs.Text.{Input, is_empty}

-- what was taken ahead: a byte, or -1 for the end
abbrev pub first_or_end : List ℕ → ℤ
first_or_end [] = negsuc 0
first_or_end (b ∷ rest) = pos b

-- -2 where nothing was
abbrev pub ahead : Input → ℤ
ahead i = if i.looked then first_or_end i.left else negsuc 1

abbrev pub begun : Input → ℤ
begun i = if i.in_line then pos 1 else pos 0

-- what was looked at was taken, and marked
abbrev pub tape_of : Input → (transcript : List ℕ) → Tape
tape_of i transcript = record {
  input = if i.looked then drop 1 i.left else i.left;
  ended = i.looked && is_empty i.left;
  transcript = transcript;
}

pub record InputAt (constants : Constants) (memory : Memory) (block : Block) (offset : ℕ) (i : Input) : Type 0 where
  pub ahead : load constants memory block offset ≡ Some (Number (ahead i))
  pub begun : load constants memory block (offset + 4) ≡ Some (Number (begun i))

-- what comes next: 0 nothing, 1 a line end, 2 another character
abbrev pub kind_of : Option ℕ → ℤ
kind_of None = pos 0
kind_of (Some b) = if b == 10 then pos 1 else pos 2
